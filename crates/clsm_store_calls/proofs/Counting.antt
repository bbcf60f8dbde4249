-- How many writes of a key stand, as the past goes on.
use Rattle.std.proofs.Common.{◌≡◌, ℕ, zero, suc, ◌+◌, ◌-◌, ◌≤◌, ◌++◌, ◌∷◌, [], List, Bool, true, cond, length, take, get_or, refl, sym, ap, ◌∙◌, subst, arith}
use Rattle.std.proofs.Common.{eq-eqb}
use Rattle.std.proofs.Common.{Option}
use Rattle.std.specs.Fn.{iterate}
use Rattle.std.specs.List.{count_by}
use Rattle.std.proofs.Math.Seq.{take-append-add}
use Rattle.std.proofs.lemmas.List.Sums.{sum_by-cons}
use mathlib.Core.List.{IsPrefix}
use Rattle.clsm_model.specs.declared.slot.Slot.{Slot}
use Rattle.clsm_model.specs.declared.slot.Slot.TheVariants.{Nothing, Wrote}
use Rattle.clsm_law.specs.Views.{next_word}
use Rattle.clsm_store_calls.specs.Changing.{is_write_of, writes_from}
use Rattle.clsm_store_calls.specs.Seats.{CountsUpTo}

-- a slot more
more : (p : Slot → Bool) (x : Slot) (xs : List Slot) → count_by p (x ∷ xs) ≡ cond (p x) 1 0 + count_by p xs
more p x xs = sum_by-cons (λ s. cond (p s) 1 0) x xs

-- where a write of the key stands from the time on, at least one does
stands_one : (key from t seat : ℕ) (written : Option (List ℕ)) (l : List Slot) → from ≤ t → get_or l t Nothing ≡ Wrote seat key written
    → 1 ≤ writes_from l key from
stands_one key from t seat written [] le is = absurd cc
stands_one key zero zero seat written (x ∷ xs) le is =
    let one = more (is_write_of key) x xs in
    let yes : is_write_of key x ≡ true = ap (is_write_of key) is ∙ eq-eqb key key refl in
    let here = ap {A = Bool} {B = ℕ} (λ b. cond {A = ℕ} b 1 0) yes in
    omega (arith, here)
stands_one key zero (suc t) seat written (x ∷ xs) le is =
    let one = more (is_write_of key) x xs in
    let rest = stands_one key zero t seat written xs (omega arith) is in
    omega arith
stands_one key (suc from) zero seat written (x ∷ xs) le is = absurd (omega arith)
stands_one key (suc from) (suc t) seat written (x ∷ xs) le is = stands_one key from t seat written xs (omega arith) is

-- no fewer stand in a longer past
stand_on : (key from : ℕ) (a b : List Slot) → writes_from a key from ≤ writes_from (a ++ b) key from
stand_on key zero [] b = omega arith
stand_on key (suc from) [] b = omega arith
stand_on key zero (x ∷ xs) b =
    let one = more (is_write_of key) x xs in
    let two = more (is_write_of key) x (xs ++ b) in
    let rest = stand_on key zero xs b in
    omega arith
stand_on key (suc from) (x ∷ xs) b = stand_on key from xs b

-- and one more where one stands beyond the shorter one
stands_more : (key from t seat : ℕ) (written : Option (List ℕ)) (a b : List Slot) → from ≤ t → length a ≤ t → get_or (a ++ b) t Nothing
    ≡ Wrote seat key written → writes_from a key from + 1 ≤ writes_from (a ++ b) key from
stands_more key zero t seat written [] b le beyond is = let one = stands_one key zero t seat written b le is in omega arith
stands_more key (suc from) t seat written [] b le beyond is = let one = stands_one key (suc from) t seat written b le is in omega arith
stands_more key from zero seat written (x ∷ xs) b le beyond is = absurd (omega arith)
stands_more key zero (suc t) seat written (x ∷ xs) b le beyond is =
    let one = more (is_write_of key) x xs in
    let two = more (is_write_of key) x (xs ++ b) in
    let rest = stands_more key zero t seat written xs b (omega arith) (omega arith) is in
    omega arith
stands_more key (suc from) (suc t) seat written (x ∷ xs) b le beyond is = stands_more key from t seat written xs b (omega arith) (omega arith) is

pub writes_on : (a b : List Slot) (key from : ℕ) → IsPrefix a b → writes_from a key from ≤ writes_from b key from
writes_on a b key from begins = subst (λ (l : List Slot). writes_from a key from ≤ writes_from l key from) begins.1 (stand_on key from a begins.0)

pub writes_more : (a b : List Slot) (key from t seat : ℕ) (written : Option (List ℕ)) → IsPrefix a b → from ≤ t → length a ≤ t → get_or b t Nothing
    ≡ Wrote seat key written → writes_from a key from + 1 ≤ writes_from b key from
writes_more a b key from t seat written begins le beyond is =
    subst (λ (l : List Slot). get_or l t Nothing ≡ Wrote seat key written → writes_from a key from + 1 ≤ writes_from l key from) begins.1
    (stands_more key from t seat written a begins.0 le beyond) is

-- a beginning is one of the first slots too, where they are as many
pub prefix_take : (a b : List Slot) (n : ℕ) → IsPrefix a b → length a ≤ n → IsPrefix a (take n b)
prefix_take a b n begins le = let parts : length a + (n - length a) ≡ n = omega arith in
    (take (n - length a) begins.0, sym (take-append-add a begins.0 (n - length a)) ∙ (λ i. take (parts i) (begins.1 i)))

-- ---- counts

-- a step more at the end
pub once_more : (n x : ℕ) → iterate next_word (suc n) x ≡ next_word (iterate next_word n x)
once_more zero x = refl
once_more (suc n) x = once_more n (next_word x)

pub counts_none : (most x y : ℕ) → y ≡ x → CountsUpTo most x y
counts_none most x y same = record { times = 0; counted = same; within = omega arith }

-- where more may be counted
pub counts_on : (most most' x y z : ℕ) → most ≤ most' → CountsUpTo most x y → z ≡ y → CountsUpTo most' x z
counts_on most most' x y z le h same = record { times = h.times; counted = same ∙ h.counted; within = let n = h.within in omega arith }

-- one more
pub counts_more : (most most' x y z : ℕ) → most + 1 ≤ most' → CountsUpTo most x y → z ≡ next_word y → CountsUpTo most' x z
counts_more most most' x y z le h step = record {
  times = suc h.times;
  counted = step ∙ ap next_word h.counted ∙ sym (once_more h.times x);
  within = let n = h.within in omega arith;
}

-- as many more again
once_again : (n m x : ℕ) → iterate next_word m (iterate next_word n x) ≡ iterate next_word (n + m) x
once_again zero m x = let same : m ≡ 0 + m = omega arith in ap (λ (k : ℕ). iterate next_word k x) same
once_again (suc n) m x =
    let same : suc (n + m) ≡ suc n + m = omega arith in
    once_again n m (next_word x) ∙ ap (λ (k : ℕ). iterate next_word k x) same

pub counts_both : (one two most x y z : ℕ) → one + two ≤ most → CountsUpTo one x y → CountsUpTo two y z → CountsUpTo most x z
counts_both one two most x y z le h k = record {
  times = h.times + k.times;
  counted = k.counted ∙ ap (iterate next_word k.times) h.counted ∙ once_again h.times k.times x;
  within = let n = h.within in let m = k.within in omega arith;
}

-- Lists of entries, indexed by number, where a number may have no entry.
use Rattle.std.proofs.Common.{◌≡◌, ℕ, zero, suc, ◌+◌, ◌-◌, ◌<◌, ◌≤◌, Bool, false, cond, nat_lt, List, [], ◌++◌, refl, sym, ◌∙◌, ap, subst, arith, ⊎_elim}
use Rattle.std.proofs.Common.{Option, Some}
use Rattle.std.proofs.lemmas.Bool.{lt-ltb, cases_lt}
use Rattle.std.proofs.lemmas.Bool.Decides.{nat_tests}
use Rattle.std.proofs.lemmas.List.Elements.{Contains-append_left, Contains-append_right, Contains-append_cases}
use Rattle.std.specs.List.{Contains}
use Rattle.clsm_levels.specs.declared.entry.Entry.{Entry}
use Rattle.clsm_levels.proofs.Every.{contains_here, contains_later, contains_cases, contains_none}
use Rattle.clsm_law.specs.Memory.{Memory}
use Rattle.clsm_law.specs.Places.{entry_in, entries_from}

-- the elements of the list are what the numbers below n have
pub record IsNumbered (xs : List Entry) (n : ℕ) (at : ℕ → Option Entry) : Type 0 where
  pub number_of : (e : Entry) → Contains xs e → (k : ℕ) × (k < n) × (at k ≡ Some e)
  pub contains_at : (k : ℕ) (e : Entry) → k < n → at k ≡ Some e → Contains xs e

-- what holds of each element that a number has holds of each in the list
pub numbered_every : (xs : List Entry) (n : ℕ) (at : ℕ → Option Entry) (P : Entry → Type 0) → IsNumbered xs n at
    → ((k : ℕ) (e : Entry) → k < n → at k ≡ Some e → P e) → (e : Entry) → Contains xs e → P e
numbered_every xs n at P is each e c = let found = is.number_of e c in each found.0 e found.1 found.2

-- one number more
pub numbered_next : (at : ℕ → Option Entry) (P : Entry → Type 0) (n : ℕ) → ((k : ℕ) (e : Entry) → k < n → at k ≡ Some e → P e)
    → ((e : Entry) → at n ≡ Some e → P e) → (k : ℕ) (e : Entry) → k < n + 1 → at k ≡ Some e → P e
numbered_next at P n below here k e lt is = ⊎_elim (λ (less : k < n). below k e less is)
    (λ (ge : n ≤ k). let same : k ≡ n = omega arith in here e (subst (λ (j : ℕ). at j ≡ Some e) same is)) (cases_lt k n)

pub numbered_none : (at : ℕ → Option Entry) → IsNumbered [] 0 at
numbered_none at = record { number_of = λ e c. absurd (contains_none e c); contains_at = λ k e lt is. absurd (omega arith) }

-- at the numbers below n the first, behind them the second
abbrev pub either_at : ℕ → (ℕ → Option Entry) → (ℕ → Option Entry) → ℕ → Option Entry
either_at n f g k = cond (nat_lt k n) (f k) (g (k - n))

either_below : (n : ℕ) (f g : ℕ → Option Entry) (k : ℕ) → k < n → either_at n f g k ≡ f k
either_below n f g k lt = ap (λ (b : Bool). cond b (f k) (g (k - n))) (lt-ltb k n lt)

either_above : (n : ℕ) (f g : ℕ → Option Entry) (k j : ℕ) → k ≡ n + j → either_at n f g k ≡ g j
either_above n f g k j is = let e : nat_lt k n ≡ false = grind (arith, nat_tests) in let same : k - n ≡ j = omega arith in
    ap (λ (b : Bool). cond b (f k) (g (k - n))) e ∙ ap g same

-- two lists, one behind the other
pub numbered-append : (xs ys : List Entry) (n k : ℕ) (f g : ℕ → Option Entry) → IsNumbered xs n f → IsNumbered ys k g
    → IsNumbered (xs ++ ys) (n + k) (either_at n f g)
numbered-append xs ys n k f g first second = record {
  number_of = λ e c. ⊎_elim
      (λ (in_first : Contains xs e). let found = first.number_of e in_first in let lt : found.0 < n = found.1 in
      (found.0, omega arith, either_below n f g found.0 found.1 ∙ found.2))
      (λ (in_second : Contains ys e). let found = second.number_of e in_second in let lt : found.0 < k = found.1 in
      (n + found.0, omega arith, either_above n f g (n + found.0) found.0 refl ∙ found.2))
      (Contains-append_cases xs ys e c);
  contains_at = λ j e lt is. ⊎_elim
      (λ (below : j < n). Contains-append_left xs ys e (first.contains_at j e below (sym (either_below n f g j below) ∙ is)))
      (λ (above : n ≤ j). Contains-append_right xs ys e (second.contains_at (j - n) e (omega arith) (sym (either_above n f g j (j - n) (omega arith)) ∙ is)))
      (cases_lt j n);
}

-- the same numbers, by a function that is equal below n
pub numbered_as : (xs : List Entry) (n : ℕ) (f g : ℕ → Option Entry) → ((k : ℕ) → k < n → f k ≡ g k) → IsNumbered xs n f → IsNumbered xs n g
numbered_as xs n f g same is = record {
  number_of = λ e c. let found = is.number_of e c in (found.0, found.1, sym (same found.0 found.1) ∙ found.2);
  contains_at = λ k e lt found. is.contains_at k e lt (same k lt ∙ found);
}

-- ---- the entries of a place

abbrev pub entry_from : Memory → ℕ → ℕ → ℕ → Option Entry
entry_from memory p i k = Some (entry_in memory p (i + k))

pub numbered-entries_from : (memory : Memory) (p i n : ℕ) → IsNumbered (entries_from memory p i n) n (entry_from memory p i)
numbered-entries_from memory p i zero = numbered_none (entry_from memory p i)
numbered-entries_from memory p i (suc n) =
    let rest = numbered-entries_from memory p (i + 1) n in
    let at : (j k : ℕ) → j ≡ k → entry_in memory p j ≡ entry_in memory p k = λ j k e. ap (entry_in memory p) e in
    record {
      number_of = λ e c. ⊎_elim
          (λ (here : entry_in memory p i ≡ e). (0, omega arith, ap Some (at (i + 0) i (omega arith) ∙ here)))
          (λ (later : Contains (entries_from memory p (i + 1) n) e). let found = rest.number_of e later in let lt : found.0 < n = found.1 in
          (suc found.0, omega arith, ap Some (at (i + suc found.0) (i + 1 + found.0) (omega arith)) ∙ found.2))
          (contains_cases (entry_in memory p i) e (entries_from memory p (i + 1) n) c);
      contains_at = λ k e lt is. ⊎_elim
          (λ (first : k < 1). let here : Some (entry_in memory p i) ≡ Some e = ap Some (at i (i + k) (omega arith)) ∙ is in
          subst (Contains (entries_from memory p i (suc n))) (cc here) (contains_here (entry_in memory p i) (entries_from memory p (i + 1) n)))
          (λ (later : 1 ≤ k). contains_later (entry_in memory p i) e (entries_from memory p (i + 1) n)
          (rest.contains_at (k - 1) e (omega arith) (ap Some (at (i + 1 + (k - 1)) (i + k) (omega arith)) ∙ is)))
          (cases_lt k 1);
    }

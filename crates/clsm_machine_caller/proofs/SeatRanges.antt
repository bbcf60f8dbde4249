-- The tests of rows that decide whether they are a range of a history.
use Rattle.std.proofs.Common.{◌≡◌, ◌↔◌, ℕ, ◌+◌, ◌<◌, ◌≤◌, ◌⊎◌, inl, inr, Bool, true, false, nat_lt, List, [], length, get_or, Option, Some, None, IsTrue}
use Rattle.std.proofs.Common.{refl, sym, ap, ◌∙◌, subst, arith}
use Rattle.std.specs.List.{All, IsAllAdjacentAnswer}
use Rattle.std.specs.Map.{keys_of}
use Rattle.std.proofs.lemmas.Bool.{cases_lt, lt-ltb, ltb-true}
use Rattle.std.proofs.lemmas.List.{get_or-map, length-map}
use Rattle.std.proofs.lemmas.Map.Keys.{sorted_from_strictly_increasing, IsStrictlyIncreasing-from_sorted}
use Rattle.clsm_model.specs.declared.slot.Slot.{Slot}
use Rattle.clsm_model.specs.declared.slot.Slot.TheVariants.{Nothing, Wrote}
use Rattle.clsm_model.specs.History.{History, left_by, value}
use Rattle.clsm_model.specs.Map.{Pair, IsRange, KeysRise, value_at}
use Rattle.clsm_law.specs.SeatReads.{Gives, IsGivenRow, IsGivenWrite}
use Rattle.clsm_law.specs.Worlds.{history_of}
use Rattle.clsm_law.proofs.Records.Histories.{settle, slot_of-history}
use Rattle.clsm_machine_caller.proofs.SeatRows.{IsWriteOf, value_at-row, value_at-some, written}

-- ---- the keys rise

pub key_at : (rows : List Pair) (i : ℕ) → i < length rows → get_or (keys_of rows) i 0 ≡ (get_or rows i (0, [])).0
key_at rows i lt = get_or-map (λ (row : Pair). row.0) rows i (0, []) 0 lt

-- the keys rise where each is below the next
pub KeysRise-next : (rows : List Pair) → ((i : ℕ) → i + 1 < length rows → (get_or rows i (0, [])).0 < (get_or rows (i + 1) (0, [])).0) → KeysRise rows
KeysRise-next rows below = sorted_from_strictly_increasing (keys_of rows)
    (λ i lt. let n = length-map rows (λ (row : Pair). row.0) in let l : i + 1 < length rows = omega (arith, n, lt) in
    let a = key_at rows i (omega arith) in let b = key_at rows (i + 1) l in let c = below i l in omega arith)

pub next-KeysRise : (rows : List Pair) → KeysRise rows → (i : ℕ) → i + 1 < length rows → (get_or rows i (0, [])).0 < (get_or rows (i + 1) (0, [])).0
next-KeysRise rows rise i lt = let n = length-map rows (λ (row : Pair). row.0) in let c =
    IsStrictlyIncreasing-from_sorted (keys_of rows) rise i (omega (arith, n)) in
    let a = key_at rows i (omega arith) in let b = key_at rows (i + 1) lt in omega arith

pub KeysRise-test : (rows : List Pair) (r : Bool) → IsAllAdjacentAnswer (λ x y b. b ≡ nat_lt x.0 y.0) rows r → IsTrue r ↔ KeysRise rows
KeysRise-test rows true all = (λ _. KeysRise-next rows (λ i lt. ltb-true _ _ (sym (all i (0, []) lt))), λ _. refl)
KeysRise-test rows false some = (λ e. absurd (cc), λ rise. absurd (let e = some.2 (0, []) in let f = lt-ltb _ _ (next-KeysRise rows rise some.0 some.1) in cc))

-- ---- the rows are the range

given_write : (h : History) (s lo hi : ℕ) (rows : List Pair) (k : ℕ) (slot : Option Slot) → IsWriteOf k (settle slot) → IsGivenWrite h s lo hi rows slot
    → lo ≤ k → k ≤ hi → Gives h s rows k
given_write h s lo hi rows k None is given a b = absurd is
given_write h s lo hi rows k (Some Nothing) is given a b = absurd is
given_write h s lo hi rows k (Some (Wrote seat key value)) is given a b = subst (Gives h s rows) is (given (omega (arith, is)) (omega (arith, is)))

-- where each row and each write of a key within lo and hi is given, each key within them is
given_within : (seen : List (Option Slot)) (lo hi : ℕ) (rows : List Pair) → All (IsGivenRow (history_of seen) (length seen) lo hi rows) rows
    → All (IsGivenWrite (history_of seen) (length seen) lo hi rows) seen
    → (k : ℕ) → lo ≤ k → k ≤ hi → Gives (history_of seen) (length seen) rows k
given_within seen lo hi rows each writes k a b = at (value_at rows k) refl where
  at : (o : Option (List ℕ)) → value_at rows k ≡ o → Gives (history_of seen) (length seen) rows k
  at None e = elim (written (history_of seen) k (length seen)) [
    | inl none ↦ e ∙ sym (ap left_by none)
    | inr w ↦ given_write (history_of seen) (length seen) lo hi rows k (get_or seen w.0 None) (subst (IsWriteOf k) (slot_of-history seen w.0) w.2)
        (writes w.0 None w.1) a b
  ]
  at (Some v) e = let row = value_at-row (IsGivenRow (history_of seen) (length seen) lo hi rows) rows k v each e in
      subst (Gives (history_of seen) (length seen) rows) row.1 row.2.2

-- and where no row has a key outside them, none outside is
none_outside : (h : History) (s lo hi : ℕ) (rows : List Pair) → All (IsGivenRow h s lo hi rows) rows → (k : ℕ) → (k < lo) ⊎ (hi < k) → value_at rows k ≡ None
none_outside h s lo hi rows each k out = at (value_at rows k) refl where
  at : (o : Option (List ℕ)) → value_at rows k ≡ o → value_at rows k ≡ None
  at None e = e
  at (Some v) e = let row = value_at-row (IsGivenRow h s lo hi rows) rows k v each e in let from = row.2.0 in let until = row.2.1 in let is = row.1 in
      elim out [ inl lt ↦ absurd (omega arith) | inr lt ↦ absurd (omega arith) ]

pub IsRange-given : (seen : List (Option Slot)) (lo hi : ℕ) (rows : List Pair) → KeysRise rows
    → All (IsGivenRow (history_of seen) (length seen) lo hi rows) rows → All (IsGivenWrite (history_of seen) (length seen) lo hi rows) seen
    → IsRange (history_of seen) (length seen) lo hi rows
IsRange-given seen lo hi rows rise each writes = record {
  rise = rise;
  inside = given_within seen lo hi rows each writes;
  below = λ k lt. none_outside (history_of seen) (length seen) lo hi rows each k (inl lt);
  above = λ k lt. none_outside (history_of seen) (length seen) lo hi rows each k (inr lt);
}

-- ---- and the way back

pub IsRange-rows : (h : History) (s lo hi : ℕ) (rows : List Pair) → IsRange h s lo hi rows → All (IsGivenRow h s lo hi rows) rows
IsRange-rows h s lo hi rows range = λ i d lt.
    let k = (get_or rows i d).0 in
    let some = value_at-some rows i d lt in
    let from : lo ≤ k = elim (cases_lt k lo) [ inl lt ↦ absurd (some (range.below k lt)) | inr le ↦ le ] in
    let until : k ≤ hi = elim (cases_lt hi k) [ inl lt ↦ absurd (some (range.above k lt)) | inr le ↦ le ] in
    (from, until, range.inside k from until)

pub IsRange-writes : (h : History) (s lo hi : ℕ) (rows : List Pair) (slots : List (Option Slot)) → IsRange h s lo hi rows
    → All (IsGivenWrite h s lo hi rows) slots
IsRange-writes h s lo hi rows slots range = λ i d lt. at (get_or slots i d) where
  at : (slot : Option Slot) → IsGivenWrite h s lo hi rows slot
  at None = tt
  at (Some Nothing) = tt
  at (Some (Wrote seat key value)) = range.inside key

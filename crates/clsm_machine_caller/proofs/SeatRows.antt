-- Rows of pairs: what they give for a key, and when they are a range of a history, by its slots.
use Rattle.std.proofs.Common.{◌≡◌, ◌≢◌, ℕ, zero, suc, ◌+◌, ◌<◌, ◌==◌, ◌⊎◌, inl, inr, Bool, cond, List, [], ◌∷◌, length, get_or, Option, Some, None, refl}
use Rattle.std.proofs.Common.{sym, ap, ◌∙◌, subst, arith, eq-eqb}
use Rattle.std.specs.List.{All, find}
use Rattle.std.specs.Option.{option_map}
use Rattle.std.proofs.lemmas.List.{get_or_read}
use Rattle.clsm_model.specs.declared.slot.Slot.{Slot}
use Rattle.clsm_model.specs.declared.slot.Slot.TheVariants.{Nothing, Wrote}
use Rattle.clsm_model.specs.History.{History, write_of, or_else, newest, value, slot_at as slot_of}
use Rattle.clsm_model.specs.Map.{Pair, value_at, value_after}
use Rattle.clsm_model.proofs.Maps.{value-next}
use Rattle.clsm_law.specs.Worlds.{history_of}
use Rattle.clsm_law.proofs.Records.Histories.{settle, slot_of-history}
use Rattle.clsm_law.proofs.Cases.{by_test}

-- ---- the value of a key, slot by slot

value_of-next : (seen : List (Option Slot)) (k i : ℕ) (slot : Option Slot) → i < length seen → slot ≡ get_or seen i slot → value (history_of seen) k (i + 1)
    ≡ value_after (settle slot) k (value (history_of seen) k i)
value_of-next seen k i slot lt is =
    value-next (history_of seen) k i ∙ ap (λ s. value_after s k (value (history_of seen) k i))
    (slot_of-history seen i ∙ ap settle (sym (get_or_read seen i slot lt is None)))

-- a decided slot makes of the value what it is below the next time
pub value_of-decided : (seen : List (Option Slot)) (k i : ℕ) (slot : Option Slot) (is : Slot) (before : Option (List ℕ)) → i < length seen → slot
    ≡ get_or seen i slot → slot ≡ Some is → before ≡ value (history_of seen) k i
    → value_after is k before ≡ value (history_of seen) k (i + 1)
value_of-decided seen k i slot is before lt at e same = ap (value_after is k) same
    ∙ sym (value_of-next seen k i slot lt at ∙ ap (λ s. value_after (settle s) k (value (history_of seen) k i)) e)

-- an undecided one leaves it
pub value_of-undecided : (seen : List (Option Slot)) (k i : ℕ) (slot : Option Slot) (before : Option (List ℕ)) → i < length seen → slot ≡ get_or seen i slot
    → slot ≡ None → before ≡ value (history_of seen) k i → before ≡ value (history_of seen) k (i + 1)
value_of-undecided seen k i slot before lt at e same = same ∙ sym (value_of-next seen k i slot lt at
    ∙ ap (λ s. value_after (settle s) k (value (history_of seen) k i)) e)

-- ---- what rows give

-- what rows give is what the first row of the key has
value_at-find : (rows : List Pair) (k : ℕ) → option_map (λ row. row.1) (find (λ row. k == row.0) rows) ≡ value_at rows k
value_at-find [] k = refl
value_at-find (row ∷ rows) k =
    by_test (λ b. option_map (λ r. r.1) (cond b (Some row) (find (λ r. k == r.0) rows)) ≡ cond b (Some row.1) (value_at rows k)) k row.0 (λ e. refl)
    (λ ne. value_at-find rows k)

pub value_at-found : (rows : List Pair) (k : ℕ) (found : Option Pair) → found ≡ find (λ row. k == row.0) rows → option_map (λ row. row.1) found
    ≡ value_at rows k
value_at-found rows k found is = ap (option_map (λ (row : Pair). row.1)) is ∙ value_at-find rows k

-- where rows give a value, there is a row of the key
pub value_at-row : (P : Pair → Type 0) (rows : List Pair) (k : ℕ) (v : List ℕ) → All P rows → value_at rows k ≡ Some v → (row : Pair) × (row.0 ≡ k) × P row
value_at-row P [] k v all e = absurd (cc)
value_at-row P (row ∷ rows) k v all e =
    by_test (λ b. cond b (Some row.1) (value_at rows k) ≡ Some v → (r : Pair) × (r.0 ≡ k) × P r) k row.0
    (λ same is. (row, sym same, all zero row (omega arith)))
    (λ ne is. value_at-row P rows k v (λ i d lt. all (suc i) d (omega arith)) is) e

pub some_is_not_none : {A : Type 0} {a : A} → Some a ≡ None → ⊥
some_is_not_none e = cc

-- and each row's key has one
pub value_at-some : (rows : List Pair) (i : ℕ) (d : Pair) → i < length rows → value_at rows (get_or rows i d).0 ≢ None
value_at-some [] i d lt e = absurd (omega arith)
value_at-some (row ∷ rows) zero d lt e = let P : Bool → Type 0 = λ b. cond b (Some row.1) (value_at rows row.0) ≡ None in
    some_is_not_none (subst P (eq-eqb row.0 row.0 refl) e)
value_at-some (row ∷ rows) (suc i) d lt e =
    by_test (λ b. cond b (Some row.1) (value_at rows (get_or rows i d).0) ≡ None → ⊥) (get_or rows i d).0 row.0
    (λ same none. some_is_not_none none)
    (λ ne none. value_at-some rows i d (omega arith) none) e

-- ---- the writes of a history

-- a write of the key
abbrev pub IsWriteOf : ℕ → Slot → Type 0
IsWriteOf k Nothing = ⊥
IsWriteOf k (Wrote seat key written) = key ≡ k

-- the newest write below a time is none where the key has no write there, or some slot below it is
-- one
pub written : (h : History) (k s : ℕ) → (newest h k s ≡ None) ⊎ ((t : ℕ) × (t < s) × IsWriteOf k (slot_of h t))
written h k zero = inl refl
written h k (suc t) = here (slot_of h t) refl (written h k t) where
  later : (newest h k t ≡ None) ⊎ ((u : ℕ) × (u < t) × IsWriteOf k (slot_of h u)) → (newest h k t ≡ None) ⊎ ((u : ℕ) × (u < suc t) × IsWriteOf k (slot_of h u))
  later (inl none) = inl none
  later (inr w) = inr (w.0, omega (arith, w.1), w.2)

  here : (slot : Slot) → slot_of h t ≡ slot → (newest h k t ≡ None) ⊎ ((u : ℕ) × (u < t) × IsWriteOf k (slot_of h u))
      → (or_else (write_of k t slot) (newest h k t) ≡ None) ⊎ ((u : ℕ) × (u < suc t) × IsWriteOf k (slot_of h u))
  here Nothing is before = later before
  here (Wrote seat key value) is before =
      by_test (λ b. (or_else (cond b (Some (record { time = t; value = value })) None) (newest h k t) ≡ None)
      ⊎ ((u : ℕ) × (u < suc t) × IsWriteOf k (slot_of h u))) key k
      (λ same. inr (t, omega arith, rw is same))
      (λ ne. later before)

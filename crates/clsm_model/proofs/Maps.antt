-- A plain map in the words of the standard library's map, and one slot more.
use Rattle.std.proofs.Common.{◌≡◌, ℕ, ◌+◌, ◌==◌, true, false, cond, List, [], ◌∷◌, Option, Some, None, refl, sym, ◌∙◌, ap, arith, add-one}
use Rattle.std.proofs.lemmas.Bool.Decides.{nat_tests}
use Rattle.std.specs.Map.{lookup}
use Rattle.std.specs.BTreeMap.{is_at}
use Rattle.std.specs.Ordering.{nat_cmp, is_eq}
use Rattle.clsm_model.specs.declared.slot.Slot.{Slot}
use Rattle.clsm_model.specs.declared.slot.Slot.TheVariants.{Nothing, Wrote}
use Rattle.clsm_model.specs.History.{History, Write, slot_at, write_of, or_else, left_by, newest, value}
use Rattle.clsm_model.specs.Map.{Pair, IsMap, KeysRise, Applies, WritesKey, value_at, value_after}

-- numbers that compare as equal are those that the test finds equal
pub is_eq-nat_cmp : (j k : ℕ) → is_eq (nat_cmp j k) ≡ (j == k)
is_eq-nat_cmp j k = grind (arith, nat_tests)

pub value_at-lookup : (pairs : List Pair) (k : ℕ) → value_at pairs k ≡ lookup (is_at (nat_cmp k)) pairs
value_at-lookup [] k = refl
value_at-lookup (pair ∷ pairs) k = rw (is_eq-nat_cmp k pair.0, value_at-lookup pairs k) refl

left_by-write : (slot : Slot) (k t : ℕ) (before : Option Write) → left_by (or_else (write_of k t slot) before) ≡ value_after slot k (left_by before)
left_by-write Nothing k t before = refl
left_by-write (Wrote seat key written) k t before =
    elim (key == k) as (λ b. left_by (or_else (cond b (Some (record { time = t; value = written })) None) before) ≡ cond b written
    (left_by before)) [ true ↦ refl | false ↦ refl ]

-- what one slot more makes of a value
pub value-next : (h : History) (k s : ℕ) → value h k (s + 1) ≡ value_after (slot_at h s) k (value h k s)
value-next h k s = rw (add-one) (left_by-write (slot_at h s) k s (newest h k s))

-- a map on which the history's next slot is played is the history's map up to it
pub IsMap-next : (h : History) (s : ℕ) (slot : Slot) (old new : List Pair) → slot_at h s ≡ slot → KeysRise new → Applies slot old new → IsMap h s old
    → IsMap h (s + 1) new
IsMap-next h s slot old new is rise plays map = record {
  rise = rise;
  values = λ k. plays k ∙ ap (value_after slot k) (map.values k) ∙ ap (λ x. value_after x k (value h k s)) (sym is) ∙ sym (value-next h k s);
}

-- the standard library's change at one key is a write
pub Writes-lookup : (old new : List Pair) (key : ℕ) (written : Option (List ℕ)) → KeysRise new
    → ((k : ℕ) → lookup (is_at (nat_cmp k)) new ≡ cond (is_at (nat_cmp key) k) written (lookup (is_at (nat_cmp k)) old)) → WritesKey key written old new
Writes-lookup old new key written rise changes = record {
  rise = rise;
  values = λ k. rw (value_at-lookup new k, value_at-lookup old k, ← is_eq-nat_cmp key k) (changes k);
}

-- and plays the slot that is that write
pub Plays-write : (old new : List Pair) (slot : Slot) (seat key : ℕ) (written : Option (List ℕ)) → slot ≡ Wrote seat key written
    → WritesKey key written old new → Applies slot old new
Plays-write old new slot seat key written is writes = rw is writes.values

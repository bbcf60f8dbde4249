-- The newest write of a key, among all records.
use Rattle.std.proofs.Common.{◌≡◌, ◌≢◌, ℕ, ◌<◌, ◌==◌, zero, suc, Bool, true, false, cond, List, [], ◌∷◌, get_or, Option, Some, None, IfSome, IsSome}
use Rattle.std.proofs.Common.{is_some, unwrap_or, refl, sym, ap, ◌∙◌, subst, arith, ⊎_elim}
use Rattle.std.proofs.lemmas.Bool.{cases_eq, eq-eqb, ne_eqb, true≢false}
use Rattle.std.specs.List.{slice_get}
use Rattle.std.specs.Option.{IsSomeAnd}
use Rattle.clsm_model.specs.declared.slot.Slot.{Slot}
use Rattle.clsm_model.specs.declared.slot.Slot.TheVariants.{Nothing, Wrote}
use Rattle.clsm_model.specs.declared.record.CallRecord.{CallRecord}
use Rattle.clsm_model.specs.History.{History, Write, left_by, newest, or_else, slot_at, value, write_of as key_write}
use Rattle.clsm_audit.specs.declared.wanted.FoundWrite.{FoundWrite}
use Rattle.clsm_audit.specs.declared.wanted.Wanted.TheVariants.{OfKey}
use Rattle.clsm_audit.specs.Explained.{IsNewest, left_in, value_left}
use Rattle.clsm_audit.specs.Faults.{HasNone, IsSecondAt}
use Rattle.clsm_audit.specs.Sought.{Fits, IsLastWrite, IsMade, MakesAt}
use Rattle.clsm_audit.specs.Written.{history_of, slot_by, write_of}
use Rattle.clsm_audit.proofs.Indices.{itself, nobody}
use Rattle.clsm_audit.proofs.Seconds.{at_index, some_within}
use Rattle.clsm_audit.proofs.Slots.{slot_at-history_of, slot_written}

-- ---- in a history

newest_some : (h : History) (key t s : ℕ) (w : Write) → t < s → key_write key t (slot_at h t) ≡ Some w
    → ((u : ℕ) → t < u → u < s → key_write key u (slot_at h u) ≡ None) → newest h key s ≡ Some w
newest_some h key t zero w lt is later = absurd (omega arith)
newest_some h key t (suc n) w lt is later =
    ⊎_elim
    (λ (here : t ≡ n). ap (λ (o : Option Write). or_else o (newest h key n)) (subst (λ (u : ℕ). key_write key u (slot_at h u) ≡ Some w) here is))
    (λ (ne : t ≢ n).
    ap (λ (o : Option Write). or_else o (newest h key n)) (later n (omega arith) (omega arith))
    ∙ newest_some h key t n w (omega arith) is (λ u low high. later u low (omega arith)))
    (cases_eq t n)

newest_none : (h : History) (key s : ℕ) → ((u : ℕ) → u < s → key_write key u (slot_at h u) ≡ None) → newest h key s ≡ None
newest_none h key zero none = refl
newest_none h key (suc n) none = ap (λ (o : Option Write). or_else o (newest h key n)) (none n (omega arith))
    ∙ newest_none h key n (λ u lt. none u (omega arith))

-- ---- of one slot

not_fits : (key t : ℕ) (w : Slot) → (Fits (OfKey key) w → ⊥) → key_write key t w ≡ None
not_fits key t Nothing other = refl
not_fits key t (Wrote seat k written) other = ap (λ (b : Bool). cond b (Some (record { time = t; value = written })) None) (ne_eqb k key other)

fits_key : (key t : ℕ) (w : Slot) → Fits (OfKey key) w → key_write key t w ≡ Some (record { time = t; value = left_in w })
fits_key key t Nothing fits = absurd fits
fits_key key t (Wrote seat k written) fits = ap (λ (b : Bool). cond b (Some (record { time = t; value = written })) None) (eq-eqb k key fits)

tested : (b : Bool) (w : Write) → is_some (cond b (Some w) None) ≡ true → left_by (cond b (Some w) None) ≡ w.value
tested true w is = refl
tested false w is = absurd (true≢false (sym is))

left_key : (key t : ℕ) (w : Slot) → IsSome (key_write key t w) → left_by (key_write key t w) ≡ left_in w
left_key key t Nothing is = absurd (true≢false (sym is))
left_key key t (Wrote seat k written) is = tested (k == key) (record { time = t; value = written }) is

-- ---- of all records

not_here : (key t : ℕ) (o : Option Slot) (rest : Slot) → (IsSomeAnd o (Fits (OfKey key)) → ⊥) → key_write key t rest ≡ None
    → key_write key t (unwrap_or o rest) ≡ None
not_here key t None rest other none = none
not_here key t (Some w) rest other none = not_fits key t w other

not_written : (records : List CallRecord) (key t : ℕ) → ((i : ℕ) → IfSome (slice_get records i) (λ r. ¬ MakesAt (OfKey key) t r))
    → key_write key t (slot_by records t) ≡ None
not_written [] key t none = refl
not_written (r ∷ rs) key t none = not_here key t (write_of r t) (slot_by rs t) (none zero) (not_written rs key t (λ i. none (suc i)))

nothing_there : (records : List CallRecord) (key t : ℕ) → ((i : ℕ) → IfSome (slice_get records i) (λ r. ¬ MakesAt (OfKey key) t r))
    → key_write key t (slot_at (history_of records) t) ≡ None
nothing_there records key t none = ap (key_write key t) (slot_at-history_of records t) ∙ not_written records key t none

pub is_newest : (records : List CallRecord) (key s : ℕ) (found : Option FoundWrite) → HasNone (IsSecondAt records) → IsLastWrite records (OfKey key) s found
    → IsNewest records key s found
is_newest records key s None alone last = newest_none (history_of records) key s (λ u lt. nothing_there records key u (λ i. last i u lt))
is_newest records key s (Some found) alone last =
    let i = found.index in
    let within = some_within (IsMade (OfKey key) found) records i last.made in
    let r = get_or records i nobody in
    let made = (at_index (IsMade (OfKey key) found) records i r within (itself records i within)).1 last.made in
    let fits = fits_key key found.time found.slot made.fits in
    record {
      before = last.before;
      made = (at_index (λ q. write_of q found.time ≡ Some found.slot) records i r within (itself records i within)).0 made.is;
      of_key = ap is_some fits;
      newest_is = newest_some (history_of records) key found.time s (record { time = found.time; value = left_in found.slot }) last.before
          (ap (key_write key found.time) (slot_written records alone i found.time found.slot within made.is) ∙ fits)
          (λ u low high. nothing_there records key u (λ j. last.last j u low high))
          ∙ sym fits;
    }

-- what it leaves is the value of the key
pub left_value : (records : List CallRecord) (key s : ℕ) (found : Option FoundWrite) → IsNewest records key s found → value_left found
    ≡ value (history_of records) key s
left_value records key s None is = sym (ap left_by is)
left_value records key s (Some found) is = sym (ap left_by is.newest_is ∙ left_key key found.time found.slot is.of_key)

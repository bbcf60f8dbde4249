-- What a deed says of a past, by the slots below its time alone.
use Rattle.std.proofs.Common.{◌≡◌, ◌↔◌, ℕ, ◌<◌, ◌≤◌, List, length, take, Option, None, refl, sym, ap, ◌∙◌, subst, arith}
use Rattle.std.proofs.lemmas.List.{get_or-take, length-take-le}
use Rattle.clsm_model.specs.declared.slot.Slot.{Slot}
use Rattle.clsm_model.specs.declared.record.Deed.{Deed}
use Rattle.clsm_model.specs.declared.batch.Batch.{Batch}
use Rattle.clsm_model.specs.History.{IsUncut, slot_at as slot_of}
use Rattle.clsm_model.specs.Right.{IsRight, Reads}
use Rattle.clsm_law.specs.Worlds.{history_of, past_of, open_past}
use Rattle.clsm_model.proofs.Histories.{Reads-same}
use Rattle.clsm_law.proofs.Records.Histories.{settle, slot_of-history, slot_of-past, end_of-past_min}

-- a past has the slots below its time
seen-same : (slots : List (Option Slot)) (p s : ℕ) → s ≤ p → (t : ℕ) → t < s → slot_of (history_of (take s slots)) t ≡ slot_of (past_of slots p) t
seen-same slots p s le t lt = slot_of-history (take s slots) t ∙ ap settle (get_or-take s slots t None lt) ∙ sym (slot_of-past slots p t (omega arith))

pub IsRight-seen : (slots : List (Option Slot)) (p s : ℕ) (deed : Deed) → s ≤ p → s ≤ length slots
    → Reads (history_of (take s slots)) (length (take s slots)) deed ↔ IsRight (past_of slots p) s deed
IsRight-seen slots p s deed le in_slots =
    let n : length (take s slots) ≡ s = length-take-le s slots in_slots in
    let e = end_of-past_min slots p in (
      λ reads. record {
        readable = record { reached = omega arith; uncut = tt };
        reads = Reads-same (history_of (take s slots)) (past_of slots p) s deed (λ t lt. sym (seen-same slots p s le t lt))
            (subst (λ (k : ℕ). Reads (history_of (take s slots)) k deed) n reads);
      },
      λ right. subst (λ (k : ℕ). Reads (history_of (take s slots)) k deed) (sym n)
          (Reads-same (past_of slots p) (history_of (take s slots)) s deed (seen-same slots p s le) right.reads),
    )

-- no deed is right beyond a past
pub IsRight-reached : (slots : List (Option Slot)) (p s : ℕ) (deed : Deed) → IsRight (past_of slots p) s deed → (s ≤ p) × (s ≤ length slots)
IsRight-reached slots p s deed right = let e = end_of-past_min slots p in let reached = right.readable.reached in (omega arith, omega arith)

-- with batches, the time is inside none beside
pub IsRight-open : (slots : List (Option Slot)) (batches : List Batch) (p s : ℕ) (deed : Deed) → s ≤ p → s ≤ length slots
    → (IsUncut batches s × Reads (history_of (take s slots)) (length (take s slots)) deed) ↔ IsRight (open_past slots batches p) s deed
IsRight-open slots batches p s deed le in_slots =
    let plainly = IsRight-seen slots p s deed le in_slots in (
      λ both. let right = plainly.0 both.1 in record {
        readable = record { reached = right.readable.reached; uncut = both.0 };
        reads = Reads-same (past_of slots p) (open_past slots batches p) s deed (λ t lt. refl) right.reads;
      },
      λ right. (
        right.readable.uncut,
        plainly.1 (record {
          readable = record { reached = right.readable.reached; uncut = tt };
          reads = Reads-same (open_past slots batches p) (past_of slots p) s deed (λ t lt. refl) right.reads;
        }),
      ),
    )

pub IsRight-open_reached : (slots : List (Option Slot)) (batches : List Batch) (p s : ℕ) (deed : Deed) → IsRight (open_past slots batches p) s deed
    → (s ≤ p) × (s ≤ length slots)
IsRight-open_reached slots batches p s deed right = IsRight-reached slots p s deed
    (record {
      readable = record { reached = right.readable.reached; uncut = tt };
      reads = Reads-same (open_past slots batches p) (past_of slots p) s deed (λ t lt. refl) right.reads;
    })

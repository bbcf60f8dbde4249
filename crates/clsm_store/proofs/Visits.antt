-- Visits of keys, from the words to the seat.
use Rattle.std.proofs.Common.{◌≡◌, ◌∙◌, ℕ, List, [], ◌∷◌, ap, sym, subst, Option}
use Rattle.std.specs.List.{FoldsTo}
use Rattle.clsm_model.specs.declared.batch.Batch.{Batch}
use Rattle.clsm_model.specs.declared.slot.Slot.{Slot}
use Rattle.clsm_model.specs.History.{plain}
use Rattle.clsm_model.specs.Map.{Pair}
use Rattle.clsm_scan.specs.declared.visiting.Calling.{Calling}
use Rattle.clsm_scan.specs.Collected.{StepsBehind}
use Rattle.clsm_store_calls.specs.Scanning.{CountsKeys, IsKeyVisit, VisitsKeys}
use Rattle.clsm_store_calls.specs.Seats.{SeatState, known_by}

-- a visit of what the slots say is one of a history that has them
pub known_visit : {V : Type 0} (Takes : V → Pair → V → Type 0) (slots : List Slot) (batches : List Batch) (s lo hi n : ℕ) (before after : V)
    → IsKeyVisit Takes (plain slots) s lo hi n before after → IsKeyVisit Takes (record { slots = slots; batches = batches }) s lo hi n before after
known_visit Takes slots batches s lo hi n before after is =
    let all = is.count.all in
    record {
      count = record {
        rows = is.count.rows;
        all = record { rise = all.rise; inside = all.inside; below = all.below; above = all.above };
        counted = is.count.counted;
      };
      taken = is.taken;
    }

-- ---- the calls of a function are those of the visitor that calls it behind a reference

abbrev Calls-behind : {F : Type 0} → (F → Pair → F → Type 0) → Calling F → Pair → Calling F → Type 0
Calls-behind Calls before row after = StepsBehind (λ f f'. Calls f row f') before.call after.call

folds_call : {F : Type 0} (Calls : F → Pair → F → Type 0) (before : Calling F) (rows : List Pair) (after : Calling F)
    → FoldsTo (Calls-behind Calls) before rows after → FoldsTo Calls before.call.now rows after.call.now
folds_call Calls before [] after same = ap (λ (v : Calling _). v.call.now) same
folds_call Calls before (row ∷ rows) after folds = (folds.0.call.now, folds.1.0, folds_call Calls folds.0 rows after folds.2)

folds_behind : {F : Type 0} (Calls : F → Pair → F → Type 0) (before : Calling F) (rows : List Pair) (after : Calling F)
    → FoldsTo (Calls-behind Calls) before rows after → after.call.ghost_name ≡ before.call.ghost_name
folds_behind Calls before [] after same = sym (ap (λ (v : Calling _). v.call.ghost_name) same)
folds_behind Calls before (row ∷ rows) after folds = folds_behind Calls folds.0 rows after folds.2 ∙ folds.1.1

-- what each call keeps holds behind all of them
folds_keep : {F : Type 0} (Calls : F → Pair → F → Type 0) (Is : F → Type 0) → ((b : F) (row : Pair) (a : F) → Calls b row a → Is b → Is a)
    → (before : F) (rows : List Pair) (after : F) → FoldsTo Calls before rows after → Is before → Is after
folds_keep Calls Is keeps before [] after same is = subst Is same is
folds_keep Calls Is keeps before (row ∷ rows) after folds is =
    folds_keep Calls Is keeps folds.0 rows after folds.2 (keeps before row folds.0 folds.1 is)

module _ {F : Type 0} (Calls : F → Pair → F → Type 0) (old new : SeatState) (t lo hi n : ℕ) (first : Option ℕ) (before after : Calling F) where
  pub calls_visit : CountsKeys old new t lo hi n first → IsKeyVisit (Calls-behind Calls) (known_by new) t lo hi n before after
      → VisitsKeys Calls old new t lo hi n first before.call.now after.call.now
  calls_visit counts visits = record {
    answers = counts.answers;
    clock = counts.clock;
    reached = counts.reached;
    visits = record { count = visits.count; taken = folds_call Calls before visits.count.rows after visits.taken };
  }

  pub visit_behind : IsKeyVisit (Calls-behind Calls) (known_by new) t lo hi n before after → after.call.ghost_name ≡ before.call.ghost_name
  visit_behind visits = folds_behind Calls before visits.count.rows after visits.taken

  pub visit_keeps : (Is : F → Type 0) → ((b : F) (row : Pair) (a : F) → Calls b row a → Is b → Is a)
      → IsKeyVisit (Calls-behind Calls) (known_by new) t lo hi n before after → Is before.call.now → Is after.call.now
  visit_keeps Is keeps visits is = folds_keep Calls Is keeps before.call.now visits.count.rows after.call.now
      (folds_call Calls before visits.count.rows after visits.taken) is

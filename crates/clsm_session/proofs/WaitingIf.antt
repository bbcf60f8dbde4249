-- Batches with conditions that were refused because there was no room, and tried again.
use Rattle.std.proofs.Common.{◌≡◌, ◌-◌, ◌^◌, ◌<◌, ◌⊎◌, inl, inr, ℕ, [], ◌∷◌, List, Result, Ok, Err, ap, ◌∙◌, subst, arith}
use Rattle.std.proofs.Common.{refl}
use Rattle.clsm_model.specs.Right.{Member}
use Rattle.clsm_store_calls.specs.declared.conditions.Condition.{Condition}
use Rattle.clsm_store_calls.specs.declared.refusal.BatchIfError.{BatchIfError}
use Rattle.clsm_store_calls.specs.declared.refusal.BatchIfError.TheVariants as errors
use Rattle.clsm_store_calls.specs.Conditional.{AnswersIf, AreUnwritable, AreWritable, CountsBatchIf, CountsHold, FindsNone, FindsUnmet}
use Rattle.clsm_store_calls.specs.Conditional.{MeetsAll, MeetsAlone, ReadsAlone}
use Rattle.clsm_store_calls.specs.Seats.{Refuses, SeatState, StoreId}
use Rattle.clsm_store_calls.specs.Tally.{Tally}
use Rattle.clsm_session.specs.Conditional.{FindsNoneAtLast, GivesUpNone}
use Rattle.clsm_session.specs.Waiting.{IsReason}
use Rattle.clsm_session.specs.declared.refusal.Refused.{Refused}
use Rattle.clsm_session.proofs.Waiting.{Holds, answers_after, no_room_after, same_trans}

-- ---- after refusals

module _ (a b c : SeatState) (refused : Refuses a b) where
  reads_after : (t : ℕ) → ReadsAlone b c t → ReadsAlone a c t
  reads_after t reads = record {
    same = same_trans a b c refused.same reads.same;
    snapshot = reads.snapshot ∙ refused.snapshot;
    clock = reads.clock;
    read = reads.read;
    above = let above = reads.above in let due = refused.due in omega arith;
    reached = reads.reached;
  }

  meets_after : (t : ℕ) → MeetsAlone b c t → MeetsAlone a c t
  meets_after t meets = record { reads = reads_after t meets.reads; calls = meets.calls ∙ refused.calls; due = meets.due }

  pub answers_if_after : (members : List Member) (t : ℕ) → AnswersIf b c members t → AnswersIf a c members t
  answers_if_after [] t answers = meets_after t answers
  answers_if_after (m ∷ ms) t answers = answers_after a b c t _ refused answers

  pub meets_all_after : (conditions : List Condition) (t : ℕ) → MeetsAll b c conditions t → MeetsAll a c conditions t
  meets_all_after conditions t meets = record { reads = reads_after t meets.reads; holds = meets.holds }

  pub unmet_after : (conditions : List Condition) (index t : ℕ) → FindsUnmet b c conditions index t → FindsUnmet a c conditions index t
  unmet_after conditions index t unmet = record { meets = meets_after t unmet.meets; first = unmet.first }

  pub writable_after : (members : List Member) → AreWritable b.store.layout.cells members → AreWritable a.store.layout.cells members
  writable_after members writable = subst (λ (store : StoreId). AreWritable store.layout.cells members) refused.same.store writable

  pub none_after : (conditions : List Condition) (members t times cells : ℕ) (reason : Refused) → times < 2 ^ 64 - 1 → Holds times a.tally b.tally
      → cells ≡ a.store.layout.cells → IsReason cells t reason → FindsNone b c conditions members t → FindsNoneAtLast a c conditions members reason
  none_after conditions members t times cells reason few holds same right none = record {
    time = t;
    meets = meets_all_after conditions t none.meets;
    short = no_room_after a b c t members times cells reason few holds refused same right none.short;
  }

-- ---- what it counts

pub gives_up_self : (a : SeatState) → GivesUpNone a a
gives_up_self a = record { own = refl; patient = refl }

-- behind a hold
gives_up_hold : (a b c : SeatState) → GivesUpNone a b → CountsHold (record b.tally { busy = c.tally.busy }) c.tally → GivesUpNone a c
gives_up_hold a b c h counts = record {
  own = ap (λ (t : Tally). t.gave_up) counts ∙ h.own;
  patient = ap (λ (t : Tally). t.hasty) counts ∙ h.patient;
}

gives_up_same : (a b c : SeatState) → GivesUpNone a b → c.tally ≡ b.tally → GivesUpNone a c
gives_up_same a b c h same = record {
  own = ap (λ (t : Tally). t.gave_up) same ∙ h.own;
  patient = ap (λ (t : Tally). t.hasty) same ∙ h.patient;
}

pub gives_up_after : (a b c : SeatState) (r : Result ℕ BatchIfError) → GivesUpNone a b → CountsBatchIf b.tally c.tally r → GivesUpNone a c
gives_up_after a b c (Ok t) h counts = gives_up_hold a b c h counts
gives_up_after a b c (Err (errors.Unmet index t)) h counts = gives_up_hold a b c h counts
gives_up_after a b c (Err (errors.Full t)) h counts = gives_up_hold a b c h counts
gives_up_after a b c (Err errors.TooLong) h counts = gives_up_same a b c h counts
gives_up_after a b c (Err errors.Keep) h counts = gives_up_same a b c h counts

-- ---- members that cannot be written

is_writable : (cells : ℕ) (members : List Member) (error : BatchIfError) → AreWritable cells members → AreUnwritable cells members error → ⊥
is_writable cells members errors.TooLong writable why = let few = writable.0 in omega (arith, few, why)
is_writable cells members errors.Keep writable why = why.1 writable.1
is_writable cells members (errors.Unmet index t) writable why = why
is_writable cells members (errors.Full t) writable why = why

-- they were not tried before
pub unwritable_after : (a b c : SeatState) (members : List Member) (error : BatchIfError) → Refuses a b
    → (b ≡ a) ⊎ AreWritable a.store.layout.cells members → c ≡ b → AreUnwritable b.store.layout.cells members error
    → (c ≡ a) × AreUnwritable a.store.layout.cells members error
unwritable_after a b c members error h (inl same) e why = (
  e ∙ same,
  subst (λ (s : SeatState). AreUnwritable s.store.layout.cells members error) same why,
)
unwritable_after a b c members error h (inr writable) e why =
    absurd (is_writable a.store.layout.cells members error writable
    (subst (λ (store : StoreId). AreUnwritable store.layout.cells members error) h.same.store why))

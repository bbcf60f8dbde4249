-- How it is kept that no write has more words than a cell, and that a value has at least one.
use Rattle.std.proofs.Common.{◌≡◌, ℕ, ◌-◌, List, length, subst, Option, Some, None, arith}
use Rattle.clsm_model.specs.declared.slot.Slot.TheVariants.{Wrote}
use Rattle.clsm_model.specs.declared.slot.Change.TheVariants.{Keep, Set, Remove as Erase}
use Rattle.clsm_model.specs.declared.record.Deed.{Deed}
use Rattle.clsm_model.specs.declared.record.Deed.TheVariants.{Put, Remove, Rmw}
use Rattle.clsm_model.specs.Right.{write_by}
use Rattle.clsm_law.specs.declared.step.Step.{Step}
use Rattle.clsm_law.specs.declared.step.Step.TheVariants.{Decide, ExtendClock}
use Rattle.clsm_law.specs.declared.view.View.{View}
use Rattle.clsm_law.specs.Views.{IsShort, SaysWrite}
use Rattle.clsm_law.specs.Merging.{epoch_end}
use Rattle.clsm_law.specs.Worlds.{outcome_at}
use Rattle.clsm_law.specs.Law.{AreShort}
use Rattle.clsm_law.proofs.Setting.{Setting, Ground, v, S, Opens, OpensTo, slots'}
use Rattle.clsm_law.proofs.Growth.{OfDecided, writes_kept}
use Rattle.clsm_law.proofs.GrowthMerger.{written_before}

-- what is decided is what the filled parts say
says_short : (y : View) (deed : Deed) (me : ℕ) → SaysWrite y (write_by 0 deed) → (i key : ℕ) (written : Option (List ℕ)) → write_by me deed
    ≡ Some (Wrote i key written) → IsShort written
says_short y (Put k words) me says i key written e = let same : Some words ≡ written = cc in subst IsShort same says.3
says_short y (Remove k) me says i key written e = let same : None ≡ written = cc in subst IsShort same says.3
says_short y (Rmw k old Keep) me says i key written e = absurd says
says_short y (Rmw k old (Set words)) me says i key written e = let same : Some words ≡ written = cc in subst IsShort same says.3
says_short y (Rmw k old Erase) me says i key written e = let same : None ≡ written = cc in subst IsShort same says.3
says_short y deed me says i key written e = absurd says

decided_short : (s : Setting) (step : Step) → Opens s step → OfDecided s (λ _ _ written. IsShort written) step
decided_short s (Decide t deed) o = says_short (v s) deed s.me o.2
decided_short s step o = tt

pub short_kept : (s : Setting) (step : Step) → Opens s step → AreShort (outcome_at (S s step))
short_kept s step o t i key written e = writes_kept s step o 0 (λ _ _ written. IsShort written) (decided_short s step o)
    (λ t i key written le. s.law.short t i key written) t i key written (omega arith) e

pub short_merged : (g : Ground) (step : Step) → OpensTo g step → AreShort (outcome_at (slots' g step))
short_merged g ExtendClock o = λ t i key written e. g.law.short t i key written
    (written_before g.slots (epoch_end g.z g.merger - length g.slots) t i key written e)
short_merged g step o = g.law.short

use Rattle.std.proofs.Common.{◌≡◌, ℕ, List, Option, false, subst, sym}
use Rattle.clsm_model.specs.declared.slot.Change.{Change}
use Rattle.clsm_store_calls.specs.declared.writing.TheConstants.{AT_A_TIME}
use Rattle.clsm_store_calls.specs.declared.changing.ChangeProgress.{ChangeProgress}
use Rattle.clsm_store_calls.specs.Changing.{HasComeSoFar, IsAskedBy, Spared, is_last}
use Rattle.clsm_store_calls.specs.Tally.{tally_of}
use Rattle.clsm_store_calls.proofs.Attempts.{asked_again, comes_again, does_later, is_lost}
use Rattle.clsm_store_calls.proofs.ChangeLosses.{only_changes, only_changes_trans}
use Rattle.clsm_store_calls.proofs.Giving.{spared_again}
use Rattle.clsm_store_calls.proofs.Rest.{full_later}
use Rattle.clsm_store_calls.proofs.changing.PinnedChange.change_at_last.Goals as goal

pub returns-in-Done-clause-changed : goal.returns-in-Done-clause-changed
returns-in-Done-clause-changed g c = let rmw = c.in-Done.rmw in
    does_later c.args.seat.now.knows c.loop.seat.knows c.change_in_hold-attempt.new.seat.knows c.args.self.now.component c.args.self.now.key
    rmw.time rmw.old rmw.change c.loop.invariant.spared.0 c.in-Done.ensures.changes

pub returns-in-Full-clause-full : goal.returns-in-Full-clause-full
returns-in-Full-clause-full g c =
    full_later c.args.seat.now.knows c.loop.seat.knows c.change_in_hold-attempt.new.seat.knows c.in-Full.time c.loop.invariant.spared.0
    c.in-Full.ensures.changes

pub loop-preserved : goal.loop-preserved
loop-preserved g c =
    let a = c.args.seat.now.knows in
    let before = c.loop.seat.knows in
    let now = c.change_in_hold-attempt.new.seat in
    let attempt = c.change_in_hold-attempt.result in
    let component = c.args.self.now.component in
    let key = c.args.self.now.key in
    let lost : is_last attempt ≡ false = is_lost attempt c.in_default.not-Done c.in_default.not-Full in
    let on = sym c.progress-progress.ensures in
    let post : Option (List ℕ) → Change → Type 0 = λ old change. g.F.Fn.post c.args.self.now.f.now (old, tt) change in
    record {
      of = c.change_in_hold-attempt.ensures.of;
      come = subst (λ (p : ChangeProgress). HasComeSoFar c.args.words.now now component key p) on
          (comes_again c.args.words.now now component key attempt lost c.change_in_hold-attempt.ensures.stays);
      asked = subst (λ (p : ChangeProgress). IsAskedBy post p) on (asked_again post attempt lost c.change_in_hold-attempt.ensures.answered);
      spared = subst (λ (p : ChangeProgress). Spared a now.knows key p) on
          (spared_again a now.knows key attempt lost (c.change_in_hold-attempt.ensures.spared a c.loop.invariant.spared));
      counts = only_changes_trans (tally_of a) (tally_of before) (tally_of now.knows) c.loop.invariant.counts
          (only_changes AT_A_TIME (tally_of before) (tally_of now.knows) attempt c.change_in_hold-attempt.ensures.counts);
      more = (tt, tt);
    }

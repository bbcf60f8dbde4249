use Rattle.std.proofs.Common.{subst, true}
use Rattle.clsm_store.specs.Freezing.{IsUsed}
use Rattle.clsm_store.specs.Promises.{RefusesFreeze}
use Rattle.clsm_store.specs.declared.phase.Phase.{Phase}
use Rattle.clsm_store.specs.declared.phase.TryFreezeError.{TryFreezeError}
use Rattle.clsm_store.specs.declared.phase.TryFreezeError.TheVariants.{Busy, Worn}
use Rattle.clsm_store.proofs.SweepParts.{froze_if, kept_if, refused_if}
use Rattle.clsm_store.proofs.merger.Merger.try_freeze_if_used.Goals.{in-Clean+in-Ok, in-Clean+in-Err+in-Busy, in-Clean+in-Err+in-Worn, in_default}
use Rattle.clsm_store.proofs.merger.Merger.try_freeze_if_used.Goals as goal

pub returns-clause-freezes : goal.returns-clause-freezes
returns-clause-freezes g c =
    let count = c.args.used in
    let old = c.args.self.phase in
    let mid = c.is_used.new.self.phase in
    let used = subst (IsUsed count old mid) c.if-not-is_used.false c.is_used.ensures.used in
    let used_at = λ (p : Phase). IsUsed count old p true in
    elim c.match-phase.branch [
      | in-Clean+in-Ok w ↦ rw w.phase-is (froze_if count old w.in-Clean.clean w.in-Ok.frozen (subst used_at w.in-Clean.is used) w.in-Ok.ensures)
      | in-Clean+in-Err+in-Busy w ↦ rw w.phase-is (refused_if count old w.in-Clean.clean w.in-Err.clean Busy (subst used_at w.in-Clean.is used)
          (subst (λ (e : TryFreezeError). RefusesFreeze w.in-Clean.clean w.in-Err.clean e) w.in-Busy.is w.in-Err.ensures.refused))
      | in-Clean+in-Err+in-Worn w ↦ rw w.phase-is (refused_if count old w.in-Clean.clean w.in-Err.clean (Worn w.in-Worn.worn) (subst used_at w.in-Clean.is used)
          (subst (λ (e : TryFreezeError). RefusesFreeze w.in-Clean.clean w.in-Err.clean e) w.in-Worn.is w.in-Err.ensures.refused))
      | in_default w ↦ rw w.phase-is (kept_if count old mid used w.in_default.not-Clean)
    ]

use Rattle.std.proofs.Common.{◌≡◌, Err, Ok, rules, subst}
use Rattle.clsm_store.specs.Freezing.{TryFreezes}
use Rattle.clsm_store.specs.Sweeping.{Finishes}
use Rattle.clsm_store.specs.declared.freezing.TryFroze.TheVariants.{Done}
use Rattle.clsm_store.proofs.SweepParts.{swept_by_try, worn_by_try}
use Rattle.clsm_store.proofs.merger.Merger.try_sweep_if_used.Goals as goal

pub returns-in-Ok-clause-sweeps : goal.returns-in-Ok-clause-sweeps
returns-in-Ok-clause-sweeps g c =
    let froze = c.try_freeze_if_used-merger in
    let new = c.finish-merger.result.0.phase in
    let is : froze.result.1 ≡ Ok Done = search rules in
    let tries : TryFreezes c.args.used c.args.self.phase froze.result.0.phase froze.result.1 = search rules in
    let freezes = subst (TryFreezes c.args.used c.args.self.phase froze.result.0.phase) is tries in
    swept_by_try c.args.used c.args.self.phase froze.result.0.phase new (Ok tt)
    freezes (subst (Finishes froze.result.0.phase new) c.in-Ok.is c.finish-merger.ensures.finishes)

pub returns-in-Err-answer-clause-sweeps : goal.returns-in-Err-answer-clause-sweeps
returns-in-Err-answer-clause-sweeps g c =
    let froze = c.try_freeze_if_used-merger in
    let new = c.finish-merger.result.0.phase in
    let is : froze.result.1 ≡ Ok Done = search rules in
    let tries : TryFreezes c.args.used c.args.self.phase froze.result.0.phase froze.result.1 = search rules in
    let freezes = subst (TryFreezes c.args.used c.args.self.phase froze.result.0.phase) is tries in
    swept_by_try c.args.used c.args.self.phase froze.result.0.phase new (Err c.in-Err-answer.stopped)
    freezes (subst (Finishes froze.result.0.phase new) c.in-Err-answer.is c.finish-merger.ensures.finishes)

pub returns-in-Err-clause-sweeps : goal.returns-in-Err-clause-sweeps
returns-in-Err-clause-sweeps g c =
    let froze = c.try_freeze_if_used-merger in
    let tries : TryFreezes c.args.used c.args.self.phase froze.result.0.phase froze.result.1 = search rules in
    let freezes = subst (TryFreezes c.args.used c.args.self.phase froze.result.0.phase) c.in-Err.is tries in
    worn_by_try c.args.used c.args.self.phase froze.result.0.phase c.in-Err.worn freezes

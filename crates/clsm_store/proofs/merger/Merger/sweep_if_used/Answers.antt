use Rattle.std.proofs.Common.{Err, Ok, rules, subst}
use Rattle.clsm_store.specs.Freezing.{IsUsed}
use Rattle.clsm_store.specs.Sweeping.{Sweeps}
use Rattle.clsm_store.proofs.SweepParts.{swept_if}
use Rattle.clsm_store.proofs.merger.Merger.sweep_if_used.Goals as goal

pub returns-in-Ok-clause-sweeps : goal.returns-in-Ok-clause-sweeps
returns-in-Ok-clause-sweeps g c =
    let mid = c.is_used.new.self.phase in
    let new = c.sweep-merger.result.0.phase in
    let looks : IsUsed c.args.used c.args.self.phase mid c.is_used.result = search rules in
    let enough = subst (IsUsed c.args.used c.args.self.phase mid) c.if-not-is_used.false looks in
    swept_if c.args.used c.args.self.phase mid new (Ok tt) enough (subst (Sweeps mid new) c.in-Ok.is c.sweep-merger.ensures.sweeps)

pub returns-in-Err-clause-sweeps : goal.returns-in-Err-clause-sweeps
returns-in-Err-clause-sweeps g c =
    let mid = c.is_used.new.self.phase in
    let new = c.sweep-merger.result.0.phase in
    let looks : IsUsed c.args.used c.args.self.phase mid c.is_used.result = search rules in
    let enough = subst (IsUsed c.args.used c.args.self.phase mid) c.if-not-is_used.false looks in
    swept_if c.args.used c.args.self.phase mid new (Err c.in-Err.stopped) enough (subst (Sweeps mid new) c.in-Err.is c.sweep-merger.ensures.sweeps)

use Rattle.clsm_audit.specs.Faults.{IsSecondAt}
use Rattle.clsm_audit.specs.Lawful.{IsFromDueAt, IsKnownAt, IsRightAt}
use Rattle.clsm_audit.proofs.Indices.{all_hold, none_has}
use Rattle.clsm_audit.proofs.passes.first_fault.Goals as goal

pub returns : goal.returns
returns c = record {
  known = all_hold (IsKnownAt c.args.config.now c.args.records.now) _ c.in_default.is c.in_ok-index.ensures;
  alone = none_has (IsSecondAt c.args.records.now) _ c.in_default-2.is c.in_ok-index-2.ensures;
  from_due = all_hold (IsFromDueAt c.args.records.now) _ c.in_default-3.is c.in_ok-index-3.ensures;
  right = all_hold (IsRightAt c.args.records.now) _ c.in_default-4.is c.in_ok-index-4.ensures;
}

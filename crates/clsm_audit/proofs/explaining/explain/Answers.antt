use Rattle.std.proofs.Common.{subst}
use Rattle.clsm_audit.specs.Faults.{IsFirstFault}
use Rattle.clsm_audit.proofs.Backs.{none_unknown}
use Rattle.clsm_audit.proofs.explaining.explain.Goals as goal

pub explain_second-requires-clause-times : goal.explain_second-requires-clause-times
explain_second-requires-clause-times c =
    let first = subst (λ kind. IsFirstFault c.args.config.now c.args.records.now kind c.args.index) c.in-TwoAtOneTime.is c.requires in
    none_unknown c.args.config.now c.args.records.now first.0

pub explain_back-requires-clause-times : goal.explain_back-requires-clause-times
explain_back-requires-clause-times c =
    let first = subst (λ kind. IsFirstFault c.args.config.now c.args.records.now kind c.args.index) c.in-TimeRanBack.is c.requires in
    none_unknown c.args.config.now c.args.records.now first.0

pub explain_wrong-requires : goal.explain_wrong-requires
explain_wrong-requires c =
    let first = subst (λ kind. IsFirstFault c.args.config.now c.args.records.now kind c.args.index) c.in-WrongReply.is c.requires in
    record { times = none_unknown c.args.config.now c.args.records.now first.0; alone = first.1; wrong = first.3.here }

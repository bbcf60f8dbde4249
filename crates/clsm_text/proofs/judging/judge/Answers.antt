use Rattle.std.proofs.Common.{refl, arith}
use Rattle.clsm_text.proofs.Verdicts.{fault_inside, lines_fault, refused}
use Rattle.clsm_text.proofs.judging.judge.Goals as goal

pub index-line-requires : goal.index-line-requires
index-line-requires c =
    let seen = c.as_slice-records.result.now in
    let fault =
    refused c.args.config.now seen seen c.in-Err-Fault.field-0
    c.in-Err-Fault.kind c.in-Err-Fault.index refl c.in-Err-Fault.field-0-is
    c.in-Err-Fault.ensures.fault in
    let inside =
    fault_inside c.args.config.now seen c.in-Err-Fault.kind c.in-Err-Fault.index
    fault in
    omega (arith, inside, c.as_slice-records.ensures.value, c.requires.count)

pub explain-requires : goal.explain-requires
explain-requires c =
    let seen = c.as_slice-records.result.now in
    refused c.args.config.now seen seen c.in-Err-Fault.field-0
    c.in-Err-Fault.kind c.in-Err-Fault.index refl c.in-Err-Fault.field-0-is
    c.in-Err-Fault.ensures.fault

pub returns-in-Err-Fault-clause-verdict : goal.returns-in-Err-Fault-clause-verdict
returns-in-Err-Fault-clause-verdict c =
    λ bytes list.
    lines_fault c.args.config.now c.args.order bytes c.args.list.now.listed.records.items
    c.args.list.now.listed.lines.items c.args.list.now.moments.items list c.in-Err-Fault.kind c.in-Err-Fault.index c.index-line.result.now
    (refused c.args.config.now c.as_slice-records.result.now c.args.list.now.listed.records.items
    c.in-Err-Fault.field-0 c.in-Err-Fault.kind c.in-Err-Fault.index c.as_slice-records.ensures.value
    c.in-Err-Fault.field-0-is c.in-Err-Fault.ensures.fault)
    c.index-line.ensures

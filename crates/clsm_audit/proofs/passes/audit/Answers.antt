use Rattle.clsm_audit.proofs.Indices.{no_fault}
use Rattle.clsm_audit.proofs.OneHistory.{batches_apart, calls_in, has_history}
use Rattle.clsm_audit.proofs.WholeHistory.{is_lawful}
use Rattle.clsm_audit.proofs.passes.audit.Goals as goal

pub returns-in-Ok-Some-clause-whole : goal.returns-in-Ok-Some-clause-whole
returns-in-Ok-Some-clause-whole c = λ has.
    absurd (no_fault c.args.config.now c.args.records.now (is_lawful c.args.config.now c.args.records.now has) c.in-Ok-Some.kind c.in-Ok-Some.index
    (rw c.in-Ok-Some.field-0-is at c.in-Ok-Some.ensures))

pub returns-in-Ok-None-clause-history : goal.returns-in-Ok-None-clause-history
returns-in-Ok-None-clause-history c = calls_in c.args.config.now c.args.records.now (rw c.in-Ok-None.field-0-is at c.in-Ok-None.ensures)

pub returns-in-Ok-None-clause-apart : goal.returns-in-Ok-None-clause-apart
returns-in-Ok-None-clause-apart c = batches_apart c.args.config.now c.args.records.now (rw c.in-Ok-None.field-0-is at c.in-Ok-None.ensures)

pub returns-in-Ok-None-clause-has : goal.returns-in-Ok-None-clause-has
returns-in-Ok-None-clause-has c = has_history c.args.config.now c.args.records.now (rw c.in-Ok-None.field-0-is at c.in-Ok-None.ensures)

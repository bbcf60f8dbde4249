use Rattle.clsm_audit.proofs.Swept.{kept_first, same_latest}
use Rattle.clsm_audit.proofs.sweep.Sweep.pass.Goals as goal

pub returns-then-event : goal.returns-then-event
returns-then-event c = λ events swept behind.
    record {
      latest = c.later.ensures events swept.latest c.if-event.true;
      found = kept_first events c.args.event.now c.if-event.true behind c.args.self.now.found swept.found;
    }

pub returns-else-event : goal.returns-else-event
returns-else-event c = λ events swept behind.
    record {
      latest = same_latest events c.args.event.now c.if-event.false c.args.self.now.latest swept.latest;
      found = c.found_at-self.ensures events swept c.if-event.false behind;
    }

use Rattle.std.proofs.Common.{rules}
use Rattle.clsm_model.specs.History.{IsUncut}
use Rattle.clsm_machine_caller.proofs.SeatRights.{IsRight-open}
use Rattle.clsm_machine_caller.proofs.rights.is_right.Goals as goal

pub returns-then-is_uncut : goal.returns-then-is_uncut
returns-then-is_uncut c =
    let same = IsRight-open c.args.slots.now c.args.batches.now c.args.past c.args.time c.args.deed.now c.if-time-past.false c.if-time-slots.false in
    let uncut : IsUncut c.args.batches.now c.args.time = search rules in
    (λ e. same.0 (uncut, c.reads.ensures.0 e), λ right. c.reads.ensures.1 (same.1 right).1)

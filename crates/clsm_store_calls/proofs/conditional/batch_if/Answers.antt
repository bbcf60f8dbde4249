use Rattle.std.proofs.Common.{ℕ, ap, sym, subst, ◌∙◌}
use Rattle.clsm_law.specs.declared.layout.Layout.{Layout}
use Rattle.clsm_store_calls.specs.Conditional.{AreWritable}
use Rattle.clsm_store_calls.proofs.AloneCalls.{met_if, refused_if}
use Rattle.clsm_store_calls.proofs.conditional.batch_if.Goals as goal

pub returns-clause-holds : goal.returns-clause-holds
returns-clause-holds g c =
    let answer = c.batch_if_alone-answer in
    met_if c.args.words.now c.args.seat.now c.lock_exclusive.new.seat.knows answer.new.seat.knows c.unlock_exclusive.new.seat c.requires.rests.of
    c.unlock_exclusive.ensures.of c.lock_exclusive.ensures.entered answer.ensures.acts c.unlock_exclusive.ensures.left c.args.asked.now.conditions.now
    c.args.asked.now.members.now answer.result answer.ensures.written

pub returns-clause-refused : goal.returns-clause-refused
returns-clause-refused g c =
    let answer = c.batch_if_alone-answer in
    let members = c.args.asked.now.members.now in
    let cells = c.cells.ensures ∙ sym (ap (λ (z : Layout). z.cells) c.requires.rests.of.1) in
    let writable = subst (λ (n : ℕ). AreWritable n members) cells c.in_ok-check_writable.ensures.writable in
    refused_if c.args.words.now c.args.seat.now c.lock_exclusive.new.seat.knows answer.new.seat.knows c.unlock_exclusive.new.seat c.requires.rests.of
    c.unlock_exclusive.ensures.of c.lock_exclusive.ensures.entered answer.ensures.acts c.unlock_exclusive.ensures.left c.args.asked.now.conditions.now
    members writable answer.result answer.ensures.refused

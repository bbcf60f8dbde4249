use Rattle.std.proofs.Common.{ℕ, ap, sym, subst, ◌∙◌}
use Rattle.clsm_law.specs.declared.layout.Layout.{Layout}
use Rattle.clsm_store_calls.specs.Conditional.{AreWritable}
use Rattle.clsm_store_calls.proofs.AloneCalls.{met_at, refused_as}
use Rattle.clsm_store_calls.proofs.Rest.{when_ok}
use Rattle.clsm_store_calls.proofs.conditional.try_batch_if.Goals as goal

pub returns-in-Ok-clause-holds : goal.returns-in-Ok-clause-holds
returns-in-Ok-clause-holds g c =
    let answer = c.batch_if_alone-answer in
    let entered = when_ok c.try_lock_exclusive.result c.if-is_err.ensures.negation c.try_lock_exclusive.ensures.entered in
    met_at c.args.words.now c.args.seat.now c.try_lock_exclusive.new.seat.knows answer.new.seat.knows c.unlock_exclusive.new.seat c.requires.rests.of
    c.unlock_exclusive.ensures.of entered answer.ensures.acts c.unlock_exclusive.ensures.left c.args.asked.now.conditions.now
    c.args.asked.now.members.now c.in-Ok.time c.in-Ok.ensures.written

pub returns-in-Err-answer-clause-refused : goal.returns-in-Err-answer-clause-refused
returns-in-Err-answer-clause-refused g c =
    let answer = c.batch_if_alone-answer in
    let members = c.args.asked.now.members.now in
    let entered = when_ok c.try_lock_exclusive.result c.if-is_err.ensures.negation c.try_lock_exclusive.ensures.entered in
    let cells = c.cells.ensures ∙ sym (ap (λ (z : Layout). z.cells) c.requires.rests.of.1) in
    let writable = subst (λ (n : ℕ). AreWritable n members) cells c.in_default.ensures.writable in
    refused_as c.args.words.now c.args.seat.now c.try_lock_exclusive.new.seat.knows answer.new.seat.knows c.unlock_exclusive.new.seat c.requires.rests.of
    c.unlock_exclusive.ensures.of entered answer.ensures.acts c.unlock_exclusive.ensures.left c.args.asked.now.conditions.now
    members writable c.in-Err-answer.error c.in-Err-answer.ensures.refused

use Rattle.std.proofs.Common.{ℕ, ap, sym, subst, ◌∙◌}
use Rattle.clsm_model.specs.declared.record.Deed.TheVariants.{Batch as Group}
use Rattle.clsm_model.specs.Seats.{FitsDeed}
use Rattle.clsm_law.specs.declared.layout.Layout.{Layout}
use Rattle.clsm_store_calls.proofs.Staged.{alone_in_hold, counts_alone, counts_refused, no_room_alone}
use Rattle.clsm_store_calls.proofs.Rest.{when_ok}
use Rattle.clsm_store_calls.proofs.batching.try_batch.Goals as goal

pub batch_in_hold-answer-requires-clause-alone : goal.batch_in_hold-answer-requires-clause-alone
batch_in_hold-answer-requires-clause-alone g c =
    alone_in_hold c.args.seat.now.knows c.try_lock_exclusive.new.seat.knows c.requires.rests c.show_invariant.ensures
    (when_ok c.try_lock_exclusive.result c.if-is_err.ensures.negation c.try_lock_exclusive.ensures.entered)

pub returns-in-Err-answer-clause-refused : goal.returns-in-Err-answer-clause-refused
returns-in-Err-answer-clause-refused g c =
    let entered = when_ok c.try_lock_exclusive.result c.if-is_err.ensures.negation c.try_lock_exclusive.ensures.entered in
    let cells = c.cells.ensures ∙ sym (ap (λ (z : Layout). z.cells) c.requires.of.1) in
    let fits = subst (λ (n : ℕ). FitsDeed n (Group c.args.members.now)) cells c.in_default.ensures.batch in
    no_room_alone c.args.seat.now.knows c.try_lock_exclusive.new.seat.knows c.batch_in_hold-answer.new.seat.knows c.unlock_exclusive.new.seat.knows
    c.args.members.now c.in-Err-answer.error fits entered c.unlock_exclusive.ensures.left c.in-Err-answer.ensures.refused

pub returns-in-Ok-clause-counts : goal.returns-in-Ok-clause-counts
returns-in-Ok-clause-counts g c =
    counts_alone c.args.seat.now.knows c.try_lock_exclusive.new.seat.knows c.batch_in_hold-answer.new.seat.knows c.unlock_exclusive.new.seat.knows
    (when_ok c.try_lock_exclusive.result c.if-is_err.ensures.negation c.try_lock_exclusive.ensures.entered)
    c.batch_in_hold-answer.ensures.counts c.unlock_exclusive.ensures.left

pub returns-in-Err-answer-clause-counts : goal.returns-in-Err-answer-clause-counts
returns-in-Err-answer-clause-counts g c =
    counts_refused c.args.seat.now.knows c.try_lock_exclusive.new.seat.knows c.batch_in_hold-answer.new.seat.knows c.unlock_exclusive.new.seat.knows
    (when_ok c.try_lock_exclusive.result c.if-is_err.ensures.negation c.try_lock_exclusive.ensures.entered)
    c.batch_in_hold-answer.ensures.counts c.unlock_exclusive.ensures.left c.args.members.now c.in-Err-answer.error c.in-Err-answer.ensures.refused

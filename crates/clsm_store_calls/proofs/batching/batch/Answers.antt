use Rattle.std.proofs.Common.{ℕ, ap, sym, subst, ◌∙◌}
use Rattle.clsm_model.specs.declared.record.Deed.TheVariants.{Batch as Group}
use Rattle.clsm_model.specs.Seats.{FitsDeed}
use Rattle.clsm_law.specs.declared.layout.Layout.{Layout}
use Rattle.clsm_store_calls.proofs.Staged.{counts_batch, refused_alone}
use Rattle.clsm_store_calls.proofs.batching.batch.Goals as goal

pub returns-clause-refused : goal.returns-clause-refused
returns-clause-refused g c =
    let cells = c.cells.ensures ∙ sym (ap (λ (z : Layout). z.cells) c.requires.of.1) in
    let fits = subst (λ (n : ℕ). FitsDeed n (Group c.args.members.now)) cells c.in_ok-check_members.ensures.batch in
    refused_alone c.args.seat.now.knows c.lock_exclusive.new.seat.knows c.batch_in_hold-answer.new.seat.knows c.unlock_exclusive.new.seat.knows
    c.args.members.now
    c.batch_in_hold-answer.result fits c.lock_exclusive.ensures.entered c.unlock_exclusive.ensures.left c.batch_in_hold-answer.ensures.refused

pub returns-clause-counts : goal.returns-clause-counts
returns-clause-counts g c =
    counts_batch c.args.seat.now.knows c.lock_exclusive.new.seat.knows c.batch_in_hold-answer.new.seat.knows c.unlock_exclusive.new.seat.knows
    c.lock_exclusive.ensures.entered c.batch_in_hold-answer.ensures.counts c.unlock_exclusive.ensures.left c.args.members.now
    c.batch_in_hold-answer.result c.batch_in_hold-answer.ensures.refused

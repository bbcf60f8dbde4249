use Rattle.std.proofs.Common.{◌≡◌, ◌∙◌, ◌+◌, ◌⊎◌, arith, inl, inr, sym, true}
use Rattle.clsm_store_calls.specs.Resting.{is_answer}
use Rattle.clsm_store_calls.specs.Tally.{tally_of}
use Rattle.clsm_store_calls.proofs.Losses.{counts_last}
use Rattle.clsm_store_calls.proofs.writing.Assignment.write_in_hold.Goals as goal
use Rattle.clsm_store_calls.proofs.writing.Assignment.write_in_hold.Goals.{then-is_answer-via-then-is_answer, then-is_answer-via-else-is_answer+then-lost-tries}

pub returns-then-is_answer-clause-counts : goal.returns-then-is_answer-clause-counts
returns-then-is_answer-clause-counts g c =
    let last : (is_answer c.go_on-attempt.result ≡ true) ⊎ (c.loop-lost.lost + 1 ≡ c.args.tries) = elim c.then-is_answer.branch [
      | then-is_answer-via-then-is_answer w ↦ inl (sym c.is_answer.ensures ∙ w.if-is_answer.true)
      | then-is_answer-via-else-is_answer+then-lost-tries w ↦ inr (let e = w.if-lost-tries.true in omega arith)
    ] in
    counts_last c.loop-lost.lost (tally_of c.args.seat.now.knows) (tally_of c.loop-lost.seat.knows) (tally_of c.go_on-attempt.new.seat.knows)
    c.loop-lost.invariant.counts c.args.tries c.go_on-attempt.result c.loop-lost.invariant.few last c.go_on-attempt.ensures.counts

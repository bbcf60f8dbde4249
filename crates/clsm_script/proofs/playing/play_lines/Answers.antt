use Rattle.std.proofs.Common.{◌+◌, ◌-◌, Err, ap, subst, arith}
use Rattle.clsm_script.specs.Command.{IsCommand}
use Rattle.clsm_script.specs.Line.{Reads}
use Rattle.std.specs.Io.Buffered.{reader_remaining}
use Rattle.clsm_script.proofs.AtHand.{leads_kept, leads_taken, line_on, prints_taken}
use Rattle.clsm_script.proofs.Chains.{fault_found, prints_call, prints_command, prints_nothing, prints_over}
use Rattle.clsm_script.proofs.Chains.{stops_residual}
use Rattle.clsm_text.proofs.Inputs.{leads_to_end}
use Rattle.clsm_script.proofs.Readings.{stops_at_error}
use Rattle.clsm_script.proofs.playing.play_lines.Goals as goal

pub returns-then-not-branch-clause-read : goal.returns-then-not-branch-clause-read
returns-then-not-branch-clause-read g c =
    let leads = leads_kept (reader_remaining g.R.Read.remaining) _ _ _ _ c.in_default.ensures.kept c.loop-number.invariant.leads in
    leads_to_end IsCommand _ _ _ _ leads c.in_ok-read_line.ensures.found
    c.if-not-branch.true

pub returns-then-not-branch-clause-played : goal.returns-then-not-branch-clause-played
returns-then-not-branch-clause-played g c =
    let leads = leads_kept (reader_remaining g.R.Read.remaining) _ _ _ _ c.in_default.ensures.kept c.loop-number.invariant.leads in
    prints_over _ _ _ _ _ _ _ _ leads c.in_ok-read_line.ensures.found
    c.if-not-branch.true c.loop-number.invariant.prints

pub returns-in-Err-clause-stopped : goal.returns-in-Err-clause-stopped
returns-in-Err-clause-stopped g c =
    let leads = leads_kept (reader_remaining g.R.Read.remaining) _ _ _ _ c.in_default.ensures.kept c.loop-number.invariant.leads in
    let bad =
    subst (λ line. Reads line (Err c.in-Err.error)) c.deref.ensures.value c.in-Err.ensures in
    rw c.at.ensures
    (stops_at_error _ _ _ _ _ _ _ _ _ leads c.in_ok-read_line.ensures.found
    c.if-not-branch.false c.in_ok-read_line.ensures.takes (omega arith) bad)

pub loop-number-preserved-in-Ok-None : goal.loop-number-preserved-in-Ok-None
loop-number-preserved-in-Ok-None g c =
    let leads = leads_kept (reader_remaining g.R.Read.remaining) _ _ _ _ c.in_default.ensures.kept c.loop-number.invariant.leads in
    let on =
    line_on _ _ _ _ _ _ _ _ _ _ _ _ _ _ _ _ leads c.in_ok-read_line.ensures.found c.if-not-branch.false c.in_ok-read_line.ensures.takes
    c.deref.ensures.value c.in-Ok-None.ensures
    c.loop-number.invariant.prints
    (prints_nothing _ _ _ _ c.in-Ok-None.field-0-is) (c.loop-number.number + 1 - 1) (omega arith) in
    record { leads = on.leads; prints = on.prints; session = c.loop-number.invariant.session; merger = c.loop-number.invariant.merger }

pub loop-number-preserved : goal.loop-number-preserved
loop-number-preserved g c =
    let leads = leads_kept (reader_remaining g.R.Read.remaining) _ _ _ _ c.in_default.ensures.kept c.loop-number.invariant.leads in
    let on =
    line_on _ _ _ _ _ _ _ _ _ _ _ _ _ _ _ _ leads c.in_ok-read_line.ensures.found c.if-not-branch.false c.in_ok-read_line.ensures.takes
    c.deref.ensures.value c.in-Ok-Some.ensures
    c.loop-number.invariant.prints
    (prints_command _ _ _ _ _ _ _ _ _ c.in_ok-next.ensures.plays c.in_ok-next.ensures.turns
    c.in_ok-write_answer.ensures.goes_on c.in_ok-write_answer.ensures.is_made c.in_ok-write_answer.ensures.prints (cc)) (c.loop-number.number + 1 - 1) (omega arith) in
    record { leads = on.leads; prints = on.prints; session = c.in_ok-next.ensures.session; merger = c.in_ok-next.ensures.merger }

pub loop-number-preserved-in-Call : goal.loop-number-preserved-in-Call
loop-number-preserved-in-Call g c =
    let leads = leads_kept (reader_remaining g.R.Read.remaining) _ _ _ _ c.in_default.ensures.kept c.loop-number.invariant.leads in
    let on =
    line_on _ _ _ _ _ _ _ _ _ _ _ _ _ _ _ _ leads c.in_ok-read_line.ensures.found c.if-not-branch.false c.in_ok-read_line.ensures.takes
    c.deref.ensures.value c.in-Ok-Some.ensures
    c.loop-number.invariant.prints
    (prints_call _ _ _ _ _ _ _ c.in_ok-play_call-in-Call.ensures.makes (cc)) (c.loop-number.number + 1 - 1) (omega arith) in
    record { leads = on.leads; prints = on.prints; session = c.in_ok-play_call-in-Call.ensures.session; merger = c.loop-number.invariant.merger }

pub returns-in_err-write_answer-clause-stopped : goal.returns-in_err-write_answer-clause-stopped
returns-in_err-write_answer-clause-stopped g c =
    stops_residual c.from_residual-in_err-write_answer.result _ _ _ c.in_err-write_answer.field-0.0
    c.in_err-write_answer.ensures.stopped
    (λ is. fault_found _ _ _ _ _ _ _ c.in_ok-next.ensures.plays c.in_ok-next.ensures.turns
    (c.in_err-write_answer.ensures.fault (ap Err is)) c.in_ok-next.ensures.session)
    c.from_residual-in_err-write_answer.ensures.1

pub loop-number-preserved-in-Some : goal.loop-number-preserved-in-Some
loop-number-preserved-in-Some g c =
    record {
      leads = leads_taken _ _ _ _ _ (c.loop-number.number + 1 - 1) c.loop-number.invariant.leads
          c.in-Some.ensures.taken (omega arith);
      prints = prints_taken _ _ _ _ _ (c.loop-number.number + 1 - 1) _ _ _ _ _ _ _ c.loop-number.invariant.leads
          c.in-Some.ensures.taken c.loop-number.invariant.prints c.in_ok-play_call.ensures.makes (omega arith);
      session = c.in_ok-play_call.ensures.session;
      merger = c.loop-number.invariant.merger;
    }

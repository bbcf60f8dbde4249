use Rattle.clsm_model.specs.declared.record.CallRecord.{CallRecord}
use Rattle.clsm_text.specs.Line.{texts_of}
use Rattle.clsm_text.specs.Record.{Say}
use Rattle.clsm_text.proofs.Texts.{no_timed}
use Rattle.clsm_text.proofs.timed.parse_timed.Goals as goal

pub returns-in_default-parse_moments : goal.returns-in_default-parse_moments
returns-in_default-parse_moments c =
    λ timed. no_timed (texts_of c.args.words.now) (texts_of c.in-Some.front.now)
    c.in-Some.begin.now c.in-Some.finish.now c.in-Some.ensures.found
    (λ r moments says write. c.in_default-parse_moments.ensures moments write) timed.0 timed.1

pub returns-in_default-2 : goal.returns-in_default-2
returns-in_default-2 c =
    let none : (r : CallRecord) → ¬ Say (texts_of c.in-Some.front.now) r =
    rw c.in_default-2.is at c.in_ok-record.ensures in
    λ timed. no_timed (texts_of c.args.words.now) (texts_of c.in-Some.front.now)
    c.in-Some.begin.now c.in-Some.finish.now c.in-Some.ensures.found
    (λ r moments says write. none r says) timed.0 timed.1

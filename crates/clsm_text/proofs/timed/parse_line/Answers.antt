use Rattle.std.proofs.Common.{◌≡◌, true, false, sym, ◌∙◌}
use Rattle.clsm_audit.specs.declared.place.Moments.{Moments}
use Rattle.clsm_model.specs.declared.record.CallRecord.{CallRecord}
use Rattle.clsm_text.specs.Line.{texts_of}
use Rattle.clsm_text.specs.Lines.{SayTimed}
use Rattle.clsm_text.specs.Record.{Say}
use Rattle.clsm_text.proofs.Texts.{no_line}
use Rattle.clsm_text.proofs.timed.parse_line.Goals as goal

pub returns-then-timed : goal.returns-then-timed
returns-then-timed c =
    let none : (x : CallRecord × Moments) → ¬ SayTimed (texts_of c.args.words.now) x.0 x.1 =
    rw c.in_default.is at c.in_ok-record.ensures in
    no_line c.args.timed (texts_of c.args.words.now) none
    (λ untimed r says. let clash : true ≡ false = sym c.if-timed.true ∙ untimed in cc clash)

pub returns-in_default-2 : goal.returns-in_default-2
returns-in_default-2 c =
    let none : (x : CallRecord × Moments) → ¬ SayTimed (texts_of c.args.words.now) x.0 x.1 =
    rw c.in_default.is at c.in_ok-record.ensures in
    let plain : (r : CallRecord) → ¬ Say (texts_of c.args.words.now) r =
    rw c.in_default-2.is at c.in_ok-record-2.ensures in
    no_line c.args.timed (texts_of c.args.words.now) none (λ untimed. plain)

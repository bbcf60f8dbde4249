use Rattle.std.proofs.Common.{subst}
use Rattle.clsm_text.specs.Found.{Finds}
use Rattle.clsm_text.specs.Line.{texts_of, SaysWords}
use Rattle.clsm_text.specs.Lines.{SayLine}
use Rattle.clsm_text.proofs.Texts.{says_none}
use Rattle.clsm_text.proofs.timed.parse_record_line.Goals as goal

pub returns : goal.returns
returns c =
    let says = subst (SaysWords c.args.line.now) c.in-Some.is c.in_ok-words.ensures.words in
    let found = subst (Finds (SayLine c.args.timed (texts_of c.deref.result.now))) c.in-None.is c.in_ok-line.ensures in
    let (some, none) = says_none (SayLine c.args.timed) c.args.line.now c.in-Some.words c.deref.result.now says c.deref.ensures found in (some, λ _. none)

use Rattle.std.proofs.Common.{subst}
use Rattle.clsm_text.specs.Found.{Finds}
use Rattle.clsm_text.specs.Line.{texts_of, SaysWords}
use Rattle.clsm_text.specs.Record.{Say}
use Rattle.clsm_text.proofs.Texts.{says_none}
use Rattle.clsm_text.proofs.record.parse_record.Goals as goal

pub returns : goal.returns
returns c =
    let says = subst (SaysWords c.args.line.now) c.in-Some.is c.in_ok-words.ensures.words in
    let found = subst (Finds (Say (texts_of c.deref.result.now))) c.in-None.is c.in_ok-record.ensures in
    let (some, none) = says_none Say c.args.line.now c.in-Some.words c.deref.result.now says c.deref.ensures found in (some, λ _. none)

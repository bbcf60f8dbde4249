use Rattle.std.proofs.Common.{ℕ, List}
use Rattle.clsm_text.specs.Line.{texts_of}
use Rattle.clsm_text.specs.Record.{WriteRows}
use Rattle.clsm_text.proofs.Texts.{no_page_rows}
use Rattle.clsm_text.proofs.words.parse_page_rows.Goals as goal

pub returns-in_default-parse_number : goal.returns-in_default-parse_number
returns-in_default-parse_number c =
    λ page. no_page_rows (texts_of c.args.words.now) (texts_of c.in-Some.rows.now)
    c.in-Some.key.now c.in-Some.ensures.found
    (λ rows key write number. c.in_default-parse_number.ensures number.0) page.0 page.1

pub returns-in_default-3 : goal.returns-in_default-3
returns-in_default-3 c =
    let none : (rows : List (ℕ × List ℕ)) → ¬ WriteRows (texts_of c.in-Some.rows.now) rows =
    rw c.in_default-3.is at c.in_ok-rows-2.ensures in
    λ page. no_page_rows (texts_of c.args.words.now) (texts_of c.in-Some.rows.now)
    c.in-Some.key.now c.in-Some.ensures.found
    (λ rows key write number. none rows write) page.0 page.1

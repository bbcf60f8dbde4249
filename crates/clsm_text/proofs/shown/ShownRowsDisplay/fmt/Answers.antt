use Rattle.std.proofs.Common.{sym, ◌∙◌}
use Rattle.std.proofs.Output.{has_written_of_eq}
use Rattle.clsm_text.proofs.Texts.{shown_some}
use Rattle.clsm_text.proofs.shown.ShownRowsDisplay.fmt.Goals as goal

pub returns-clause-writes : goal.returns-clause-writes
returns-clause-writes g c plain ok =
    has_written_of_eq _ _ _ _ _
    (shown_some _ _ _ (sym c.as_slice.ensures ∙ c.in-Some.ensures.cases.0))
    (c.write-2.ensures.writes plain ok)

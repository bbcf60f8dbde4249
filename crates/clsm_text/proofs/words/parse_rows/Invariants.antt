use Rattle.std.proofs.Common.{take}
use Rattle.clsm_text.specs.Line.{texts_of}
use Rattle.clsm_text.specs.Record.{WriteRows}
use Rattle.clsm_text.proofs.words.parse_rows.Given as goal

abbrev pub invariant-loop-word : goal.invariant-loop-word
invariant-loop-word l = WriteRows (texts_of (take l.word-index l.words)) l.rows.items

use Rattle.clsm_text.proofs.Readings.{none_written}
use Rattle.clsm_text.specs.Record.{WritesRow}
use Rattle.clsm_text.proofs.words.parse_rows.Goals as goal

pub returns-in_default : goal.returns-in_default
returns-in_default c =
    none_written WritesRow c.args.words.now c.loop-word.word-index _ c.loop-word-test.true
    c.in_default.ensures

use Rattle.std.proofs.Common.{sym, ◌∙◌}
use Rattle.clsm_law.specs.declared.word.Word.TheVariants.{Count}
use Rattle.clsm_words.specs.Knowing.{row_of}
use Rattle.clsm_words.proofs.Changing.{found_left}
use Rattle.clsm_runs.proofs.Taking.{length-entries}
use Rattle.clsm_runs.proofs.counting.count_entries.Goals as goal

pub returns-clause-told : goal.returns-clause-told
returns-clause-told g c =
    let k = c.args.merger.now.knows in
    let place = c.args.place in
    found_left k c.look_as_merger.new.seat.knows (Count place) c.look_as_merger.result c.look_as_merger.ensures.1 tt
    ∙ sym (length-entries (row_of k) place 0 (row_of k (Count place)))

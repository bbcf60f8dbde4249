use Rattle.std.proofs.Common.{drop}
use Rattle.clsm_words.specs.Changing.{NoWord}
use Rattle.clsm_search.specs.Frozen.{epoch_row}
use Rattle.clsm_search.proofs.FrozenWalks.{epoch_row_stays}
use Rattle.clsm_runs.proofs.EpochWalks.{yields_first, yields_on}
use Rattle.clsm_runs.proofs.rows.epoch_cursor.Goals as goal

pub next_write-head-requires-clause-going : goal.next_write-head-requires-clause-going
next_write-head-requires-clause-going g c = (drop c.args.position (epoch_row c.args.merger.now.knows), c.requires.walked)

pub returns-clause-head : goal.returns-clause-head
returns-clause-head g c =
    let k = c.args.merger.now.knows in
    yields_first c.next_write-head.new.merger.knows c.next_write-head.new.walk (drop c.args.position (epoch_row k)) c.next_write-head.result
    (c.next_write-head.ensures.next (drop c.args.position (epoch_row k)) c.requires.walked)

pub returns-clause-walked : goal.returns-clause-walked
returns-clause-walked g c =
    let k = c.args.merger.now.knows in
    let k' = c.next_write-head.new.merger.knows in
    yields_on k' c.next_write-head.new.walk (epoch_row k) c.args.position c.next_write-head.result
    (epoch_row_stays NoWord k k' c.next_write-head.ensures.looks c.args.walk.now.merges c.requires.walked.frozen c.show_invariant.ensures)
    (c.next_write-head.ensures.next (drop c.args.position (epoch_row k)) c.requires.walked)

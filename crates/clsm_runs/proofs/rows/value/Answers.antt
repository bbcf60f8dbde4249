use Rattle.std.proofs.Common.{◌∙◌, ap}
use Rattle.clsm_levels.specs.declared.entry.Entry.{Entry}
use Rattle.clsm_levels.specs.declared.entry.Version.{Version}
use Rattle.clsm_levels.specs.Entry.{is_removal}
use Rattle.clsm_runs.proofs.MergeRows.{taken_of_run, taken_written}
use Rattle.clsm_runs.proofs.rows.value.Goals as goal

pub frozen_value-requires-clause-written : goal.frozen_value-requires-clause-written
frozen_value-requires-clause-written g c =
    let there = c.requires.there in (
      there.0,
      taken_written c.args.merger.now.knows c.args.winner.now there.0 there.1 c.args.merges c.show_invariant.ensures c.requires.merging
          c.if-winner-eq0.true,
      there.1.version,
    )

pub returns-then-winner-eq0-clause-told : goal.returns-then-winner-eq0-clause-told
returns-then-winner-eq0-clause-told g c = λ e taken.
    c.frozen_value.ensures.told e
    (taken_written c.args.merger.now.knows c.args.winner.now e taken c.args.merges c.show_invariant.ensures c.requires.merging c.if-winner-eq0.true)
    taken.version

pub value-requires-clause-has : goal.value-requires-clause-has
value-requires-clause-has g c =
    let k = c.args.merger.now.knows in
    let there = c.requires.there in
    let place = c.in_ok-place.ensures.place k c.requires.merging.merged in
    record {
      frozen = c.requires.merging.frozen;
      free = c.requires.merging.free;
      named = place.1;
      inside = (taken_of_run k c.args.winner.now there.0 there.1 c.in_ok-place.place place.0).0;
    }

pub value-requires-clause-removes : goal.value-requires-clause-removes
value-requires-clause-removes g c =
    let k = c.args.merger.now.knows in
    let there = c.requires.there in
    let place = c.in_ok-place.ensures.place k c.requires.merging.merged in
    ap is_removal (taken_of_run k c.args.winner.now there.0 there.1 c.in_ok-place.place place.0).1 ∙ ap (λ (v : Version). v.is_removal) there.1.version

pub returns-clause-told : goal.returns-clause-told
returns-clause-told g c = λ e taken.
    let k = c.args.merger.now.knows in
    let place = c.in_ok-place.ensures.place k c.requires.merging.merged in
    c.value.ensures.told ∙ ap (λ (x : Entry). x.value) (taken_of_run k c.args.winner.now e taken c.in_ok-place.place place.0).1

use Rattle.std.proofs.Common.{sym, ◌∙◌}
use Rattle.std.proofs.lemmas.Bool.{true≢false}
use Rattle.clsm_machine_merger.specs.MergeReads.{sources, wanted, written}
use Rattle.clsm_machine_merger.proofs.MergingDecision.{wanted_is, wanted_if_passes, passes_if_wanted}
use Rattle.clsm_machine_merger.proofs.deciding.is_wanted_written.Goals as goal
use Rattle.clsm_machine_merger.proofs.deciding.is_wanted_written.Goals.{then-is_run_written, else-is_run_written}

pub returns-then-is_each_kept : goal.returns-then-is_each_kept
returns-then-is_each_kept c =
    let m = c.args.merge.now in
    let is = wanted_is m.layout.now m.words.now m.merger.now m.slots.now c.requires in
    elim c.if-is_run_written.branch [
      | then-is_run_written w ↦ (
        λ each. wanted_if_passes m.merger.now (sources m) (wanted m) (written m) is (record {
          order = c.is_run_written.ensures.0 w.if-is_run_written.true;
          each_kept = w.is_each_kept.ensures.0 (sym w.value-is ∙ c.if-is_each_kept.true);
          each_written = c.is_each_written.ensures.0 each;
        }),
        λ same. c.is_each_written.ensures.1 (passes_if_wanted m.merger.now (sources m) (wanted m) (written m) is same).each_written,
      )
      | else-is_run_written w ↦ absurd (true≢false (sym c.if-is_each_kept.true ∙ w.value-is ∙ w.if-is_run_written.false))
    ]

pub returns-else-is_each_kept : goal.returns-else-is_each_kept
returns-else-is_each_kept c =
    let m = c.args.merge.now in
    let is = wanted_is m.layout.now m.words.now m.merger.now m.slots.now c.requires in (
      λ passed. absurd (true≢false (sym passed ∙ c.if-is_each_kept.false)),
      λ same.
          let passes = passes_if_wanted m.merger.now (sources m) (wanted m) (written m) is same in
          elim c.if-is_run_written.branch [
            | then-is_run_written w ↦ w.value-is ∙ w.is_each_kept.ensures.1 passes.each_kept
            | else-is_run_written w ↦ w.value-is ∙ c.is_run_written.ensures.1 passes.order
          ],
    )

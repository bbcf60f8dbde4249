use Rattle.std.proofs.Common.{◌≡◌, ℕ, ◌+◌, ◌<◌, List, drop, arith, sym, ◌∙◌, ap, length-set}
use Rattle.clsm_levels.specs.declared.entry.Entry.{Entry}
use Rattle.clsm_levels.specs.declared.cursor.Cursor.{Cursor}
use Rattle.clsm_levels.specs.Cursors.{first_of, row_at}
use Rattle.clsm_levels.specs.Version.{version_in}
use Rattle.clsm_levels.proofs.Picks.{at_set}
use Rattle.clsm_words.specs.Changing.{NoWord}
use Rattle.clsm_runs.specs.Placing.{rows_of}
use Rattle.clsm_words.proofs.Changing.{changes_trans}
use Rattle.clsm_runs.proofs.EpochWalks.{walked_on}
use Rattle.clsm_runs.proofs.MergeRows.{rows_looked}
use Rattle.clsm_runs.proofs.rows.open_cursors.Goals as goal

pub loop-row-preserved : goal.loop-row-preserved
loop-row-preserved g c =
    let k = c.args.merger.now.knows in
    let k' = c.loop-row.merger.knows in
    let rows = rows_of k in
    let i = c.loop-row.row in
    let new = c.cursor.result in
    record {
      of = c.cursor.ensures.of;
      looks = changes_trans NoWord k k' c.cursor.new.merger.knows c.loop-row.invariant.looks c.cursor.ensures.looks;
      some = omega arith;
      walked = walked_on NoWord k' c.cursor.new.merger.knows c.epoch_cursor-first.new.walk 1 c.cursor.ensures.looks
          c.show_invariant-in-loop-row.ensures c.loop-row.invariant.walked;
      long = length-set c.loop-row.cursors i new ∙ c.loop-row.invariant.long;
      opened = at_set (λ (j : ℕ) (x : Cursor). j < i + 1
          → (x.head ≡ version_in (first_of (drop x.position (row_at rows j)))) × (x.position ≡ 0)) c.loop-row.cursors i new
          (let long = c.loop-row.invariant.long in omega arith)
          (λ _. (
            c.cursor.ensures.head
                ∙ ap (λ (l : List (List Entry)). version_in (first_of (row_at l i)))
                (rows_looked k k' c.args.merges c.show_invariant.ensures c.requires.merging c.loop-row.invariant.looks)
                ∙ ap (λ (n : ℕ). version_in (first_of (drop n (row_at rows i)))) (sym c.cursor.ensures.position),
            c.cursor.ensures.position,
          ))
          (λ j ne lt. c.loop-row.invariant.opened j (omega arith));
    }

-- What is written is what is wanted exactly where it is a run, each of its entries is kept, and
-- each entry that is kept is in it.
use Rattle.std.proofs.Common.{◌≡◌, ℕ, ◌+◌, ◌*◌, ◌↔◌, Bool, true, false, cond, List, ◌++◌, sym, subst, Option}
use Rattle.std.specs.List.{Contains}
use Rattle.clsm_model.specs.declared.slot.Slot.{Slot}
use Rattle.clsm_levels.specs.declared.entry.Entry.{Entry}
use Rattle.clsm_levels.specs.Entry.{TimesFallByKey}
use Rattle.clsm_levels.specs.Merge.{is_to_level_one, merged, kept, wanted}
use Rattle.clsm_levels.specs.Rule.{sources}
use Rattle.clsm_levels.specs.Run.{IsRun, all_of}
use Rattle.clsm_levels.proofs.Histories.{entries_fall, entries_from}
use Rattle.clsm_levels.proofs.Keeps.{run-kept}
use Rattle.clsm_levels.proofs.Orders.{run-merged, times_fall-of_key, times_fall_by_key-append}
use Rattle.clsm_levels.proofs.Rules.{wanted_by_rule}
use Rattle.clsm_levels.proofs.SameRuns.{same_runs}
use Rattle.clsm_law.specs.declared.layout.Layout.{Layout}
use Rattle.clsm_law.specs.declared.merger.MergerView.{MergerView}
use Rattle.clsm_law.specs.Layout.{memory}
use Rattle.clsm_law.specs.Worlds.{settled, epoch_of, runs_of}
use Rattle.clsm_law.specs.Deciding.{IsMergeable, StaysIn, IsEachKept, IsEachWritten, sources_of, wanted_of}

-- the sources fall in time in each key
sources_fall : (z : Layout) (words : List ℕ) (m : MergerView) (slots : List (Option Slot)) → IsMergeable z words m
    → TimesFallByKey (sources m.merged (epoch_of z slots m.merged) (runs_of (memory z words) m.merged))
sources_fall z words m slots is = by_level (is_to_level_one m.merged) where
  epoch_falls : TimesFallByKey (epoch_of z slots m.merged)
  epoch_falls = times_fall-of_key (epoch_of z slots m.merged) (entries_fall (settled slots) (m.merged * z.cells) ((m.merged + 1) * z.cells))

  by_level : (one : Bool) → TimesFallByKey (cond one (epoch_of z slots m.merged ++ all_of (runs_of (memory z words) m.merged)) (epoch_of z slots m.merged))
  by_level true = times_fall_by_key-append (m.merged * z.cells) (epoch_of z slots m.merged)
      (all_of (runs_of (memory z words) m.merged)) epoch_falls is.falls
      (entries_from (settled slots) (m.merged * z.cells) ((m.merged + 1) * z.cells)) is.older
  by_level false = epoch_falls

wanted_run : (m floor : ℕ) (epoch : List Entry) (runs : List (List Entry)) → TimesFallByKey (sources m epoch runs) → IsRun (wanted m floor epoch runs)
wanted_run m floor epoch runs = by_level (is_to_level_one m) where
  by_level : (one : Bool) → TimesFallByKey (cond one (epoch ++ all_of runs) epoch)
      → IsRun (cond one (kept floor true (merged (epoch ++ all_of runs))) (kept floor false (merged epoch)))
  by_level true falls = run-kept floor true (merged (epoch ++ all_of runs)) (run-merged (epoch ++ all_of runs) falls)
  by_level false falls = run-kept floor false (merged epoch) (run-merged epoch falls)

-- what is wanted is a run of exactly the sources that stay
pub record IsWanted (m : MergerView) (all run : List Entry) : Type 0 where
  pub order : IsRun run
  pub rule : (e : Entry) → Contains run e ↔ (Contains all e × StaysIn m all e)

pub wanted_is : (z : Layout) (words : List ℕ) (m : MergerView) (slots : List (Option Slot)) → IsMergeable z words m
    → IsWanted m (sources_of z words m slots) (wanted_of z words m slots)
unfolding sources_of wanted_of
wanted_is z words m slots is =
    let epoch = epoch_of z slots m.merged in
    let runs = runs_of (memory z words) m.merged in
    let falls = sources_fall z words m slots is in
    record { order = wanted_run m.merged m.floor epoch runs falls; rule = wanted_by_rule m.merged m.floor epoch runs falls }

-- what is written passes the three tests
pub record PassesTests (m : MergerView) (all written : List Entry) : Type 0 where
  pub order : IsRun written
  pub each_kept : IsEachKept m all written
  pub each_written : IsEachWritten m all written

pub wanted_if_passes : (m : MergerView) (all run written : List Entry) → IsWanted m all run → PassesTests m all written → written ≡ run
wanted_if_passes m all run written is passes = same_runs written run passes.order is.order (λ e c. (is.rule e).1 (passes.each_kept e c))
    (λ e c. let both = (is.rule e).0 c in passes.each_written e both.0 both.1)

pub passes_if_wanted : (m : MergerView) (all run written : List Entry) → IsWanted m all run → written ≡ run → PassesTests m all written
passes_if_wanted m all run written is same = subst (PassesTests m all) (sym same)
    (record { order = is.order; each_kept = λ e c. (is.rule e).0 c; each_written = λ e c stays. (is.rule e).1 (c, stays) })

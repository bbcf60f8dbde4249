-- What the target holds, by its numbers and by its order.
use Rattle.std.proofs.Common.{◌≡◌, ℕ, ◌+◌, ◌-◌, ◌<◌, ◌≤◌, List, sym, ap, subst, arith, Option, Some}
use Rattle.clsm_levels.specs.declared.entry.Entry.{Entry}
use Rattle.clsm_levels.specs.Run.{ComesBefore, IsRun}
use Rattle.clsm_law.specs.declared.layout.Layout.{Layout}
use Rattle.clsm_law.specs.declared.word.Word.TheVariants.{Count}
use Rattle.clsm_law.specs.declared.merger.MergerView.{MergerView}
use Rattle.clsm_law.specs.Memory.{Memory}
use Rattle.clsm_law.specs.Layout.{memory}
use Rattle.clsm_law.specs.Places.{entry_in}
use Rattle.clsm_law.specs.Merging.{target_of}
use Rattle.clsm_law.specs.Deciding.{written_of}
use Rattle.clsm_machine_merger.proofs.MergingNumbers.{IsNumbered, numbered_as, entry_from, numbered-entries_from}
use Rattle.clsm_machine_merger.proofs.MergingRuns.{AreInOrder, run_in_order, in_order_run}

abbrev pub written_at : Memory → ℕ → ℕ → Option Entry
written_at memory target k = Some (entry_in memory target k)

pub numbered-written : (z : Layout) (words : List ℕ) (m : MergerView) (target : ℕ) → target ≡ target_of m
    → IsNumbered (written_of z words m) (memory z words (Count (target_of m))) (written_at (memory z words) target)
unfolding written_of
numbered-written z words m target is =
    let all = memory z words in
    let count = all (Count (target_of m)) in
    let from_zero : (k : ℕ) → k < count → entry_from all (target_of m) 0 k ≡ written_at all (target_of m) k = λ k lt. let same : 0 + k ≡ k = omega arith in
    ap (λ (j : ℕ). Some (entry_in all (target_of m) j)) same in
    subst (λ (p : ℕ). IsNumbered (written_of z words m) count (written_at all p)) (sym is)
    (numbered_as (written_of z words m) count (entry_from all (target_of m) 0) (written_at all (target_of m)) from_zero
    (numbered-entries_from all (target_of m) 0 count))

-- what stands in order up to its end is a run
pub run_written : (z : Layout) (words : List ℕ) (m : MergerView) (target end : ℕ) → target ≡ target_of m → memory z words (Count (target_of m)) ≤ end
    → AreInOrder (memory z words) target 0 end → IsRun (written_of z words m)
unfolding written_of
run_written z words m target end is le ordered =
    let all = memory z words in
    run_in_order all (target_of m) 0 (all (Count (target_of m))) (λ k low high. subst
    (λ (p : ℕ). ComesBefore (entry_in all p (k - 1)) (entry_in all p k)) is (ordered k low (omega arith)))

-- and a run stands in order
pub written_in_order : (z : Layout) (words : List ℕ) (m : MergerView) (target k : ℕ) → target ≡ target_of m → IsRun (written_of z words m) → 0 < k
    → k < memory z words (Count (target_of m)) → ComesBefore (entry_in (memory z words) target (k - 1)) (entry_in (memory z words) target k)
unfolding written_of
written_in_order z words m target k is run low high =
    let all = memory z words in
    subst (λ (p : ℕ). ComesBefore (entry_in all p (k - 1)) (entry_in all p k)) (sym is)
    (in_order_run all (target_of m) 0 (all (Count (target_of m))) run k low (omega arith))

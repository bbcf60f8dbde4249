-- In a lawful world the next merge can be decided.
use Rattle.std.proofs.Common.{◌≡◌, ℕ, ◌+◌, ◌*◌, ◌≤◌, ◌||◌, Bool, true, false, cond, List, length, arith, Option}
use Rattle.clsm_model.specs.declared.batch.Batch.{Batch}
use Rattle.clsm_model.specs.declared.slot.Slot.{Slot}
use Rattle.clsm_law.specs.declared.layout.Layout.{Layout}
use Rattle.clsm_law.specs.declared.view.View.{View}
use Rattle.clsm_law.specs.declared.merger.MergerView.{MergerView}
use Rattle.clsm_law.specs.Layout.{memory, size_of}
use Rattle.clsm_law.specs.Relation.{Chains, Orders}
use Rattle.clsm_law.specs.Merging.{is_frozen}
use Rattle.clsm_law.specs.Law.{LawOf}
use Rattle.clsm_law.specs.Deciding.{IsMergerSmall, IsMergeable}

-- the limit is not below the end of the epoch of the next merge
end_before_limit : (frozen : Bool) (m n : ℕ) → (m + 1) * n ≤ cond frozen ((m + 2) * n) ((m + 1) * n)
end_before_limit true m n = omega arith
end_before_limit false m n = omega arith

pub lawful_is_small : (z : Layout) (words : List ℕ) (views : List View) (m : MergerView) (slots : List (Option Slot)) (batches : List Batch)
    (chains : Chains) (orders : Orders) → LawOf z (memory z words) views m slots batches chains orders → IsMergerSmall z m
lawful_is_small z words views m slots batches chains orders law = let e = end_before_limit (is_frozen m.phase || m.limit_extended) m.merged z.cells in
    record { merged = omega (arith, law.limit, law.top, e) }

pub lawful_is_mergeable : (z : Layout) (words : List ℕ) (views : List View) (m : MergerView) (slots : List (Option Slot)) (batches : List Batch)
    (chains : Chains) (orders : Orders) → length words ≡ size_of z → LawOf z (memory z words) views m slots batches chains orders → IsMergeable z words m
lawful_is_mergeable z words views m slots batches chains orders sized law = record {
  size = sized;
  small = lawful_is_small z words views m slots batches chains orders law;
  counts = law.runs.counts;
  falls = law.runs.content.falls;
  older = law.runs.content.older;
}

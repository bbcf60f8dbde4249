use Rattle.std.proofs.Common.{rules}
use Rattle.std.specs.Ordering.{nat_cmp}
use Rattle.std.specs.List.Sorted.{IsNonDecreasingBy, IsStableByKey}
use Rattle.std.proofs.lemmas.List.Sorted.{answers_always, IsNonDecreasingBy-from_sort_by_key}
use Rattle.clsm_levels.specs.declared.entry.Entry.{Entry}
use Rattle.clsm_levels.proofs.Sorts.{sorted_merged}
use Rattle.clsm_levels.proofs.merge.merged.Goals as goal

pub returns : goal.returns
returns c =
    let old = c.args.entries.items in
    let new = c.sort_by_key.new.self.items in
    let sorted : IsNonDecreasingBy (λ (e : Entry). e.key) new = IsNonDecreasingBy-from_sort_by_key
    (λ (e : Entry). e.key) _ c.in_ok-sort_by_key.ensures.sorted (λ a r q k. search rules) in
    let stable : IsStableByKey (λ (e : Entry). e.key) nat_cmp old new =
    c.in_ok-sort_by_key.ensures.stable (λ (e : Entry). e.key) (answers_always _ _ _ (λ f a r f' called. search rules)) in
    sorted_merged old new sorted stable

use Rattle.std.proofs.Common.{◌≡◌, Err, Ok, rules, subst}
use Rattle.clsm_store.specs.Phase.{Merges, Reclaims}
use Rattle.clsm_store.specs.declared.phase.MergeError.TheVariants.{NotFrozen}
use Rattle.clsm_store.specs.declared.phase.ReclaimError.TheVariants.{Pinned}
use Rattle.clsm_store.proofs.SweepParts.{merged_behind, unmerged_behind}
use Rattle.clsm_store.proofs.merger.Merger.finish.Goals.{in-Ok, in-Err-NotFrozen}
use Rattle.clsm_store.proofs.merger.Merger.finish.Goals as goal

pub returns-in-Ok-reclaimed-clause-finishes : goal.returns-in-Ok-reclaimed-clause-finishes
returns-in-Ok-reclaimed-clause-finishes g c =
    let old = c.args.self.phase in
    let mid = c.merge-merger.result.0.phase in
    let new = c.reclaim-merger.result.0.phase in
    let is : c.reclaim-merger.result.1 ≡ Ok tt = c.in-Ok-reclaimed.is in
    let reclaims = subst (Reclaims mid new) is c.reclaim-merger.ensures.reclaims in
    elim c.match-merged.branch [
      | in-Ok w ↦ merged_behind old mid new w.in-Ok.field-0 (Ok tt) (subst (Merges old mid) w.in-Ok.is c.merge-merger.ensures.merges) reclaims
      | in-Err-NotFrozen w ↦
          let none : c.merge-merger.result.1 ≡ Err NotFrozen = search rules in
          unmerged_behind old mid new (Ok tt) (subst (Merges old mid) none c.merge-merger.ensures.merges) reclaims
    ]

pub returns-in-Err-Pinned-clause-finishes : goal.returns-in-Err-Pinned-clause-finishes
returns-in-Err-Pinned-clause-finishes g c =
    let old = c.args.self.phase in
    let mid = c.merge-merger.result.0.phase in
    let new = c.reclaim-merger.result.0.phase in
    let is : c.reclaim-merger.result.1 ≡ Err (Pinned c.in-Err-Pinned.pinned) = search rules in
    let reclaims = subst (Reclaims mid new) is c.reclaim-merger.ensures.reclaims in
    elim c.match-merged.branch [
      | in-Ok w ↦ merged_behind old mid new w.in-Ok.field-0 (Err (Pinned c.in-Err-Pinned.pinned)) (subst (Merges old mid) w.in-Ok.is
          c.merge-merger.ensures.merges) reclaims
      | in-Err-NotFrozen w ↦
          let none : c.merge-merger.result.1 ≡ Err NotFrozen = search rules in
          unmerged_behind old mid new (Err (Pinned c.in-Err-Pinned.pinned)) (subst (Merges old mid) none c.merge-merger.ensures.merges) reclaims
    ]

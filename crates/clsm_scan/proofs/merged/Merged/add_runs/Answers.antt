use Rattle.std.proofs.Common.{ap, subst, Option, Some}
use Rattle.clsm_words.proofs.Keeps.{aside_trans}
use Rattle.clsm_scan.specs.declared.any_walk.AnyWalk.{AnyWalk}
use Rattle.clsm_scan.specs.Optional.{found_in}
use Rattle.clsm_scan.specs.Sources.{found_in_runs, level_one_walk, level_zero_walk}
use Rattle.clsm_scan.specs.Streams.{HasAdded}
use Rattle.clsm_scan.specs.Walks.{any_found}
use Rattle.clsm_scan.proofs.AddedWalks.{added_after, added_both, added_same}
use Rattle.clsm_scan.proofs.ComponentCursors.{one_over, runs_found, zero_over}
use Rattle.clsm_scan.proofs.merged.Merged.add_runs.Goals as goal

pub returns-clause-added : goal.returns-clause-added
returns-clause-added g c =
    let k = c.args.seat.now.knows in
    let k1 = c.add.new.seat.knows in
    let k2 = c.add-2.new.seat.knows in
    let k3 = c.add-3.new.seat.knows in
    let k4 = c.add-4.new.seat.knows in
    let m = c.args.self.now in
    let m1 = c.add.new.self in
    let m2 = c.add-2.new.self in
    let m3 = c.add-3.new.self in
    let m4 = c.add-4.new.self in
    let lo = c.args.key in
    let component = c.args.at.component in
    let until = c.args.at.until in
    let held = c.requires.held in
    let one = level_zero_walk component 1 until in
    let zero = level_zero_walk component 0 until in
    let last : Option AnyWalk = Some (level_one_walk component until) in
    let looks1 = c.add.ensures.added.looks in
    let looks2 = aside_trans k k1 k2 looks1 c.add-2.ensures.added.looks in
    let looks3 = aside_trans k k2 k3 looks2 c.add-3.ensures.added.looks in
    let added1 = subst (λ (o : Option AnyWalk). HasAdded lo k m k1 m1 (found_in (any_found k) o)) c.level_zero.ensures c.add.ensures.added in
    let added2 = added_after lo k k1 m1 k2 m2 c.level_zero-2.result one c.level_zero-2.ensures looks1 (zero_over k component until 1 held)
    c.add-2.ensures.added in
    let added3 = added_after lo k k2 m2 k3 m3 c.level_zero-3.result zero c.level_zero-3.ensures looks2 (zero_over k component until 0 held)
    c.add-3.ensures.added in
    let added4 = added_after lo k k3 m3 k4 m4 (Some c.level_one.result) last (ap (λ (w : AnyWalk). Some w) c.level_one.ensures) looks3
    (one_over k component until held) c.add-4.ensures.added in
    added_same lo k m k4 m4 _ (found_in_runs k component until) (runs_found k component until)
    (added_both lo k m k1 m1 k4 m4 _ _ added1 (added_both lo k1 m1 k2 m2 k4 m4 _ _ added2 (added_both lo k2 m2 k3 m3 k4 m4 _ _ added3 added4)))

use Rattle.std.proofs.Common.{◌≡◌, ℕ, ◌+◌, ◌*◌, min, ap, sym, ◌∙◌, arith, subst, Option}
use Rattle.clsm_law.specs.declared.layout.Layout.{Layout}
use Rattle.clsm_scan.specs.declared.any_walk.AnyWalk.{AnyWalk}
use Rattle.clsm_scan.specs.Optional.{found_in}
use Rattle.clsm_scan.specs.Sources.{epoch_walk, found_in_epochs}
use Rattle.clsm_scan.specs.Streams.{HasAdded}
use Rattle.clsm_scan.specs.Walks.{any_found}
use Rattle.clsm_scan.proofs.AddedWalks.{added_after, added_both, added_same}
use Rattle.clsm_scan.proofs.AllWalks.{AreComputed, both_found, older_over}
use Rattle.clsm_scan.proofs.merged.Merged.add_epochs.Given.{Over}
use Rattle.clsm_scan.proofs.merged.Merged.add_epochs.Goals as goal
use Rattle.clsm_scan.proofs.merged.Merged.add_epochs.Goals.{After-epoch_below-later}

module _ (g : Over) (c : After-epoch_below-later g) where
  same : c.args.seat.now.knows.layout.cells ≡ c.cells-cells.result
  same = ap (λ (z : Layout). z.cells) c.requires.of.1 ∙ sym c.cells-cells.ensures

  computed : AreComputed c.args.at.component c.args.seat.now.knows.layout.cells c.args.at.until c.saturating_add-number.result
      c.saturating_mul-first.result c.saturating_add-second.result
  computed = record {
    some = let some = c.args.seat.now.knows.layout.cells_in_range.0 in omega arith;
    small = let fits = c.well_formed in omega (arith, fits);
    first_is = c.saturating_mul-first.ensures ∙ ap (λ (n : ℕ). min (c.args.at.component * n) 18446744073709551615) (sym same);
    second_is = c.saturating_add-second.ensures ∙ ap (λ (n : ℕ). min (c.saturating_mul-first.result + n) 18446744073709551615) (sym same);
    later_is = c.saturating_add-number.ensures;
  }

pub returns-clause-added : goal.returns-clause-added
returns-clause-added g c =
    let turn = (goal.at.returns-clause-added g c).After-epoch_below-later in
    let k = c.args.seat.now.knows in
    let k' = c.add.new.seat.knows in
    let k'' = c.add-2.new.seat.knows in
    let m = c.args.self.now in
    let m' = c.add.new.self in
    let m'' = c.add-2.new.self in
    let lo = c.args.key in
    let component = c.args.at.component in
    let until = c.args.at.until in
    let number = c.saturating_add-number.result in
    let first = c.saturating_mul-first.result in
    let second = c.saturating_add-second.result in
    let cells = k.layout.cells in
    let are = computed g turn in
    let later_is : c.epoch_below-later.result ≡ epoch_walk component number second cells until = c.epoch_below-later.ensures
    ∙ ap (λ (n : ℕ). epoch_walk component number second n until) (sym (same g turn)) in
    let earlier_is : c.epoch_below-earlier.result ≡ epoch_walk component component first cells until = c.epoch_below-earlier.ensures
    ∙ ap (λ (n : ℕ). epoch_walk component component first n until) (sym (same g turn)) in
    let one = subst (λ (o : Option AnyWalk). HasAdded lo k m k' m' (found_in (any_found k) o)) later_is c.add.ensures.added in
    let two = added_after lo k k' m' k'' m'' c.epoch_below-earlier.result (epoch_walk component component first cells until) earlier_is
    c.add.ensures.added.looks (older_over k component until number first second c.requires.may are) c.add-2.ensures.added in
    added_same lo k m k'' m'' _ (found_in_epochs k component until) (both_found k component until number first second c.requires.may are)
    (added_both lo k m k' m' k'' m'' _ _ one two)

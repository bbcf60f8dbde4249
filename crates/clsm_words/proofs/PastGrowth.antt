-- How far a view's past goes only grows.
use Rattle.std.proofs.Common.{ℕ, ◌≤◌, arith}
use Rattle.clsm_law.specs.declared.layout.Layout.{Layout}
use Rattle.clsm_law.specs.declared.step.Step.{Step}
use Rattle.clsm_law.specs.declared.step.Step.TheVariants.{Fill, Look, RaiseFront}
use Rattle.clsm_law.specs.declared.view.View.{View}
use Rattle.clsm_law.specs.Relation.{view_after}
use Rattle.clsm_law.proofs.Frames.{looked_leaves, filled_leaves}

pub past_grows : (z : Layout) (i : ℕ) (v : View) (step : Step) (x : ℕ) → v.past ≤ (view_after z i v step x).past
past_grows z i v (Fill part w) x = let e = (filled_leaves v part w).2 in omega arith
past_grows z i v (Look word) x = let e = (looked_leaves z v word x).2 in omega arith
past_grows z i v (RaiseFront s) x = omega arith
past_grows z i v step x = omega arith

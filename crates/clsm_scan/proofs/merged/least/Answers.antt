use Rattle.std.proofs.Common.{◌+◌, ◌<◌, length, arith, sym, subst}
use Rattle.clsm_scan.proofs.Places.{IsLeastSoFar, key_index, least_one, nowhere, so_far_lesser, so_far_stays}
use Rattle.clsm_scan.proofs.merged.least.Goals as goal
use Rattle.clsm_scan.proofs.merged.least.Goals.{then-streams-at, else-streams-at}

pub loop-at-init : goal.loop-at-init
loop-at-init c = record { inside = λ some. some; passed = omega arith; least = least_one c.args.streams.now }

pub loop-at-preserved : goal.loop-at-preserved
loop-at-preserved c =
    let ss = c.args.streams.now in
    let lead = c.loop-at.lead in
    let at = c.loop-at.at in
    let before = c.loop-at.invariant in
    let inside : at < length ss = c.loop-at-test.true in
    let here = key_index ss at nowhere inside in
    let there = key_index ss lead nowhere (before.inside (omega arith)) in
    elim c.if-streams-at.branch [
      | then-streams-at w ↦ subst (IsLeastSoFar ss (at + 1)) (sym w.lead-is) (so_far_lesser ss at lead inside (rw (here, there) w.if-streams-at.true) before)
      | else-streams-at w ↦ subst (IsLeastSoFar ss (at + 1)) (sym w.lead-is) (so_far_stays ss at lead (rw (here, there) w.if-streams-at.false) before)
    ]

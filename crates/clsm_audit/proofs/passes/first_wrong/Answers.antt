use Rattle.std.proofs.Common.{◌+◌, arith, subst, sym, ◌∙◌}
use Rattle.std.proofs.lemmas.Bool.{true≢false}
use Rattle.clsm_audit.proofs.Played.{IsFoundBefore, found_all, found_right, found_wrong, played_first, played_next, right_here}
use Rattle.clsm_audit.proofs.passes.first_wrong.Goals as goal
use Rattle.clsm_audit.proofs.passes.first_wrong.Goals.{then-not-branch, else-not-branch}

pub loop-stamp-init : goal.loop-stamp-init
loop-stamp-init c = record {
  played = played_first c.args.records.now c.args.stamps.now c.requires.order c.requires.times c.requires.alone c.new-replay.result.until
      c.new-replay.result.map c.new-replay.ensures.until (c.new-replay.ensures.map _);
  found = record { wrong = tt; right = λ k lt first. absurd (omega arith) };
}

pub loop-stamp-preserved : goal.loop-stamp-preserved
loop-stamp-preserved c =
    let records = c.args.records.now in
    let stamps = c.args.stamps.now in
    let j = c.loop-stamp.stamp-index in
    let old = c.loop-stamp.replay in
    let played = c.in_ok-play.ensures in
    let before = c.loop-stamp.invariant in
    let right = right_here records stamps c.requires.order c.requires.times c.requires.alone j old.until old.map c.index-records-stamp.result
    c.in_ok-play.field-0 c.loop-stamp-test.true c.index-records-stamp.is before.played played.right in
    record {
      played = played_next records stamps c.requires.order c.requires.times c.requires.alone j _ _ _ _ c.index-records-stamp.result c.loop-stamp-test.true
          c.index-records-stamp.is before.played (record { write = played.write; read = played.read; until_is = played.until });
      found = elim c.if-not-branch.branch [
        | then-not-branch w ↦ subst (IsFoundBefore records stamps (j + 1)) (sym w.found-is)
            (found_wrong records stamps j w.lowest.result c.loop-stamp.found
            (λ h. true≢false (sym (right.1 h) ∙ w.if-not-branch.true)) w.lowest.ensures before.found)
        | else-not-branch w ↦ subst (IsFoundBefore records stamps (j + 1)) (sym w.found-is)
            (found_right records stamps j c.loop-stamp.found (right.0 w.if-not-branch.false) before.found)
      ];
    }

pub returns : goal.returns
returns c = found_all c.args.records.now c.args.stamps.now c.loop-stamp.stamp-index c.loop-stamp.found c.requires.order c.loop-stamp-test.false
    c.loop-stamp.invariant.found

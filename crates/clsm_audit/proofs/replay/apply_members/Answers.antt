use Rattle.std.proofs.Common.{◌+◌, subst, sym, ◌∙◌, arith}
use Rattle.clsm_model.specs.Map.{IsMap}
use Rattle.clsm_audit.proofs.Members.{ArePlayed, played_more, played_none}
use Rattle.clsm_audit.proofs.replay.apply_members.Goals as goal
use Rattle.clsm_audit.proofs.replay.apply_members.Goals.{in-Some+in_ok-apply, in_default}

pub loop-key-init : goal.loop-key-init
loop-key-init c = λ h s stand map. subst (λ n. IsMap h n c.args.map.now) (omega arith) map

pub loop-key-preserved : goal.loop-key-preserved
loop-key-preserved c =
    let n = c.loop-key.key-index in
    let m = c.loop-key-item.result in
    let old = c.args.map.now in
    elim c.match-change_by.branch [
      | in-Some+in_ok-apply w ↦ subst (ArePlayed c.args.seat c.args.members.now (n + 1) old) (sym w.map-is)
          (played_more c.args.seat c.args.members.now n m c.loop-key-test.true c.loop-key-item.is old c.loop-key.map w.apply.new.self w.in-Some.slot
          (sym c.change_by.ensures ∙ w.in-Some.is) c.loop-key.invariant w.in_ok-apply.ensures.follows)
      | in_default w ↦ played_none c.args.seat c.args.members.now n m c.loop-key-test.true c.loop-key-item.is old c.match-change_by.map
          (sym c.change_by.ensures ∙ w.in_default.is)
    ]

pub returns : goal.returns
returns c = λ h s stand map.
    subst (λ n. IsMap h (s + n) c.loop-key.map) (let top = c.loop-key.auto.key-index-end in let end = c.loop-key-test.false in omega arith)
    (c.loop-key.invariant h s stand map)

use Rattle.std.proofs.Common.{List, ap, ◌∙◌}
use Rattle.clsm_model.specs.Map.{Pair, value_at}
use Rattle.clsm_model.proofs.Equals.{Value-Decides, option_eq-Decides}
use Rattle.clsm_store_audit.proofs.Checked.{applied, left_out, tells}
use Rattle.clsm_store_audit.proofs.race.check.Goals as goal
use Rattle.clsm_store_audit.proofs.race.check.Goals.{then-put-got+in_ok-apply, else-put-got}

pub returns : goal.returns
returns c = let write = c.args.write.now in
    tells c.eq.result _ c.get.result c.args.got.now.value _ c.eq.ensures (option_eq-Decides Value-Decides c.get.result c.args.got.now.value)
    (c.get.ensures ∙ elim c.if-put-got.branch [
      | then-put-got+in_ok-apply w ↦ ap (λ (m : List Pair). value_at m write.key) w.map-is
          ∙ applied c.new-map.result w.apply.new.self write.key c.args.put c.args.got.now.time write.value w.if-put-got.true w.in_ok-apply.ensures.plays
      | else-put-got w ↦ ap (λ (m : List Pair). value_at m write.key) w.map-is
          ∙ left_out c.new-map.result write.key c.args.put c.args.got.now.time write.value w.if-put-got.false c.new-map.ensures.empty
    ])

use Rattle.std.proofs.Common.{◌-◌, ◌∷◌, [], ◌++◌, List, sym, ap, ◌∙◌, arith, append_assoc}
use Rattle.clsm_levels.specs.declared.place.Place.{Place}
use Rattle.clsm_levels.specs.declared.place.Place.TheVariants.{LevelZero}
use Rattle.clsm_levels.specs.Place.{level_zero_places}
use Rattle.clsm_levels.proofs.Placed.{level_zero_last}
use Rattle.clsm_levels.proofs.table.places.Goals as goal

pub loop-number-preserved : goal.loop-number-preserved
loop-number-preserved c =
    let j = c.loop-number.number in
    let done = c.loop-number.named.items in
    ap (λ (l : List Place). l ++ level_zero_places (j - 1)) c.in_ok-push.ensures.items
    ∙ append_assoc done (LevelZero (j - 1) ∷ []) (level_zero_places (j - 1))
    ∙ ap (λ (l : List Place). done ++ l) (sym (level_zero_last j (omega arith))) ∙ c.loop-number.invariant

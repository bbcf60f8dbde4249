use Rattle.clsm_model.specs.History.{plain}
use Rattle.clsm_model.specs.Map.{IsMap}
use Rattle.clsm_model.proofs.plain_map.PlainMap.replay.Given as goal

abbrev pub invariant-loop-slot : goal.invariant-loop-slot
invariant-loop-slot l = IsMap (plain l.slots) l.slot-index l.map

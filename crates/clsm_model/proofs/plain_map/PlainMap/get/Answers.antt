use Rattle.std.proofs.Common.{◌∙◌}
use Rattle.clsm_model.proofs.Maps.{value_at-lookup}
use Rattle.clsm_model.proofs.plain_map.PlainMap.get.Goals as goal

pub returns : goal.returns
returns c = rw (value_at-lookup c.args.self.now c.args.key, ← c.self.view_is) (c.copied.ensures ∙ c.get.ensures.value)

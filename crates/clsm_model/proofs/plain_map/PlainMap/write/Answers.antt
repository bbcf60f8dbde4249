use Rattle.std.proofs.Common.{rules}
use Rattle.clsm_model.proofs.Maps.{Writes-lookup, value_at-lookup}
use Rattle.clsm_model.proofs.plain_map.PlainMap.write.Goals as goal

pub returns-in_default-clause-writes : goal.returns-in_default-clause-writes
returns-in_default-clause-writes c = rw (← c.self.view_is, c.in_default.is) (Writes-lookup _ _ _ _ c.remove.ensures.ordered c.remove.ensures.updates.0)

pub returns-clause-writes : goal.returns-clause-writes
returns-clause-writes c = rw (← c.self.view_is, c.in-Some.is) (Writes-lookup _ _ _ _ c.insert.ensures.ordered c.in_default-insert.ensures.updates.0)

pub returns-in-Err-clause-refused : goal.returns-in-Err-clause-refused
returns-in-Err-clause-refused c = (rw c.in-Some.is (search rules), rw (value_at-lookup c.args.self.now c.args.key, ← c.self.view_is) c.in-Err.ensures.absent)

use Rattle.std.proofs.Common.{rules}
use Rattle.clsm_store_calls.proofs.reading.pin_at_clock.Goals as goal

pub returns-clause-begins : goal.returns-clause-begins
returns-clause-begins g c = search rules

use Rattle.std.proofs.Common.{rules}
use Rattle.clsm_store.proofs.store.Store.play.Goals as goal

pub returns-in-Try : goal.returns-in-Try
returns-in-Try g c = search rules

pub returns-in-Claim : goal.returns-in-Claim
returns-in-Claim g c = search rules

pub returns-in-Get : goal.returns-in-Get
returns-in-Get g c = search rules

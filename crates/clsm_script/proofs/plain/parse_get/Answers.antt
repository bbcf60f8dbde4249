use Rattle.clsm_script.proofs.Plains.{says_get}
use Rattle.clsm_script.proofs.plain.parse_get.Goals as goal

pub returns : goal.returns
returns c = says_get _ _ c.in_ok-key.ensures

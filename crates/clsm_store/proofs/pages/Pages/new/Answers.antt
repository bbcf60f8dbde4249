use Rattle.std.proofs.Common.{rules}
use Rattle.clsm_store.proofs.pages.Pages.new.Goals as goal

pub returns-clause-max : goal.returns-clause-max
returns-clause-max c = search rules

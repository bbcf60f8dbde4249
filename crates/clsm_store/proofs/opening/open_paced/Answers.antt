use Rattle.std.proofs.Common.{rules}
use Rattle.clsm_store.proofs.opening.open_paced.Goals as goal

pub returns : goal.returns
returns g c = record {
  sizes = search rules;
  store = search rules;
  seats = search rules;
  at = search rules;
  merger = search rules;
  refusal = search rules;
}

use Rattle.std.proofs.Common.{ℕ, List}
use Rattle.clsm_store.specs.Promises.{GetsMany}
use Rattle.clsm_c.specs.declared.types.CoreKey.{CoreKey}
use Rattle.clsm_c.specs.declared.types.CoreValue.{CoreValue}
use Rattle.clsm_c.specs.Values.{TellsValue}
use Rattle.clsm_c.proofs.Cut.{so_of_all}
use Rattle.clsm_c.proofs.many.fill_values.Goals as goal

pub returns-clause-gets : goal.returns-clause-gets
returns-clause-gets c =
    so_of_all (λ (ask : CoreKey). ask.key) c.args.keys.now c.args.values.now c.min-count.result c.min-count.ensures c.get_many.new.places
    c.get_many.auto.places
    (λ (keys : List ℕ) (before after : List CoreValue). GetsMany TellsValue c.args.caller.now.seat c.get_many.new.seat keys after c.get_many.result)
    c.get_many.ensures

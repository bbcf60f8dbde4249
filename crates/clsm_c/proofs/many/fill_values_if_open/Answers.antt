use Rattle.std.proofs.Common.{ℕ, List}
use Rattle.clsm_store.specs.Promises.{GetsManyAtIfOpen}
use Rattle.clsm_c.specs.declared.types.CoreKey.{CoreKey}
use Rattle.clsm_c.specs.declared.types.CoreValue.{CoreValue}
use Rattle.clsm_c.specs.Values.{TellsValue}
use Rattle.clsm_c.proofs.Cut.{so_of_all}
use Rattle.clsm_c.proofs.many.fill_values_if_open.Goals as goal

pub returns-clause-gets : goal.returns-clause-gets
returns-clause-gets c =
    so_of_all (λ (ask : CoreKey). ask.key) c.args.keys.now c.args.values.now c.min-few.result c.min-few.ensures c.get_many_if_open.new.values
    c.get_many_if_open.auto.values
    (λ (keys : List ℕ) (before after : List CoreValue).
    GetsManyAtIfOpen TellsValue c.args.caller.now.seat c.get_many_if_open.new.caller.seat keys before after c.get_many_if_open.result)
    c.get_many_if_open.ensures

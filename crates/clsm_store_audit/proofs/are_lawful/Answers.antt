use Rattle.clsm_store.specs.Headline.{longest_past}
use Rattle.clsm_store_audit.proofs.Whole.{has_history}
use Rattle.clsm_store_audit.proofs.are_lawful.Goals as goal

pub returns : goal.returns
returns g c =
    has_history c.args.store.now c.args.config.now c.args.seats.now c.args.records.now (longest_past c.args.seats.now)
    c.requires.sizes c.requires.of_store c.requires.all c.requires.whole c.requires.records c.are_in_time.ensures c.have_fitting_calls.ensures

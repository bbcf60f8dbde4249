use Rattle.std.proofs.Common.{List, sym, subst}
use Rattle.clsm_model.specs.declared.record.CallRecord.{CallRecord}
use Rattle.clsm_store_audit.specs.Settled.{AreRecordsOf}
use Rattle.clsm_store_audit.proofs.Joined.{all_in_order, joined_records}
use Rattle.clsm_store_audit.proofs.joined_are_records.Goals as goal

pub returns-clause-all : goal.returns-clause-all
returns-clause-all g c = all_in_order c.args.store.now c.args.seats.now c.requires.order

pub returns-clause-records : goal.returns-clause-records
returns-clause-records g c =
    subst (λ (records : List CallRecord). AreRecordsOf c.args.store.now c.args.seats.now records) (sym c.requires.joined)
    (joined_records c.args.store.now c.args.seats.now c.requires.order c.have_own_calls.ensures)

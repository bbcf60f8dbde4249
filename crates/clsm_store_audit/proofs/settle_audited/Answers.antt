use Rattle.std.proofs.Common.{List, sym, subst}
use Rattle.clsm_store_calls.specs.Seats.{SeatState}
use Rattle.clsm_store.specs.Headline.{HasAllSeats}
use Rattle.clsm_store_audit.specs.Settled.{AreRecordsOf}
use Rattle.clsm_store_audit.proofs.Joined.{all_met, records_met}
use Rattle.clsm_store_audit.proofs.settle_audited.Goals as goal

pub audit_settled-audited-requires-clause-all : goal.audit_settled-audited-requires-clause-all
audit_settled-audited-requires-clause-all g c =
    subst (HasAllSeats c.args.store.now) (sym c.deref.ensures.value)
    (all_met c.args.store.now c.args.seats.items c.settle-seats.result.items c.settle-seats.ensures.met c.requires.all)

pub audit_settled-audited-requires-clause-records : goal.audit_settled-audited-requires-clause-records
audit_settled-audited-requires-clause-records g c =
    subst (λ (seats : List SeatState). AreRecordsOf c.args.store.now seats c.args.records.now) (sym c.deref.ensures.value)
    (records_met c.args.store.now c.args.seats.items c.settle-seats.result.items c.settle-seats.ensures.met c.args.records.now c.requires.records)

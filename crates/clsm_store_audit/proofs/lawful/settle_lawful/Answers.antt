use Rattle.std.proofs.Common.{List, subst}
use Rattle.clsm_store_calls.specs.Seats.{SeatState}
use Rattle.clsm_store.specs.Headline.{longest_past}
use Rattle.clsm_store_audit.specs.Settled.{AreInTime, AreLawfulAlone, HaveFittingCalls}
use Rattle.clsm_store_audit.proofs.Joined.{all_met, records_met}
use Rattle.clsm_store_audit.proofs.Whole.{has_history}
use Rattle.clsm_store_audit.proofs.lawful.settle_lawful.Goals as goal

pub returns-clause-whole : goal.returns-clause-whole
returns-clause-whole g c =
    let done = c.settle-settled.ensures in
    record {
      alone = subst AreLawfulAlone c.deref.ensures.value c.are_lawful_alone.ensures;
      settled = c.settle-settled.result.items;
      met = done.met;
      whole = done.whole c.requires.all;
    }

pub returns-clause-history : goal.returns-clause-history
returns-clause-history g c records are =
    let store = c.args.store.now in
    let seats : List SeatState = c.args.seats.items in
    let settled : List SeatState = c.settle-settled.result.items in
    let done = c.settle-settled.ensures in
    has_history store c.args.config.now settled records (longest_past settled) c.requires.sizes done.of_store
    (all_met store seats settled done.met c.requires.all) (done.whole c.requires.all)
    (records_met store seats settled done.met records are)
    (subst AreInTime c.deref-2.ensures.value c.are_in_time.ensures)
    (subst HaveFittingCalls c.deref-3.ensures.value c.have_fitting_calls.ensures)

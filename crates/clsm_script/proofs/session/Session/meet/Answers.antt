use Rattle.std.proofs.Common.{◌≡◌, ℕ, ◌<◌, ◌∙◌, All, List, ap, length, refl, sym, subst}
use Rattle.std.proofs.lemmas.List.{with_items_is}
use Rattle.std.specs.Vec.{with_items}
use Rattle.clsm_store_calls.specs.Seats.{SeatState}
use Rattle.clsm_script.specs.Play.{PairMeets}
use Rattle.clsm_script.specs.Session.{AreRecorded}
use Rattle.clsm_script.proofs.Sessions.{count_met, recorded_met}
use Rattle.clsm_script.proofs.session.Session.meet.Goals as goal

-- the seats that meet are those that were lent
met_lent : (i j t : ℕ) (seats lent new : List SeatState) → lent ≡ seats → PairMeets i j t lent new → PairMeets i j t seats new
met_lent i j t seats lent new is = subst (λ (l : List SeatState). PairMeets i j t l new) is

pub returns-clause-meets : goal.returns-clause-meets
returns-clause-meets g c =
    let seats = c.args.self.now.seats in
    let new : List SeatState = c.meet_pair.new.seats in
    let met = met_lent c.args.self.now.used c.args.number c.meet_pair.result seats.items _ new c.deref_mut.ensures.value c.meet_pair.ensures in
    let same : (with_items seats new).items ≡ new =
    with_items_is seats new (count_met seats.items new _ _ _ met ∙ sym seats.ok.0) in
    record {
      apart = c.if-number-self.false;
      meets =
          subst (PairMeets c.args.self.now.used c.args.number c.meet_pair.result seats.items)
          (sym same) met;
      records = refl;
      used = refl;
      config = refl;
    }

pub returns-clause-session : goal.returns-clause-session
returns-clause-session g c =
    let seats = c.args.self.now.seats in
    let records = c.args.self.now.records in
    let new : List SeatState = c.meet_pair.new.seats in
    let met = met_lent c.args.self.now.used c.args.number c.meet_pair.result seats.items _ new c.deref_mut.ensures.value c.meet_pair.ensures in
    let count = count_met seats.items new _ _ _ met in
    let same : (with_items seats new).items ≡ new =
    with_items_is seats new (count ∙ sym seats.ok.0) in
    let left : length seats.items ≡ length (with_items seats new).items =
    sym (ap length same ∙ count) in
    record {
      sizes = c.requires.sizes;
      count = sym left ∙ c.requires.count;
      used = subst (λ n. c.args.self.now.used < n) left c.requires.used;
      seats =
          subst (AreRecorded c.args.store.now records) (sym same)
          (recorded_met c.args.store.now records seats.items new c.args.self.now.used c.args.number
          c.meet_pair.result c.requires.seats c.if-number-self.false met);
      known = subst (λ n. All (λ r. r.seat < n) records) left c.requires.known;
    }

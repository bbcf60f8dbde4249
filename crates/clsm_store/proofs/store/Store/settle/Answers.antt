use Rattle.std.proofs.Common.{length, List, vec_len, ap, ◌∙◌, sym, subst, arith}
use Rattle.clsm_store.specs.Headline.{HasAllSeats, IsJointHistory, IsWholeHistory, longest_past}
use Rattle.clsm_store.specs.Meetings.{AreChained, AreDueBelow, AreMet, AreOf}
use Rattle.clsm_store_calls.specs.Seats.{SeatState}
use Rattle.clsm_store.proofs.Joint.{are_met, joint, nonzero, reach, still_all, still_of, whole}
use Rattle.clsm_store.proofs.store.Store.settle.Goals as goal

pub confirm_all-requires : goal.confirm_all-requires
confirm_all-requires g c = record {
  of_store = still_of _ _ _ c.follow_all.ensures.met c.args.self.now
      (subst (AreOf c.args.self.now) (sym c.tell_all-message.ensures.seats) c.requires);
}

pub returns-clause-of_store : goal.returns-clause-of_store
returns-clause-of_store g c = subst (AreOf c.args.self.now) (sym c.confirm_all.ensures.seats)
    (still_of _ _ _ c.follow_all.ensures.met c.args.self.now (subst (AreOf c.args.self.now) (sym c.tell_all-message.ensures.seats) c.requires))

pub returns-clause-met : goal.returns-clause-met
returns-clause-met g c = subst (λ (z : List SeatState × List SeatState). AreMet z.0 z.1)
    (λ k. (c.tell_all-message.ensures.seats k, sym c.confirm_all.ensures.seats k))
    (are_met _ _ _ c.follow_all.ensures.met (subst (AreDueBelow c.tell_all-message.result.heard)
    (sym c.tell_all-message.ensures.seats) c.tell_all-message.ensures.dues))

pub returns-clause-joint : goal.returns-clause-joint
returns-clause-joint g c =
    subst (λ (z : List SeatState). IsJointHistory z (longest_past z)) (sym c.confirm_all.ensures.seats)
    (joint c.args.self.now _ (let n = nonzero (vec_len c.args.seats) (sym c.is_empty.ensures ∙ c.if-is_empty.false) in let o = c.args.seats.ok.0 in
    let a = ap length c.tell_all-message.ensures.seats in let b = c.follow_all.ensures.met.count in
    omega arith) c.follow_all.ensures.chained c.confirm_all.ensures.confirmed (reach _ _ _ c.follow_all.ensures.met))

pub returns-clause-whole : goal.returns-clause-whole
returns-clause-whole g c all =
    let of = still_of _ _ _ c.follow_all.ensures.met c.args.self.now (subst (AreOf c.args.self.now) (sym c.tell_all-message.ensures.seats) c.requires) in
    subst (λ (z : List SeatState). IsWholeHistory z (longest_past z)) (sym c.confirm_all.ensures.seats)
    (whole c.args.self.now _ (let n = nonzero (vec_len c.args.seats) (sym c.is_empty.ensures ∙ c.if-is_empty.false) in let o = c.args.seats.ok.0 in
    let a = ap length c.tell_all-message.ensures.seats in let b = c.follow_all.ensures.met.count in
    omega arith) c.follow_all.ensures.chained c.confirm_all.ensures.confirmed (reach _ _ _ c.follow_all.ensures.met)
    of (still_all _ _ _ c.follow_all.ensures.met c.args.self.now (subst (HasAllSeats c.args.self.now) (sym c.tell_all-message.ensures.seats) all)))

pub returns-clause-chained : goal.returns-clause-chained
returns-clause-chained g c = subst AreChained (sym c.confirm_all.ensures.seats) c.follow_all.ensures.chained

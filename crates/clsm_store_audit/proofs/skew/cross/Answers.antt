use Rattle.std.proofs.Common.{ap, subst, IfOk}
use Rattle.clsm_store_calls.specs.Seats.{SeatState}
use Rattle.clsm_store_audit.specs.Skew.{HasStood}
use Rattle.clsm_store_audit.proofs.Popped.{first, second}
use Rattle.clsm_store_audit.proofs.skew.cross.Goals as goal

pub join-requires-after_bounds : goal.join-requires-after_bounds
join-requires-after_bounds g c κs within = (
  ap (λ (s : SeatState). s.store)
      (first _ _ c.requires _ c.args.seats.ok.0 _ _ c.pop.ensures.rest c.pop.new.self.ok.0 _ _ c.pop-2.ensures.value c.unwrap-first.ensures),
  ap (λ (s : SeatState). s.store) (second _ _ c.requires _ c.args.seats.ok.0 _ _ c.pop.ensures.value c.unwrap-second.ensures),
)

pub returns-clause-one : goal.returns-clause-one
returns-clause-one g c = subst (λ (s : SeatState). IfOk c.join.result.0 (λ stood. HasStood s c.args.crossing.now.one c.args.crossing.now.other.key stood))
    (first _ _ c.requires _ c.args.seats.ok.0 _ _ c.pop.ensures.rest c.pop.new.self.ok.0 _ _ c.pop-2.ensures.value c.unwrap-first.ensures) c.join.ensures.first

pub returns-clause-other : goal.returns-clause-other
returns-clause-other g c = subst (λ (s : SeatState). IfOk c.join.result.1 (λ stood. HasStood s c.args.crossing.now.other c.args.crossing.now.one.key stood))
    (second _ _ c.requires _ c.args.seats.ok.0 _ _ c.pop.ensures.value c.unwrap-second.ensures) c.join.ensures.second

use Rattle.std.proofs.Common.{ap, subst, IfOk}
use Rattle.clsm_model.specs.declared.record.Deed.TheVariants.{Get, Put}
use Rattle.clsm_store_calls.specs.Seats.{Answers, SeatState}
use Rattle.clsm_store_audit.proofs.Popped.{first, second}
use Rattle.clsm_store_audit.proofs.race.race.Goals as goal

pub join-requires-after_bounds : goal.join-requires-after_bounds
join-requires-after_bounds g c κs within = (
  ap (λ (s : SeatState). s.store)
      (first _ _ c.requires _ c.args.seats.ok.0 _ _ c.pop.ensures.rest c.pop.new.self.ok.0 _ _ c.pop-2.ensures.value c.unwrap-writer.ensures),
  ap (λ (s : SeatState). s.store) (second _ _ c.requires _ c.args.seats.ok.0 _ _ c.pop.ensures.value c.unwrap-reader.ensures),
)

pub returns-clause-put : goal.returns-clause-put
returns-clause-put g c = subst (λ (s : SeatState). IfOk c.join.result.0 (λ done. Answers s done.0 done.1 (Put c.args.write.now.key c.args.write.now.value)))
    (first _ _ c.requires _ c.args.seats.ok.0 _ _ c.pop.ensures.rest c.pop.new.self.ok.0 _ _ c.pop-2.ensures.value c.unwrap-writer.ensures) c.join.ensures.first

pub returns-clause-got : goal.returns-clause-got
returns-clause-got g c = subst (λ (s : SeatState). Answers s c.join.result.1.0 c.join.result.1.1.time (Get c.args.write.now.key c.join.result.1.1.value))
    (second _ _ c.requires _ c.args.seats.ok.0 _ _ c.pop.ensures.value c.unwrap-reader.ensures) c.join.ensures.second

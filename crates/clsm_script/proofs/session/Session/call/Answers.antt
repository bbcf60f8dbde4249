use Rattle.std.proofs.Common.{◌<◌, All, List, length, set, refl, sym, subst, ◌∙◌}
use Rattle.std.proofs.lemmas.List.{length-set}
use Rattle.std.proofs.Math.Seq.{lt-length-set}
use Rattle.clsm_store_calls.specs.Seats.{SeatState}
use Rattle.clsm_store.specs.Headline.{IsAt}
use Rattle.clsm_script.specs.Session.{AreRecorded}
use Rattle.clsm_script.proofs.Sessions.{known_made, of_seat, recorded_made}
use Rattle.clsm_script.proofs.session.Session.call.Goals as goal

pub returns-clause-calls : goal.returns-clause-calls
returns-clause-calls g c =
    let before : SeatState = c.index_mut-seat.result.now in
    let kept = c.in_ok-keep.ensures in
    record {
      before = before;
      after = c.play-answer.new.seat;
      made = _;
      at = (c.requires.used, sym c.index_mut-seat.ensures.value);
      plays = c.play-answer.ensures.plays;
      counts = c.play-answer.ensures.counts;
      clock = c.play-answer.ensures.clock;
      calls = kept.gained.gains _ _ (sym c.number-number.ensures) c.play-answer.ensures.plays;
      seats = refl;
      records = kept.kept;
      used = refl;
      config = refl;
    }

pub returns-clause-session : goal.returns-clause-session
returns-clause-session g c =
    let seats : List SeatState = c.args.self.now.seats.items in
    let k = c.args.self.now.used in
    let old : SeatState = c.index_mut-seat.result.now in
    let new : SeatState = c.play-answer.new.seat in
    let at : IsAt seats k old = (c.requires.used, sym c.index_mut-seat.ensures.value) in
    let kept = c.in_ok-keep.ensures in
    let calls = kept.gained.gains _ _ (sym c.number-number.ensures) c.play-answer.ensures.plays in
    let records = kept.kept in
    record {
      sizes = c.requires.sizes;
      count = length-set seats k new ∙ c.requires.count;
      used = lt-length-set seats k new c.requires.used;
      seats =
          subst (λ rs. AreRecorded c.args.store.now rs (set seats k new)) (sym records)
          (recorded_made seats _ k old new at c.args.store.now _ c.requires.seats
          c.play-answer.ensures.same.store c.play-answer.ensures.same.number calls
          (of_seat _ _ _ c.number-number.ensures kept.gained.own));
      known =
          subst (λ rs. All (λ r. r.seat < length (set seats k new)) rs) (sym records)
          (known_made seats _ k old new at _ c.requires.known
          (of_seat _ _ _ (c.number-number.ensures ∙ (c.requires.seats k old at).number)
          kept.gained.own));
    }

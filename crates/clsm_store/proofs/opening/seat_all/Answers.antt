use Rattle.std.proofs.lemmas.List.Elements.{All-push}
use Rattle.std.proofs.Common.{All, ◌≡◌, ℕ, ◌+◌, ◌++◌, ◌∷◌, [], List, length, ◌∙◌, ap, sym, subst, append_assoc, length-append}
use Rattle.clsm_words.specs.Seats.{RawState as RawState}
use Rattle.clsm_store_calls.specs.Seats.{AreNew, SeatState}
use Rattle.clsm_store_calls.specs.Resting.{seat_of, store_of}
use Rattle.clsm_store.proofs.Starts.{fresh_at, fresh_state, new_more}
use Rattle.clsm_store.proofs.opening.seat_all.Goals as goal

pub loop-raw-preserved : goal.loop-raw-preserved
loop-raw-preserved g c =
    let words = c.args.words.now in
    let done = c.loop-raw.yielded in
    let raw = c.in-Some.raw in
    let ahead = c.in-Some.ensures.steps.0 in
    let is = c.loop-raw.invariant in
    let whole = append_assoc done (raw ∷ []) c.next.new.self.rest.items ∙ ap (λ (l : List RawState). done ++ l) (sym ahead) ∙ is.whole in
    let fresh = fresh_at words c.args.raw.items done raw c.next.new.self.rest.items c.requires.fresh
    (sym (append_assoc done (raw ∷ []) c.next.new.self.rest.items) ∙ whole) in
    let more = new_more (store_of words) (length done) c.loop-raw.seats.items (seat_of raw) is.new (fresh_state words raw (length done) fresh.0 fresh.1) in
    let count : length done + 1 ≡ length (done ++ raw ∷ []) = sym (length-append done (raw ∷ [])) in
    record {
      whole = whole;
      new = subst (λ (seats : List SeatState). AreNew (store_of words) (length (done ++ raw ∷ [])) seats) (sym c.in_ok-push.ensures.items)
          (subst (λ (n : ℕ). AreNew (store_of words) n (c.loop-raw.seats.items ++ seat_of raw ∷ [])) count more);
      at = subst (λ (seats : List SeatState). All (λ (seat : SeatState). seat.store ≡ store_of words) seats) (sym c.in_ok-push.ensures.items)
          (All-push (λ (seat : SeatState). seat.store ≡ store_of words) c.loop-raw.seats.items (seat_of raw) is.at
          (λ k. record { table = fresh.0.0 k; layout = fresh.0.1 k }));
    }

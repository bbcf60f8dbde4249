use Rattle.std.proofs.Common.{◌≤◌, ap, ◌∙◌, arith}
use Rattle.clsm_model.proofs.Batches.{begins_trans}
use Rattle.clsm_store_calls.specs.Seats.{SeatState, known_by}
use Rattle.clsm_store.specs.Meetings.{told_by}
use Rattle.clsm_store_audit.proofs.Heard.{finds}
use Rattle.clsm_store_audit.proofs.Raced.{made}
use Rattle.clsm_store_audit.proofs.told.look_up.Goals as goal

pub returns : goal.returns
returns g c =
    let news = c.args.news in
    let read = c.hear.ensures.seat in
    let got = c.get-got.ensures.answers in
    let next : c.hear.new.seat.due ≤ c.get-got.result.time = got.next in
    let call = made c.args.store.now 1 c.hear.new.seat c.get-got.new.seat c.get-got.result.time _
    (read.same.store ∙ ap (λ (s : SeatState). s.store) c.requires.seat)
    (read.same.number ∙ ap (λ (s : SeatState). s.number) c.requires.seat)
    (read.calls ∙ ap (λ (s : SeatState). s.calls) c.requires.seat) got in
    record {
      made = call;
      finds = finds c.get-got.new.seat 1 c.get-got.result.time news.key news.time c.get-got.result.value (told_by news.message)
          c.show_records.ensures call.called
          (begins_trans (told_by news.message) (known_by c.hear.new.seat) (known_by c.get-got.new.seat) c.hear.ensures.begins got.same.longer)
          news.put
          (let a = news.below in let b = c.hear.ensures.above_told in let d = c.hear.ensures.time in omega arith);
    }

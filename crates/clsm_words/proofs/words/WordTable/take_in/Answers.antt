use Rattle.std.proofs.Common.{ap, ◌∙◌}
use Rattle.clsm_words.proofs.MayMeet.{may_join}
use Rattle.clsm_words.proofs.words.WordTable.take_in.Goals as goal

pub join_seat-requires : goal.join_seat-requires
join_seat-requires c = let seat = c.args.seat.now in let sent = c.message.inside.seat in
    may_join c.args.self.now seat.table_id sent.table_id seat.id sent.id seat.me sent.me c.requires.seat
    (ap (λ v. v.table) c.message.view_is ∙ c.requires.message) c.message.invariant

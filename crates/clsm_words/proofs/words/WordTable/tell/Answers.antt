use Rattle.clsm_words.proofs.MayMeet.{may_tell}
use Rattle.clsm_words.proofs.words.WordTable.tell.Goals as goal

pub split_seat-seat-requires : goal.split_seat-seat-requires
split_seat-seat-requires c = may_tell c.args.self.now c.from.inside.seat.table_id c.from.inside.seat.id c.from.inside.seat.me c.args.from.now c.from.view_is
    c.requires c.from.invariant.1

use Rattle.std.proofs.Common.{arith}
use Rattle.clsm_words.proofs.MayMeet.{may_deal}
use Rattle.clsm_words.proofs.words.WordTable.deal.Goals as goal

pub split_seat-seat-requires : goal.split_seat-seat-requires
split_seat-seat-requires c = let n = c.requires.number.0 in
    may_deal c.args.self.now c.merger.inside.seat.table_id c.merger.inside.seat.id c.merger.inside.seat.me c.args.merger.now c.merger.view_is c.requires.seat.0
    c.merger.invariant (let a = c.requires.number.1 in omega arith)

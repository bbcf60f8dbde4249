use Rattle.std.proofs.Common.{ap, ◌∙◌}
use Rattle.clsm_words.proofs.MayMeet.{may_join}
use Rattle.clsm_words.proofs.words.WordTable.join.Goals as goal

pub join_seat-requires : goal.join_seat-requires
join_seat-requires c = may_join c.args.self.now c.to.inside.seat.table_id c.message.inside.seat.table_id c.to.inside.seat.id c.message.inside.seat.id
    c.to.inside.seat.me c.message.inside.seat.me (ap (λ v. v.table) c.to.view_is ∙ c.requires.to)
    (ap (λ v. v.table) c.message.view_is ∙ c.requires.message) c.message.invariant

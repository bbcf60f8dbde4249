use Rattle.std.proofs.Common.{◌≡◌, ap, ◌∙◌, subst, sym, Option, true}
use Rattle.clsm_levels.specs.declared.entry.Entry.{Entry}
use Rattle.clsm_words.proofs.Keeps.{aside_trans}
use Rattle.clsm_search.proofs.Orders.{walk_on}
use Rattle.clsm_scan.specs.Heads.{has_value, rows_of}
use Rattle.clsm_scan.specs.Optional.{if_so}
use Rattle.clsm_scan.specs.Walking.{IsWriteAt, spot_same, write_on}
use Rattle.clsm_scan.proofs.epoch_cursor.EpochCursorSource.give.Goals as goal

pub give_long-requires-clause-over : goal.give_long-requires-clause-over
give_long-requires-clause-over g c =
    let walk = c.args.self.now in
    let k = c.args.seat.now.knows in
    let k' = c.word_alone.new.seat.knows in
    let looks = c.word_alone.ensures.looks.looks.looks in (
      walk_on k k' walk.epoch looks c.requires.over.0,
      if_so (IsWriteAt k walk.epoch) (IsWriteAt k' walk.epoch) walk.last (λ spot. write_on k k' walk.epoch spot looks c.requires.over.0) c.requires.over.1,
    )

pub give_long-requires-clause-has : goal.give_long-requires-clause-has
give_long-requires-clause-has g c =
    let walk = c.args.self.now in
    subst (λ (o : Option Entry). has_value o ≡ true)
    (sym (spot_same c.args.seat.now.knows c.word_alone.new.seat.knows walk.epoch walk.last c.word_alone.ensures.looks.looks.looks)) c.requires.has

pub returns-in-None-word_alone-clause-looks : goal.returns-in-None-word_alone-clause-looks
returns-in-None-word_alone-clause-looks g c =
    aside_trans c.args.seat.now.knows c.word_alone.new.seat.knows c.give_long.new.seat.knows c.word_alone.ensures.looks.looks c.give_long.ensures.looks

pub returns-in-None-word_alone-clause-takes : goal.returns-in-None-word_alone-clause-takes
returns-in-None-word_alone-clause-takes g c = λ row is.
    let walk = c.args.self.now in
    let same = spot_same c.args.seat.now.knows c.word_alone.new.seat.knows walk.epoch walk.last c.word_alone.ensures.looks.looks.looks in
    c.give_long.ensures.takes row (ap rows_of same ∙ is)

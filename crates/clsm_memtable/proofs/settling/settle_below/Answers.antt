use Rattle.std.proofs.Common.{sym, subst}
use Rattle.clsm_words.specs.Seats.{RawState}
use Rattle.clsm_words.specs.Keeping.{OnlyReads}
use Rattle.clsm_words.proofs.Keeps.{reads_trans}
use Rattle.clsm_memtable.proofs.Settles.{front_keeps}
use Rattle.clsm_memtable.proofs.settling.settle_below.Goals as goal
use Rattle.clsm_memtable.proofs.settling.settle_below.Goals.{then-front-time, else-front-time}

pub returns-clause-keeps : goal.returns-clause-keeps
returns-clause-keeps g c =
    let k = c.args.seat.now.knows in
    let k1 = c.look-front.new.seat.knows in
    let looked = front_keeps k k1 c.look-front.result c.look-front.ensures.1 in
    reads_trans k c.if-front-time.seat.knows c.raise.new.seat.knows (elim c.if-front-time.branch [
      | then-front-time w ↦ subst (λ (s : RawState). OnlyReads k s.knows) (sym w.seat-is)
          (reads_trans k k1 w.settle_from.new.seat.knows looked w.settle_from.ensures.keeps)
      | else-front-time w ↦ subst (λ (s : RawState). OnlyReads k s.knows) (sym w.seat-is) looked
    ]) c.raise.ensures.keeps

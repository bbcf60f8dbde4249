use Rattle.clsm_words.proofs.Keeps.{reads_trans}
use Rattle.clsm_memtable.proofs.settling.settle_from.Goals as goal

pub loop-next-preserved : goal.loop-next-preserved
loop-next-preserved g c = record {
  of = c.settle.ensures.of;
  keeps = reads_trans c.args.seat.now.knows c.loop-next.seat.knows c.settle.new.seat.knows c.loop-next.invariant.keeps c.settle.ensures.keeps;
  reached = c.settle.ensures.settled;
}

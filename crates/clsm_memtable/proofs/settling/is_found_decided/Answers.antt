use Rattle.std.proofs.Common.{◌<◌, sym, subst, arith}
use Rattle.clsm_law.specs.declared.layout.Layout.{Layout}
use Rattle.clsm_words.proofs.Keeps.{reads_trans}
use Rattle.clsm_memtable.proofs.settling.is_found_decided.Goals as goal

pub returns-then-is_decided-2-clause-keeps : goal.returns-then-is_decided-2-clause-keeps
returns-then-is_decided-2-clause-keeps g c =
    let k = c.args.seat.now.knows in
    let k1 = c.is_decided.new.seat.knows in
    let k2 = c.loop-look.seat.knows in
    let k3 = c.is_decided-in-loop-look.new.seat.knows in
    reads_trans k k2 k3 (reads_trans k k1 k2 c.is_decided.ensures.keeps c.loop-look.invariant.keeps) c.is_decided-in-loop-look.ensures.keeps

pub loop-look-preserved : goal.loop-look-preserved
loop-look-preserved g c =
    let k1 = c.is_decided.new.seat.knows in
    let k2 = c.loop-look.seat.knows in
    let k3 = c.is_decided-in-loop-look.new.seat.knows in
    let inv = c.loop-look.invariant in
    let under : c.loop-look.look < c.args.words.now.layout.patience = let lt = c.loop-look-test.true in let is = c.patience-patience.ensures in omega arith in
    record {
      of = c.is_decided-in-loop-look.ensures.of;
      keeps = reads_trans k1 k2 k3 inv.keeps c.is_decided-in-loop-look.ensures.keeps;
      waits = c.is_decided-in-loop-look.ensures.again c.loop-look.look
          (subst (λ (z : Layout). c.loop-look.look < z.patience) (sym inv.of.1) under) inv.waits c.if-is_decided-2.false;
    }

pub returns-clause-keeps : goal.returns-clause-keeps
returns-clause-keeps g c =
    reads_trans c.args.seat.now.knows c.is_decided.new.seat.knows c.loop-look.seat.knows c.is_decided.ensures.keeps c.loop-look.invariant.keeps

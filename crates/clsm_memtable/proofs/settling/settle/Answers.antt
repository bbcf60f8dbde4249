use Rattle.std.proofs.Common.{refl}
use Rattle.clsm_words.proofs.Keeps.{reads_trans}
use Rattle.clsm_memtable.proofs.Settles.{cancel_keeps, may_stays}
use Rattle.clsm_memtable.proofs.settling.settle.Goals as goal

pub returns-then-not-is_found_decided-clause-keeps : goal.returns-then-not-is_found_decided-clause-keeps
returns-then-not-is_found_decided-clause-keeps g c =
    let k = c.args.seat.now.knows in
    let k1 = c.is_found_decided.new.seat.knows in
    let keeps = c.is_found_decided.ensures.keeps in
    let k2 = c.cancel.new.seat.knows in
    reads_trans k k1 k2 keeps
    (cancel_keeps k1 k2 c.args.component c.args.time c.cancel.ensures.0 (may_stays k k1 c.args.component c.args.time keeps c.requires.may)
    (c.if-not-is_found_decided.ensures.waited refl) c.cancel.ensures.1.1)

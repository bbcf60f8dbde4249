use Rattle.std.proofs.Common.{length}
use Rattle.clsm_law.specs.declared.word.Part.TheVariants.{Key, Length}
use Rattle.clsm_memtable.proofs.Fillings.{fills_by, fills_trans}
use Rattle.clsm_memtable.proofs.filling.fill_cell.Goals as goal

pub returns-clause-filled : goal.returns-clause-filled
returns-clause-filled g c =
    let old = c.args.seat.now.knows in
    let keyed = c.fill.new.seat.knows in
    let sized = c.fill-2.new.seat.knows in
    let filled = c.fill_words.new.seat.knows in
    let by_key = fills_by old keyed Key c.args.key c.fill.ensures.0 (λ e. cc) c.show_invariant.ensures c.fill.ensures.1.1 in
    let by_length = fills_by keyed sized Length (length c.args.value.now) c.fill-2.ensures.0 (λ e. cc) c.show_invariant-2.ensures c.fill-2.ensures.1.1 in
    fills_trans old sized filled (fills_trans old keyed sized by_key by_length) c.fill_words.ensures.filled

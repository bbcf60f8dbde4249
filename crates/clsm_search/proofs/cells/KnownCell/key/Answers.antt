use Rattle.clsm_law.specs.declared.word.Part.TheVariants.{Key}
use Rattle.clsm_search.proofs.Looking.{looks_at_part, part_told}
use Rattle.clsm_search.proofs.cells.KnownCell.key.Goals as goal

pub returns-clause-looks : goal.returns-clause-looks
returns-clause-looks g c =
    record {
      looks = looks_at_part c.args.seat.now.knows c.look.new.seat.knows c.args.self.now.cell c.look.result Key c.show_invariant.ensures c.look.ensures.1;
      trail = c.look.ensures.1.walks;
    }

pub returns-clause-told : goal.returns-clause-told
returns-clause-told g c = let k = c.args.seat.now.knows in
    let looks = looks_at_part k c.look.new.seat.knows c.args.self.now.cell c.look.result Key c.show_invariant.ensures c.look.ensures.1 in
    part_told k c.look.new.seat.knows c.args.self.now.component c.args.self.now.time c.args.self.now.cell c.look.result Key c.requires.known looks
    c.look.ensures.1

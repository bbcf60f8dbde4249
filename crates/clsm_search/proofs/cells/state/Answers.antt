use Rattle.clsm_search.proofs.Looking.{looks_at_state, state_told}
use Rattle.clsm_search.proofs.cells.state.Goals as goal

pub returns-clause-looks : goal.returns-clause-looks
returns-clause-looks g c = looks_at_state c.args.seat.now.knows c.look.new.seat.knows c.args.at.now.cell c.look.result c.show_invariant.ensures c.look.ensures.1

pub returns-clause-told : goal.returns-clause-told
returns-clause-told g c = let k = c.args.seat.now.knows in
    let looks = looks_at_state k c.look.new.seat.knows c.args.at.now.cell c.look.result c.show_invariant.ensures c.look.ensures.1 in
    state_told k c.look.new.seat.knows c.args.at.now.component c.args.at.now.time c.args.at.now.cell c.look.result c.requires.known looks.looks c.look.ensures.1

use Rattle.std.proofs.Common.{◌%◌, ◌==◌, ◌∙◌, sym, subst}
use Rattle.clsm_law.specs.declared.word.Word.{Word}
use Rattle.clsm_law.specs.declared.step.Step.TheVariants.{Look}
use Rattle.clsm_law.specs.Memory.{cell_of, region_of}
use Rattle.clsm_words.specs.Knowing.{Follows}
use Rattle.clsm_memtable.proofs.Exchanges.{won, lost}
use Rattle.clsm_memtable.proofs.Inserts.{head_opens}
use Rattle.clsm_memtable.proofs.Linked.{links, never_lost, stays_unlinked, counted}
use Rattle.clsm_memtable.proofs.chain.try_link.Goals as goal

pub look-head-requires : goal.look-head-requires
look-head-requires g c = head_opens c.args.words.now c.args.seat.now c.args.cell.time c.args.cell.key c.head_of.result c.show_invariant.ensures
    (record { of = c.requires.of; holds = c.requires.holds; limit = c.requires.limit; drawn = c.requires.filled.drawn }) c.head_of.ensures

pub returns-in-Done-clause-linked : goal.returns-in-Done-clause-linked
returns-in-Done-clause-linked g c =
    let k = c.args.seat.now.knows in
    let k1 = c.look-head.new.seat.knows in
    let head = c.look-head.result in
    let z = c.args.words.now.layout in
    let region = region_of z (cell_of z c.args.cell.time) in
    let chain = c.args.cell.key % z.chains in
    let x = c.link.ensures.0 in
    links k k1 c.fill.new.seat.knows c.link.new.seat.knows region chain head c.fill.ensures.0 x c.show_invariant.ensures
    (subst (λ (w : Word). Follows (Look w) k head k1) c.head_of.ensures c.look-head.ensures.1) c.fill.ensures.1.1 c.link.ensures.1.1
    (won (x == head) (sym c.link.ensures.2 ∙ c.in-Done.is))

pub returns-in_default : goal.returns-in_default
returns-in_default g c =
    let k = c.args.seat.now.knows in
    let k1 = c.look-head.new.seat.knows in
    let k2 = c.fill.new.seat.knows in
    let k3 = c.link.new.seat.knows in
    let head = c.look-head.result in
    let z = c.args.words.now.layout in
    let region = region_of z (cell_of z c.args.cell.time) in
    let chain = c.args.cell.key % z.chains in
    let x = c.link.ensures.0 in
    let looks = subst (λ (w : Word). Follows (Look w) k head k1) c.head_of.ensures c.look-head.ensures.1 in
    let miss = lost (x == head) (λ e. c.in_default.not-Done (c.link.ensures.2 ∙ e)) in record {
      of = c.link.ensures.1.0;
      linked = tt;
      uncounted = tt;
      raced = stays_unlinked k k1 k2 k3 region chain head c.fill.ensures.0 x c.show_invariant.ensures looks c.fill.ensures.1.1 c.link.ensures.1.1 miss;
      counted = counted k k1 k2 k3 region chain head c.fill.ensures.0 x c.show_invariant.ensures looks c.fill.ensures.1.1 c.link.ensures.1.1 miss;
      alone = λ mode. absurd (never_lost k k1 k2 k3 region chain head c.fill.ensures.0 x c.show_invariant.ensures looks c.fill.ensures.1.1 c.link.ensures.1.1
          mode miss);
    }

use Rattle.std.proofs.Common.{◌%◌, ℕ, None, sym, ap, refl, ◌∙◌, subst}
use Rattle.clsm_law.specs.declared.layout.Layout.{Layout}
use Rattle.clsm_words.specs.Knowing.{IsTrail}
use Rattle.clsm_words.specs.Keeping.{Looks}
use Rattle.clsm_search.specs.Searching.{IsOnChain, IsWalked, MaySearch}
use Rattle.clsm_search.proofs.Looking.{looks_at_head}
use Rattle.clsm_search.proofs.Chains.{on_chain, walked_nothing}
use Rattle.clsm_search.proofs.Orders.{walk_on}
use Rattle.clsm_search.proofs.list.Epoch.walk_of.Given.{Over}
use Rattle.clsm_search.proofs.list.Epoch.walk_of.Goals as goal
use Rattle.clsm_search.proofs.list.Epoch.walk_of.Goals.{After-look}

-- the look at the head of the key's chain, on which the seat's trail stands then
looks : (g : Over) (c : After-look g) → Looks c.args.seat.now.knows c.look.new.seat.knows
looks g c = looks_at_head c.args.seat.now.knows c.look.new.seat.knows
    (c.args.self.now.number % 2) c.chain_of-chain.result c.look.result c.show_invariant.ensures c.look.ensures.1

trail : (g : Over) (c : After-look g)
    → IsTrail c.look.new.seat.knows c.args.self.now.number (c.args.key % c.look.new.seat.knows.layout.chains) c.look.result
trail g c =
    let e = c.args.self.now in
    let chain = c.chain_of-chain.ensures ∙ ap (λ (z : Layout). c.args.key % z.chains) (sym c.requires.of.1 ∙ sym (looks g c).reads.seat.layout) in
    subst (λ (n : ℕ). IsTrail c.look.new.seat.knows e.number n c.look.result) chain (c.look.ensures.1.walks e.number c.requires.may.walked refl)

may_search : (g : Over) (c : After-look g) → MaySearch c.args.seat.now.knows c.args.self.now.number c.args.self.now.first c.args.self.now.until
may_search g c = record { held = c.requires.may.walked; begins = c.requires.may.begins; begun = c.requires.begun; settled = c.requires.may.settled }

-- the walk along the chain begins there
begins : (g : Over) (c : After-look g) → IsOnChain c.look.new.seat.knows c.args.self.now.first c.look.result
    × IsWalked c.look.new.seat.knows.past c.look.new.seat.knows.layout.cells c.args.self.now.first c.args.key c.args.self.now.until None
    c.look.new.seat.knows.trail
begins g c =
    let k = c.args.seat.now.knows in
    let k1 = c.look.new.seat.knows in
    let e = c.args.self.now in (
      on_chain k k1 e.number e.first e.until c.args.key c.look.result (may_search g c) (looks g c) (trail g c),
      walked_nothing k k1 e.number e.first e.until c.args.key c.look.result (may_search g c) (looks g c) (trail g c),
    )

pub returns-clause-looks : goal.returns-clause-looks
returns-clause-looks g c = looks g (goal.at.returns-clause-looks g c).After-look

pub returns-clause-walks : goal.returns-clause-walks
returns-clause-walks g c =
    let look = (goal.at.returns-clause-walks g c).After-look in
    let on = begins g look in
    record {
      of = c.look.ensures.0;
      may = walk_on c.args.seat.now.knows c.look.new.seat.knows c.args.self.now (looks g look) c.requires.may;
      begun = c.requires.begun;
      chain = on.0;
      walked = on.1;
    }

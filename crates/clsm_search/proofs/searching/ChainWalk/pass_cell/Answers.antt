use Rattle.std.proofs.Common.{◌≡◌, ℕ, ◌+◌, List, length, refl, sym, ap, ◌∙◌, arith, subst}
use Rattle.clsm_model.specs.declared.slot.Slot.{Slot}
use Rattle.clsm_law.specs.declared.layout.Layout.{Layout}
use Rattle.clsm_search.specs.Searching.{IsOnChain, IsWalked, better, is_hit}
use Rattle.clsm_words.proofs.Keeps.{looks_trans}
use Rattle.clsm_search.proofs.Chains.{first_ahead, its_bounds, its_time, chain_goes_on, walked_on}
use Rattle.clsm_search.proofs.Orders.{walk_on}
use Rattle.clsm_search.proofs.searching.ChainWalk.pass_cell.Given.{Over}
use Rattle.clsm_search.proofs.searching.ChainWalk.pass_cell.Goals as goal
use Rattle.clsm_search.proofs.searching.ChainWalk.pass_cell.Goals.{After-next_of-next}

-- what is ahead after the look at the cell's NEXT, and what was best so far
record Passed (g : Over) (c : After-next_of-next g) : Type 0 where
  on : IsOnChain c.next_of-next.new.seat.knows c.args.self.epoch.first c.next_of-next.result
  walked : IsWalked c.args.seat.now.knows.past c.args.seat.now.knows.layout.cells c.args.self.epoch.first c.args.self.key c.args.self.epoch.until
      c.better-best.result c.next_of-next.new.seat.knows.trail
  shorter : length c.args.seat.now.knows.trail ≡ length c.next_of-next.new.seat.knows.trail + 1

passed : (g : Over) (c : After-next_of-next g) → Passed g c
passed g c =
    let k = c.args.seat.now.knows in
    let k1 = c.better-best.new.seat.knows in
    let k2 = c.next_of-next.new.seat.knows in
    let first = c.args.self.epoch.first in
    let until = c.args.self.epoch.until in
    let key = c.args.self.key in
    let best = c.args.self.best in
    let on = c.requires.walks.chain in
    let f = first_ahead k first c.args.self.next on c.requires.some in
    let t = f.0 in
    let bounds = its_bounds k first c.args.self.next t f.1 on f.2 in
    let aside = c.better-best.ensures.looks.looks in
    let layout = aside.looks.reads.seat.layout in
    let layout' = c.next_of-next.ensures.looks.reads.seat.layout in
    let goes = chain_goes_on k first c.args.self.next t f.1 on f.2 k1 k2 c.next_of-next.result aside.trail layout layout' c.next_of-next.ensures.walks in
    let time = its_time k first c.args.self.next t f.1 on f.2 in
    let chosen : c.better-best.result ≡ better best t until (is_hit k.past key t) =
    c.better-best.ensures.better ∙ ap (λ (n : ℕ). better best n until (is_hit k.past key n)) time in
    let walked = walked_on k.past k.layout.cells first key until best t f.1 bounds.0 bounds.1
    (subst (IsWalked k.past k.layout.cells first key until best) f.2 c.requires.walks.walked) in
    record {
      on = goes.0;
      walked = subst (λ o. IsWalked k.past k.layout.cells first key until o k2.trail) (sym chosen)
          (subst (IsWalked k.past k.layout.cells first key until (better best t until (is_hit k.past key t))) (sym goes.1) walked);
      shorter = let b = ap (λ (l : List ℕ). length l) f.2 in let d = ap (λ (l : List ℕ). length l) goes.1 in omega arith;
    }

pub returns-clause-on : goal.returns-clause-on
returns-clause-on g c =
    let k = c.args.seat.now.knows in
    let k2 = c.next_of-next.new.seat.knows in
    let e = c.args.self.epoch in
    let looks = looks_trans k c.better-best.new.seat.knows k2 c.better-best.ensures.looks.looks.looks c.next_of-next.ensures.looks in
    let on = passed g (goal.at.returns-clause-on g c).After-next_of-next in
    record {
      looks = looks;
      epoch = refl;
      key = refl;
      walks = record {
        of = c.next_of-next.ensures.of;
        may = walk_on k k2 e looks c.requires.walks.may;
        begun = c.requires.walks.begun;
        chain = on.on;
        walked = subst (λ (z : Layout). IsWalked k2.past z.cells e.first c.args.self.key e.until c.better-best.result k2.trail) (sym looks.reads.seat.layout)
            (subst (λ (l : List Slot). IsWalked l k.layout.cells e.first c.args.self.key e.until c.better-best.result k2.trail) (sym looks.past) on.walked);
      };
    }

pub returns-clause-passed : goal.returns-clause-passed
returns-clause-passed g c = (passed g (goal.at.returns-clause-passed g c).After-next_of-next).shorter

use Rattle.std.proofs.Common.{arith, ap, sym, subst, ◌∙◌}
use Rattle.clsm_law.specs.declared.layout.Layout.{Layout}
use Rattle.clsm_law.specs.Merging.{retired_region}
use Rattle.clsm_words.specs.Merging.{IsLetGo}
use Rattle.clsm_store_calls.proofs.Quiet.{emptied_chains, emptied_list}
use Rattle.clsm_store_calls.proofs.reclaiming.clear_lists.Goals as goal

pub returns-clause-keeps : goal.returns-clause-keeps
returns-clause-keeps g c =
    let l = c.loop-chain.invariant in
    let k = c.loop-chain.merger.knows in
    let k' = c.clear_order.new.seat.knows in
    let x = c.clear_order.ensures.0 in
    let follows = c.clear_order.ensures.1.1 in
    let chains = ap (λ (z : Layout). z.chains) l.of.1 in
    let letgo : IsLetGo k.merger = subst IsLetGo (sym l.view) c.requires.retired in
    let same = c.requires.region ∙ ap retired_region (sym l.view) in
    record {
      layout = follows.layout ∙ l.layout;
      view = follows.view ∙ l.view;
      headless = emptied_chains k k' c.args.region x letgo same follows
          (λ s lt. l.cleared s (let end = c.loop-chain-test.false in let all = c.chains-chain-end.ensures in omega arith));
      orderless = emptied_list k k' c.args.region x letgo same follows;
    }

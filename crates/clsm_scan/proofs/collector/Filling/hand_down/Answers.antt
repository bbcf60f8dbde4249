use Rattle.std.proofs.Common.{◌≡◌, ◌∙◌, ◌+◌, ◌-◌, ◌++◌, List, ap, arith, drop, get_or, map, reverse, sym, take, ℕ}
use Rattle.std.proofs.lemmas.List.{drop_more, take-append-drop}
use Rattle.clsm_model.specs.Map.{Pair}
use Rattle.clsm_scan.proofs.Falling.{pairs_within}
use Rattle.clsm_scan.proofs.collector.Filling.hand_down.Goals as goal

pub returns-then-self-clause-handed : goal.returns-then-self-clause-handed
returns-then-self-clause-handed g c =
    let window = c.args.window.now in
    let left = c.loop-left.left in
    let some = c.loop-left-test.true in
    let before = c.loop-left.invariant in
    let inside = before.within in
    let at : left - 1 + 1 ≡ left = omega arith in
    let row = c.index-window-left.result in
    let old = map g.R.Row.pair (take c.args.self.now.count c.args.self.now.rows.now) in
    record {
      lower = take (left - 1) window;
      upper = drop (left - 1 + 1) window;
      words = (get_or window (left - 1) row).1;
      split = sym (take-append-drop (left - 1) window)
          ∙ ap (λ (l : List Pair). take (left - 1) window ++ l) (drop_more window (left - 1) row (omega arith));
      put = before.handed ∙ ap (λ (n : ℕ). old ++ reverse (drop n window)) (sym at);
      full = let long = before.goes_on.long in let within = before.ready.within in let none = c.if-self.true in
          let counted = pairs_within g.R.Row.is_row g.R.Row.pair c.loop-left.self.rows.now c.loop-left.self.count before.ready in omega arith;
    }

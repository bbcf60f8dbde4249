use Rattle.std.proofs.Common.{◌≡◌, sym, ap, arith}
use Rattle.clsm_law.specs.declared.layout.Layout.{Layout}
use Rattle.clsm_search.proofs.Chains.{chain_short, none_left, nothing_ahead}
use Rattle.clsm_search.proofs.ChainWalks.{found_at_end, found_on, walks_further, walks_yet}
use Rattle.clsm_search.proofs.searching.ChainWalk.to_end.Goals as goal

pub loop-init : goal.loop-init
loop-init g c = record {
  on = walks_yet c.args.words.now c.args.seat.now c.args.seat.now c.args.self c.requires;
  short = let few = chain_short c.args.seat.now.knows c.args.self.epoch.first c.args.self.next c.requires.chain in omega arith;
}

pub loop-preserved : goal.loop-preserved
loop-preserved g c =
    let pass = c.pass_cell-walk.ensures in
    let cells : c.pass_cell-walk.new.seat.knows.layout.cells ≡ c.loop.seat.knows.layout.cells = ap (λ (z : Layout). z.cells) pass.on.looks.reads.seat.layout in
    record {
      on = walks_further c.args.words.now c.args.seat.now c.loop.seat c.args.self c.pass_cell-walk.new.seat c.loop.walk c.pass_cell-walk.result
          c.loop.invariant.on pass.on;
      short = let short = c.loop.invariant.short in let passed = pass.passed in omega arith;
    }

pub returns-then-walk-eq0 : goal.returns-then-walk-eq0
returns-then-walk-eq0 g c =
    let s = c.loop.seat in
    let walk = c.loop.walk in
    let walks = c.loop.invariant.on.walks in
    found_on c.args.words.now c.args.seat.now s c.args.self s walk walk.best c.loop.invariant.on
    (found_at_end c.args.words.now s walk walks (nothing_ahead s.knows walk.epoch.first walk.next walks.chain c.if-walk-eq0.true))

pub returns : goal.returns
returns g c =
    let s = c.loop.seat in
    let walk = c.loop.walk in
    let walks = c.loop.invariant.on.walks in
    let cells : c.args.words.now.layout.cells ≡ s.knows.layout.cells = sym (ap (λ (z : Layout). z.cells) walks.of.1) in
    found_on c.args.words.now c.args.seat.now s c.args.self s walk walk.best c.loop.invariant.on
    (found_at_end c.args.words.now s walk walks
    (none_left s.knows.trail (let end = c.cells-end.ensures in let no = c.loop-test.false in let short = c.loop.invariant.short in omega arith)))

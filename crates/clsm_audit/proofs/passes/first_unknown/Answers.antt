use Rattle.std.proofs.Common.{arith, below_more, refl, rules, take}
use Rattle.clsm_audit.specs.Lawful.{IsKnown, open_of}
use Rattle.clsm_audit.proofs.Indices.{each_index}
use Rattle.clsm_audit.proofs.Walks.{AreStates-next, known_here}
use Rattle.clsm_audit.proofs.passes.first_unknown.Goals as goal

pub loop-index-preserved : goal.loop-index-preserved
loop-index-preserved c =
    let states = c.loop-index.states in
    let before = c.loop-index.invariant in
    record {
      count = before.count;
      states = AreStates-next c.args.records.now c.loop-index.index _ _ _ _ _ c.loop-index-test.true c.index-records-index.is c.deref_mut.ensures.value
          (search rules) (omega arith) before.states c.advance.ensures;
      known = below_more _ _ before.known
          (known_here c.args.config.now c.args.records.now c.loop-index.index c.index-records-index.result states.items c.index.result.now
          c.loop-index-test.true c.index-records-index.is
          before.states (search rules) c.index.ensures (c.if-not-is_known.ensures.0 refl));
    }

pub returns : goal.returns
returns c = record {
  fails = tt;
  below = λ i none. each_index (λ k q. IsKnown c.args.config.now (open_of (take k c.args.records.now) q.seat) q)
      c.args.records.now c.loop-index.index c.loop-index-test.false c.loop-index.invariant.known i;
}

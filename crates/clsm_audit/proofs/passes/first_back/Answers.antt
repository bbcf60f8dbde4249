use Rattle.std.proofs.Common.{arith, below_more, refl, rules, take}
use Rattle.clsm_audit.specs.Lawful.{IsFromDue, due_of, open_of}
use Rattle.clsm_audit.proofs.Indices.{each_index}
use Rattle.clsm_audit.proofs.Walks.{AreStates-next, from_due_here, known_seat, known_past}
use Rattle.clsm_audit.proofs.passes.first_back.Goals as goal

pub index-requires : goal.index-requires
index-requires c =
    let seat = known_seat c.args.config.now c.args.records.now c.loop-index.index c.index-records-index.result c.loop-index-test.true
    c.index-records-index.is (c.requires c.loop-index.index) in
    omega arith

pub advance-requires : goal.advance-requires
advance-requires c =
    let seat = known_seat c.args.config.now c.args.records.now c.loop-index.index c.index-records-index.result c.loop-index-test.true
    c.index-records-index.is (c.requires c.loop-index.index) in
    record {
      seat = omega arith;
      time = known_past c.args.config.now c.args.records.now c.loop-index.index c.index-records-index.result c.loop-index-test.true c.index-records-index.is
          (c.requires c.loop-index.index);
    }

pub loop-index-preserved : goal.loop-index-preserved
loop-index-preserved c =
    let states = c.loop-index.states in
    let before = c.loop-index.invariant in
    let seat = known_seat c.args.config.now c.args.records.now c.loop-index.index c.index-records-index.result c.loop-index-test.true
    c.index-records-index.is (c.requires c.loop-index.index) in
    record {
      count = before.count;
      states = AreStates-next c.args.records.now c.loop-index.index _ _ _ _ _ c.loop-index-test.true c.index-records-index.is c.deref_mut.ensures.value
          (search rules) (omega arith) before.states c.advance.ensures;
      from_due = below_more _ _ before.from_due
          (from_due_here c.args.records.now c.loop-index.index c.index-records-index.result states.items c.index.result.now c.loop-index-test.true
          c.index-records-index.is before.states
          (omega arith) c.index.ensures (c.if-not-is_from_due.ensures.0 refl));
    }

pub returns : goal.returns
returns c = record {
  fails = tt;
  below = λ i none. each_index (λ k q. IsFromDue (due_of (take k c.args.records.now) q.seat) (open_of (take k c.args.records.now) q.seat) q.time q.deed)
      c.args.records.now c.loop-index.index c.loop-index-test.false c.loop-index.invariant.from_due i;
}

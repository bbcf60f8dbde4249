use Rattle.std.proofs.Common.{List, IfSome, arith, below_more, subst, sym}
use Rattle.std.specs.List.{slice_get}
use Rattle.clsm_model.specs.History.{IsUncut}
use Rattle.clsm_model.specs.Map.{IsMap, Pair}
use Rattle.clsm_audit.specs.Written.{batches_of, history_of}
use Rattle.clsm_audit.proofs.Played.{map_here, played_first, played_next}
use Rattle.clsm_audit.proofs.Turns.{nowhere, stamp_for}
use Rattle.clsm_audit.proofs.rows.map_below.Goals as goal

pub loop-stamp-init : goal.loop-stamp-init
loop-stamp-init c = record {
  played = played_first c.args.records.now c.args.stamps.now c.requires.order c.requires.times c.requires.alone c.new-replay.result.until
      c.new-replay.result.map c.new-replay.ensures.until (c.new-replay.ensures.map _);
  other = λ k lt is. omega (arith, lt);
}

pub returns-then-stamp-index : goal.returns-then-stamp-index
returns-then-stamp-index c =
    let records = c.args.records.now in
    subst (λ (pairs : List Pair). IfSome (slice_get records c.args.index)
    (λ r. IsUncut (batches_of records) r.time → IsMap (history_of records) r.time pairs)) (sym c.into_map.ensures)
    (map_here records c.args.stamps.now c.requires.order c.requires.times c.requires.alone c.loop-stamp.stamp-index c.loop-stamp.replay.until c.args.index
    c.loop-stamp.replay.map c.loop-stamp-test.true c.if-stamp-index.true c.loop-stamp.invariant.played)

pub loop-stamp-preserved : goal.loop-stamp-preserved
loop-stamp-preserved c =
    let played = c.in_ok-play.ensures in
    record {
      played = played_next c.args.records.now c.args.stamps.now c.requires.order c.requires.times c.requires.alone c.loop-stamp.stamp-index _ _ _ _
          c.index-records-stamp.result c.loop-stamp-test.true c.index-records-stamp.is c.loop-stamp.invariant.played
          (record { write = played.write; read = played.read; until_is = played.until });
      other = below_more _ _ c.loop-stamp.invariant.other c.if-stamp-index.false;
    }

pub unreachable-requires : goal.unreachable-requires
unreachable-requires c =
    let found = stamp_for c.args.records.now c.args.stamps.now c.requires.order c.args.index nowhere c.requires.within in
    let inside = found.1 in
    let all = c.loop-stamp-test.false in
    c.loop-stamp.invariant.other found.0 (omega (arith, inside, all)) found.2

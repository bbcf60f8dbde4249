use Rattle.std.proofs.Common.{◌≡◌, ◌<◌, ◌∙◌, ap, arith, length, rules, subst, List}
use Rattle.std.proofs.lemmas.List.Sorted.{answers_always}
use Rattle.std.specs.List.Sorted.{IsPermutation}
use Rattle.clsm_audit.specs.declared.event.Event.{Event}
use Rattle.clsm_audit.specs.Moments.{comes_before, events_below}
use Rattle.clsm_audit.proofs.Backs.{unknown_seat}
use Rattle.clsm_audit.proofs.Orders.{comes_before-moments}
use Rattle.clsm_audit.proofs.Timed.{events_more, place_here}
use Rattle.clsm_audit.proofs.Walks.{AreStates-next}
use Rattle.clsm_audit.proofs.event.in_moment_order.Goals as goal

pub loop-index-preserved : goal.loop-index-preserved
loop-index-preserved c =
    let states = c.loop-index.states in
    let before = c.loop-index.invariant in
    let seat : c.index-records-index.result.seat < c.args.config.now.seats =
    unknown_seat c.args.config.now c.args.records.now c.requires.known c.loop-index.index c.index-records-index.result c.loop-index-test.true
    c.index-records-index.is in
    record {
      count = before.count;
      states = AreStates-next c.args.records.now c.loop-index.index _ _ _ _ _ c.loop-index-test.true c.index-records-index.is c.deref_mut.ensures.value
          (search rules) (omega arith) before.states c.advance.ensures;
      events = events_more c.args.records.now c.args.moments.now c.loop-index.index _ c.place_of.result c.loop-index.events.items
          c.push_events.new.events.items (omega arith)
          (c.place_of.ensures
          ∙ place_here c.args.records.now c.loop-index.index c.index-records-index.result states.items c.index.result.now c.loop-index-test.true
          c.index-records-index.is before.states
          (omega arith) c.index.ensures)
          before.events c.in_ok-push_events.ensures;
    }

pub returns : goal.returns
returns c =
    let last : c.loop-index.index ≡ length c.args.records.now = omega arith in
    let all : c.loop-index.events.items ≡ events_below c.args.records.now c.args.moments.now (length c.args.records.now) =
    c.loop-index.invariant.events ∙ ap (events_below c.args.records.now c.args.moments.now) last in
    record {
      same = subst (λ (events : List Event). IsPermutation events c.sort_unstable_by.new.self.items) all c.sort_unstable_by.ensures.permutation;
      sorted = c.sort_unstable_by.ensures.sorted comes_before comes_before-moments (answers_always _ _ _ (λ f a r f' called. search rules));
    }

use Rattle.std.proofs.Common.{◌≡◌, ◌<◌, not, true, rules, refl, sym, ◌∙◌, arith}
use Rattle.std.proofs.lemmas.Bool.{true≢false}
use Rattle.std.specs.BTreeSet.{Updates, contains}
use Rattle.std.specs.Ordering.{nat_cmp}
use Rattle.clsm_audit.specs.Written.{time_past}
use Rattle.clsm_audit.proofs.Seconds.{all_taken, none_second, second_found, taken_first, taken_more, was_absent, was_there}
use Rattle.clsm_audit.proofs.passes.is_second.Goals as goal

pub loop-time-init : goal.loop-time-init
loop-time-init c = taken_first (contains nat_cmp c.args.times.now) c.args.call.now.time

pub returns-then-not-is_new-clause-second : goal.returns-then-not-is_new-clause-second
returns-then-not-is_new-clause-second c =
    let added : c.in_ok-is_new.is_new ≡ not (contains nat_cmp c.loop-time.times c.loop-time.time) = search rules in
    let there = was_there (contains nat_cmp c.loop-time.times c.loop-time.time) c.in_ok-is_new.is_new added c.if-not-is_new.true in
    let inside : c.loop-time.time < time_past c.args.call.now = omega (arith, c.loop-time-test.true, c.span_of.ensures) in (
      λ _. second_found (contains nat_cmp c.args.times.now) (contains nat_cmp c.loop-time.times) c.args.call.now c.requires.writes
          (sym c.is_write.ensures ∙ c.if-not-is_write.false) c.loop-time.time c.loop-time.auto.time inside c.loop-time.invariant there,
      λ _. refl,
    )

pub loop-time-preserved : goal.loop-time-preserved
loop-time-preserved c =
    let added : c.in_ok-is_new.is_new ≡ not (contains nat_cmp c.loop-time.times c.loop-time.time) = search rules in
    let updates : Updates nat_cmp c.loop-time.times c.insert.new.self c.loop-time.time true = search rules in
    taken_more (contains nat_cmp c.args.times.now) (contains nat_cmp c.loop-time.times)
    (contains nat_cmp c.insert.new.self) c.args.call.now.time c.loop-time.time c.loop-time.auto.time
    (was_absent (contains nat_cmp c.loop-time.times c.loop-time.time) c.in_ok-is_new.is_new added c.if-not-is_new.false)
    (λ t. updates.0 t) c.loop-time.invariant

pub returns-clause-second : goal.returns-clause-second
returns-clause-second c =
    let call = c.args.call.now in (
      λ h. absurd (true≢false (sym h)),
      λ second. absurd (none_second (contains nat_cmp c.args.times.now) (contains nat_cmp c.loop-time.times) call c.requires.writes
          (sym c.is_write.ensures ∙ c.if-not-is_write.false) c.loop-time.time
          (omega (arith, c.loop-time-test.false, c.span_of.ensures)) c.loop-time.invariant second),
    )

pub returns-clause-times : goal.returns-clause-times
returns-clause-times c =
    λ _. all_taken (contains nat_cmp c.args.times.now) (contains nat_cmp c.loop-time.times) c.args.call.now c.requires.writes
    (sym c.is_write.ensures ∙ c.if-not-is_write.false) c.loop-time.time
    (omega (arith, c.loop-time-test.false, c.loop-time.auto.time-end, c.span_of.ensures)) c.loop-time.invariant

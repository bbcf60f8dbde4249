use Rattle.std.proofs.Common.{◌≡◌, ◌<◌, ◌∙◌, ◌+◌, ℕ, List, Some, ap, arith, slice_get, get_or, inr, length, refl, rules, subst, sym, take}
use Rattle.std.proofs.lemmas.List.{length-take-le}
use Rattle.std.proofs.lemmas.Slice.Zip.{AllZip-long}
use Rattle.std.specs.List.{AllZip}
use Rattle.std.specs.Prelude.{IsSomeAnd}
use Rattle.clsm_planner.specs.declared.any_deal.Condition.{Condition}
use Rattle.clsm_planner.specs.declared.testing.Reading.{Reading}
use Rattle.clsm_planner.specs.Testing.{AreAllMet, IsMetBy, IsMissedBy}
use Rattle.clsm_planner.proofs.Lists.{get_at, zip_more}
use Rattle.clsm_planner.proofs.place.Place.test_all.Goals as goal

pub returns-then-not-is_met : goal.returns-then-not-is_met
returns-then-not-is_met c =
    let time : ℕ = c.args.self.now.time in
    let conditions : List Condition = c.args.conditions.now in
    let before : List Reading = c.loop-condition.readings.items in
    let number : ℕ = c.loop-condition.condition-index in
    let condition : Condition = c.condition-item.result in
    let within : number < length conditions = search rules in
    let at : condition ≡ get_or conditions number condition = search rules in
    let long : length before ≡ number =
    AllZip-long (λ condition read. (read.time ≡ time) × IsMetBy condition read.deed) (take number conditions) before c.loop-condition.invariant
    ∙ length-take-le number conditions (omega arith) in
    inr (record {
      before = before;
      last = record { time = time; deed = c.in_ok-deed.deed };
      is = c.in_ok-note_read.ensures;
      met = subst (λ n. AreAllMet (λ (r : Reading). r.time) (λ (r : Reading). r.deed) time (take n conditions) before) (sym long) c.loop-condition.invariant;
      at = refl;
      unmet = subst (λ n. IsSomeAnd (slice_get conditions n) (λ one. IsMissedBy one c.in_ok-deed.deed)) (sym long)
          (rw (get_at conditions number condition within at) (c.found_by.ensures.missed (c.in-Some.is ∙ ap Some c.if-not-is_met.true)));
    })

pub loop-condition-preserved : goal.loop-condition-preserved
loop-condition-preserved c =
    let time : ℕ = c.args.self.now.time in
    let conditions : List Condition = c.args.conditions.now in
    let number : ℕ = c.loop-condition.condition-index in
    let condition : Condition = c.condition-item.result in
    let within : number < length conditions = search rules in
    let at : condition ≡ get_or conditions number condition = search rules in
    let R : Condition → Reading → Type 0 = λ condition read. (read.time ≡ time) × IsMetBy condition read.deed in
    let met : IsMetBy condition c.in_ok-deed.deed = c.found_by.ensures.met (c.in-Some.is ∙ ap Some c.if-not-is_met.false) in
    subst (λ (l : List Reading). AllZip R (take (number + 1) conditions) l) (sym c.in_ok-note_read.ensures)
    (zip_more R conditions c.loop-condition.readings.items number condition (record { time = time; deed = c.in_ok-deed.deed }) within at
    c.loop-condition.invariant (refl, met))

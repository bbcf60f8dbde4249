use Rattle.std.proofs.Common.{ℕ, Option, subst, IfNone}
use Rattle.clsm_model.specs.History.{plain}
use Rattle.clsm_store_calls.specs.Conditional.{TestsAlone, is_passed}
use Rattle.clsm_store_calls.specs.Conditions.{AllHold}
use Rattle.clsm_store_calls.proofs.AloneParts.{acts, written_alone}
use Rattle.clsm_store_calls.proofs.conditional.batch_if_alone.Goals as goal

pub returns-clause-acts : goal.returns-clause-acts
returns-clause-acts g c =
    let tested = c.test_alone-unmet in
    acts c.args.seat.now.knows tested.new.seat.knows c.write_from.new.seat.knows tested.result.clock tested.result.limit
    (is_passed tested.result.unmet c.args.asked.now.members.now) c.args.asked.now.members.now tested.ensures.tests c.write_from.ensures.writes

pub returns-clause-written : goal.returns-clause-written
returns-clause-written g c =
    let tested = c.test_alone-unmet in
    let b = c.args.seat.now.knows in
    let u = tested.new.seat.knows in
    let t = tested.result.clock in
    let members = c.args.asked.now.members.now in
    let conditions = c.args.asked.now.conditions.now in
    let tests = subst (λ (unmet : Option ℕ). TestsAlone b u t tested.result.limit (is_passed unmet members)) c.in_default.is tested.ensures.tests in
    let all = subst (λ (unmet : Option ℕ). IfNone unmet (AllHold (plain u.past) t conditions)) c.in_default.is tested.ensures.all in
    written_alone b u c.write_from.new.seat.knows t tested.result.limit conditions members tests c.write_from.ensures.writes all

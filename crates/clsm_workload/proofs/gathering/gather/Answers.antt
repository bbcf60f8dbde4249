use Rattle.std.proofs.Common.{rules, List, IsOk, subst, sym}
use Rattle.std.proofs.lemmas.List.Elements.{All-cons}
use Rattle.std.specs.Prelude.{All}
use Rattle.clsm_workload.proofs.Brought.{gathers, gathers_records}
use Rattle.clsm_workload.specs.declared.worker.Worked.{Worked}
use Rattle.clsm_workload.proofs.gathering.gather.Goals as goal

pub loop-one-preserved : goal.loop-one-preserved
loop-one-preserved c =
    let is = c.in-Some.ensures.steps.0 in
    let inv = c.loop-one.invariant in
    let took = c.in_ok-take.ensures in
    record {
      seats = gathers _ _ c.in-Some.one _ c.next.new.self.rest.items _ took.seats is inv.seats;
      records = gathers_records _ _ c.in-Some.one _ c.next.new.self.rest.items c.args.worked.items took.records is inv.records;
      ended = λ rest. inv.ended (subst (λ (ws : List Worked). All (λ (w : Worked). IsOk w.made.ended) ws) (sym is) (All-cons (λ (w : Worked). IsOk w.made.ended)
          c.in-Some.one c.next.new.self.rest.items (search rules) rest));
    }

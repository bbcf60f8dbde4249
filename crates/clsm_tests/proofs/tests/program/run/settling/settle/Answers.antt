use Rattle.std.proofs.Common.{rules, ◌≡◌, ◌<◌, slice_index_or, arith}
use Rattle.std.proofs.lemmas.List.{get_or_default}
use Rattle.clsm_workload.specs.Calls.{AreWorked}
use Rattle.clsm_workload.proofs.Brought.{seats_of}
use Rattle.clsm_workload.proofs.Seated.{all_seated, are_seats}
use Rattle.clsm_tests.proofs.tests.program.run.settling.settle.Goals as goal

pub work_merging-worked-requires-clause-seats : goal.work_merging-worked-requires-clause-seats
work_merging-worked-requires-clause-seats g c κs within =
    all_seated c.args.opened.store c.args.config.now.seats c.args.opened.seats.items c.requires.seats

pub settle-requires : goal.settle-requires
settle-requires g c =
    let done : AreWorked c.args.load.now c.args.opened.seats.items c.expect.result.items = search rules in
    let is : c.expect-seats.result.seats.items ≡ seats_of c.expect.result.items = search rules in
    let are = are_seats c.args.opened.store c.args.config.now.seats c.args.opened.seats.items c.requires.seats c.args.load.now c.expect.result.items done
    c.expect-seats.result.seats.items is in
    λ k d lt. (are.each k (slice_index_or c.expect-seats.result.seats.items k d) (let n = are.counted in omega arith)
    (get_or_default c.expect-seats.result.seats.items k (slice_index_or c.expect-seats.result.seats.items k d) d lt)).0

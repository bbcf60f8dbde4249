use Rattle.std.proofs.Common.{ap, sym, arith, ◌∙◌}
use Rattle.clsm_model.specs.Right.{Member}
use Rattle.clsm_store_calls.proofs.Staged.{staged_next, write_at}
use Rattle.clsm_store_calls.proofs.batching.stage_all.Goals as goal

pub stage_member-requires-clause-writes : goal.stage_member-requires-clause-writes
stage_member-requires-clause-writes g c = λ keeps.
    let m = c.member-item.result in
    write_at c.args.members.now c.loop-member.member-index m c.requires.writes c.loop-member-test.true (sym (ap (λ (x : Member). x.1) c.member-item.is) ∙ keeps)

pub overflow_add-time : goal.overflow_add-time
overflow_add-time g c =
    let room = c.requires.may.room in let small = c.requires.may.small in let time = c.loop-member.invariant.time_is in let within =
    c.loop-member-test.true in omega arith

pub loop-member-preserved : goal.loop-member-preserved
loop-member-preserved g c = record {
  of = c.stage_member.ensures.of;
  staged = staged_next c.args.seat.now.knows c.loop-member.seat.knows c.args.members.now c.loop-member.member-index c.loop-member-test.true
      c.loop-member.invariant.staged
      c.stage_member.new.seat.knows c.member-item.result c.member-item.result c.member-item.is c.stage_member.ensures.staged;
  time_is = let time = c.loop-member.invariant.time_is in omega arith;
}

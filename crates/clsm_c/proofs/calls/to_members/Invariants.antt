use Rattle.std.proofs.Common.{◌≡◌, ◌≤◌, length, take, vec_capacity, vec_len}
use Rattle.clsm_c.specs.Calls.{AreMembers}
use Rattle.clsm_c.proofs.calls.to_members.Given as goal

abbrev pub invariant-loop-row : goal.invariant-loop-row
invariant-loop-row l = record {
  room : length l.rows ≤ vec_capacity l.members;
  count : vec_len l.members ≡ l.row-index;
  members : AreMembers (take l.row-index l.rows) l.members.items;
}

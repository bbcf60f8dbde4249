use Rattle.std.proofs.Common.{◌≡◌, ℕ, ◌<◌, take, vec_len}
use Rattle.clsm_audit.specs.Lawful.{IsFromDueAt}
use Rattle.clsm_audit.specs.States.{AreStates}
use Rattle.clsm_audit.proofs.passes.first_back.Given as goal

abbrev pub invariant-loop-index : goal.invariant-loop-index
invariant-loop-index l = record {
  count : vec_len l.states ≡ l.config.seats;
  states : AreStates (take l.index l.records) l.states.items;
  from_due : (i : ℕ) → i < l.index → IsFromDueAt l.records i;
}

use Rattle.std.proofs.Common.{◌≡◌, take, vec_len}
use Rattle.clsm_audit.specs.Moments.{events_below}
use Rattle.clsm_audit.specs.States.{AreStates}
use Rattle.clsm_audit.proofs.event.in_moment_order.Given as goal

abbrev pub invariant-loop-index : goal.invariant-loop-index
invariant-loop-index l = record {
  count : vec_len l.states ≡ l.config.seats;
  states : AreStates (take l.index l.records) l.states.items;
  events : l.events.items ≡ events_below l.records l.moments l.index;
}

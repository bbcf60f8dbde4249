use Rattle.std.proofs.Common.{inr}
use Rattle.clsm_command.proofs.Handed.{asked_for}
use Rattle.clsm_command.proofs.Sizes.{refused_as_asked, refused_for_memory}
use Rattle.clsm_command.proofs.dispatch.command.Goals as goal

pub returns-in-Ok-clause-done : goal.returns-in-Ok-clause-done
returns-in-Ok-clause-done g c = λ e. inr (asked_for _ _ _ c.in-Ok.ensures.parsed c.in-Ok.ensures.range (c.obey.ensures.done e))

pub returns-in-Ok-clause-fault : goal.returns-in-Ok-clause-fault
returns-in-Ok-clause-fault g c = λ e. asked_for _ _ _ c.in-Ok.ensures.parsed c.in-Ok.ensures.range (c.obey.ensures.fault e)

pub returns-in-Ok-clause-refused : goal.returns-in-Ok-clause-refused
returns-in-Ok-clause-refused g c = λ asked. c.obey.ensures.refused (refused_as_asked _ _ c.in-Ok.ensures.parsed asked)

pub returns-in-Err-clause-refused : goal.returns-in-Err-clause-refused
returns-in-Err-clause-refused g c = λ asked. c.refuse-status.ensures.memory (refused_for_memory _ _ _ asked c.in-Err.ensures.refused)

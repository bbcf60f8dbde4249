-- The numbers of the refusals of a step.
use Rattle.std.specs.Prelude.{ℕ}
use Rattle.clsm_law.specs.declared.step.StepError.{StepError}
use Rattle.clsm_law.specs.declared.step.StepError.TheVariants.{NotAllowed, Memory}

abbrev pub number_of : StepError → ℕ
number_of NotAllowed = 1
number_of Memory = 2

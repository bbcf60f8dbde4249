-- What a parser answers.
use Rattle.std.specs.Prelude.{Option, Some, None}

-- one that has the property, or none where none has it
abbrev pub Finds : {A : Type 0} → (A → Type 0) → Option A → Type 0
Finds {A} Has None = (x : A) → ¬ Has x
Finds Has (Some x) = Has x

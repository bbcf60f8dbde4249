-- What an operation makes of a word, and what is told of it.
use Rattle.std.specs.Prelude.{ℕ, ◌==◌, max}
use prog.Atomic.{either}
use Rattle.clsm_law.specs.Codes.{less}
use Rattle.clsm_words.specs.declared.operation.Operation.{Operation}
use Rattle.clsm_words.specs.declared.operation.Operation.TheVariants.{Load, Store, Subtract, Raise, Exchange}

-- what becomes of a word
abbrev pub made_by : Operation → ℕ → ℕ
made_by Load = λ x. x
made_by (Store new) = λ x. new
made_by (Subtract by) = less by
made_by (Raise to) = λ x. max x to
made_by (Exchange old new) = λ x. either (x == old) new x

-- this holds of the word that was found: the result, but a store is not told it
abbrev pub OfFound : Operation → (ℕ → Type 0) → ℕ → Type 0
OfFound (Store new) P result = (x : ℕ) × P x
OfFound Load P result = P result
OfFound (Subtract by) P result = P result
OfFound (Raise to) P result = P result
OfFound (Exchange old new) P result = P result

-- What a transaction did that was answered: a read of two keys, and a write of one of them on the
-- condition that both have what it read.
use Rattle.std.specs.Prelude.{◌≡◌, ℕ, ◌≤◌, List, [], ◌∷◌, ◌++◌}
use Rattle.clsm_model.specs.declared.record.CallRecord.{CallRecord}
use Rattle.clsm_model.specs.declared.record.Deed.TheVariants.{Batch, Get}
use Rattle.clsm_model.specs.declared.slot.Change.TheVariants.{Set}
use Rattle.clsm_model.specs.History.{end_of, value}
use Rattle.clsm_law.specs.Relation.{call_of}
use Rattle.clsm_store_calls.specs.Seats.{Answers, IsSameSeat, SeatState, known_by}
use Rattle.clsm_store_audit.specs.declared.pair.Write.{Write}
use Rattle.clsm_store_audit.specs.declared.skew.Read.{Read}
use Rattle.clsm_store_audit.specs.declared.skew.Stood.{Stood}

-- both keys have what was read, below the time t in what the seat knows, and it knows all below t
pub record Stands (s : SeatState) (t own beside : ℕ) (read : Read) : Type 0 where
  pub reached : t ≤ end_of (known_by s)
  pub of_own : value (known_by s) own t ≡ read.own
  pub of_beside : value (known_by s) beside t ≡ read.beside

-- the seat read both keys at one time, which is recorded as a get of its own one
pub record ReadsBoth (old new : SeatState) (own beside : ℕ) (read : Read) : Type 0 where
  pub at : ℕ
  pub answers : Answers old new at (Get own read.own)
  pub stands : Stands new at own beside read

-- the records of a transaction by the seat with this number: its read, and its write, which is a
-- batch of one member
abbrev pub transaction_of : ℕ → Write → ℕ → Read → ℕ → List CallRecord
transaction_of number own at read time =
    call_of number at (Get own.key read.own) ∷ call_of number time (Batch ((own.key, Set own.value) ∷ [])) ∷ []

-- the seat made a transaction: it read both keys at one time, and wrote its own one at another, at
-- which both have what it read
pub record HasStood (old : SeatState) (own : Write) (beside : ℕ) (stood : Stood) : Type 0 where
  pub same : IsSameSeat old stood.seat
  pub at : ℕ
  pub calls : stood.seat.calls ≡ old.calls ++ transaction_of old.number own at stood.read stood.time
  pub read : Stands stood.seat at own.key beside stood.read
  pub stands : Stands stood.seat stood.time own.key beside stood.read

-- the two transactions read the same of the two keys: the key that is one's own is beside the
-- other's
abbrev pub IsSameRead : Read → Read → Type 0
IsSameRead one other = (one.own ≡ other.beside) × (one.beside ≡ other.own)

-- A seat and a message as contracts see them.
use Rattle.std.specs.Prelude.{ℕ, List}
use Rattle.atomic_table.specs.Seated.{TableId}
use Rattle.clsm_model.specs.declared.batch.Batch.{Batch}
use Rattle.clsm_model.specs.declared.slot.Slot.{Slot}
use Rattle.clsm_words.specs.declared.known.Known.{Known}

-- a seat: which words it is at, and what it knows
pub record RawState : Type 0 where
  pub table : TableId
  pub knows : Known

-- a message: which words it is of, and what it carries from one seat to another, a beginning of the
-- history, as its slots and its batches, and a due
pub record MessageState : Type 0 where
  pub table : TableId
  pub told : List Slot
  pub batches : List Batch
  pub heard : ℕ

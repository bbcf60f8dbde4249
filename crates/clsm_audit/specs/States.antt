-- How far the calls of each seat have come.
use Rattle.std.specs.Prelude.{◌≡◌, ℕ, ◌<◌, List, length, slice_index_or}
use Rattle.clsm_model.specs.declared.record.CallRecord.{CallRecord}
use Rattle.clsm_audit.specs.declared.seat.SeatState.{SeatState}
use Rattle.clsm_audit.specs.Lawful.{due_of, open_of}

-- the state of the seat after its calls
abbrev pub state_of : List CallRecord → ℕ → SeatState
state_of records seat = record { due = due_of records seat; snapshot = open_of records seat }

-- these are the states of the seats after the records
abbrev pub AreStates : List CallRecord → List SeatState → Type 0
AreStates records states =
    (seat : ℕ) (d : SeatState) → seat < length states → slice_index_or states seat d ≡ state_of records seat

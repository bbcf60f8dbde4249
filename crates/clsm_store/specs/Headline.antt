-- The joint history of seats: what their calls did, as one list of writes by time, and the batches
-- among these.
use Rattle.std.specs.Prelude.{◌≡◌, ℕ, ◌<◌, List, [], ◌∷◌, cond, length, nat_lt, slice_index_or, Option}
use Rattle.std.specs.List.{All}
use Rattle.clsm_model.specs.declared.slot.Slot.TheVariants.{Wrote}
use Rattle.clsm_model.specs.History.{History, AreInTurn, IsBeginning, end_of, plain, slot_at}
use Rattle.clsm_model.specs.Seats.{AreCallsIn}
use Rattle.clsm_store_calls.specs.Seats.{SeatState, StoreId, known_by}

-- s is the seat at the place i
abbrev pub IsAt : List SeatState → ℕ → SeatState → Type 0
IsAt seats i s = (i < length seats) × (slice_index_or seats i s ≡ s)

-- one of the seats has the number
abbrev pub IsNumbered : List SeatState → ℕ → Type 0
IsNumbered seats n = (i : ℕ) × (s : SeatState) × IsAt seats i s × (s.number ≡ n)

-- all seats of the store are among these
abbrev pub HasAllSeats : StoreId → List SeatState → Type 0
HasAllSeats store seats = (n : ℕ) → n < store.layout.seats → IsNumbered seats n

-- what the seat knows is a beginning of the history, and its calls are its part of it: so no read
-- of its own stands strictly inside a batch
pub record IsSeatIn (h : History) (s : SeatState) : Type 0 where
  pub begins : IsBeginning (known_by s) h
  pub part : AreCallsIn h s.number s.calls s.due s.snapshot

-- h is the history of these seats: each has its part in it, and its batches don't overlap, and none
-- ends beyond it
pub record IsJointHistory (seats : List SeatState) (h : History) : Type 0 where
  pub parts : All (IsSeatIn h) seats
  pub in_turn : AreInTurn 0 h.batches (end_of h)

-- and each write in it is one of theirs
pub record IsWholeHistory (seats : List SeatState) (h : History) : Type 0 where
  pub joint : IsJointHistory seats h
  pub theirs : (t n key : ℕ) (written : Option (List ℕ)) → t < end_of h → slot_at h t ≡ Wrote n key written → IsNumbered seats n

-- the longest of the histories that they know
abbrev pub longest_past : List SeatState → History
longest_past [] = plain []
longest_past (s ∷ ss) = cond (nat_lt (end_of (longest_past ss)) (end_of (known_by s))) (known_by s) (longest_past ss)

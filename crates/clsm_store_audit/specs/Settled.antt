-- The records of a store's seats.
use Rattle.std.specs.Prelude.{◌≡◌, ℕ, ◌≤◌, ◌^◌, List, [], length}
use Rattle.std.specs.List.{AllByRecursion, flat_map}
use Rattle.clsm_model.specs.declared.record.CallRecord.{CallRecord}
use Rattle.clsm_model.specs.Seats.{FitsRecord}
use Rattle.clsm_audit.specs.Lawful.{calls_of}
use Rattle.clsm_store_calls.specs.Seats.{IsLawfulAlone, SeatState, StoreId}
use Rattle.clsm_store.specs.Headline.{IsAt, IsWholeHistory, longest_past}
use Rattle.clsm_store.specs.Meetings.{AreMet}

-- the records of each seat are its calls, in its own order, and none is of another number
pub record AreRecordsOf (store : StoreId) (seats : List SeatState) (records : List CallRecord) : Type 0 where
  pub theirs : (i : ℕ) (s : SeatState) → IsAt seats i s → calls_of records s.number ≡ s.calls
  pub others : (n : ℕ) → store.layout.seats ≤ n → calls_of records n ≡ []

-- the calls of the seats, one seat's after another's
abbrev pub joined : List SeatState → List CallRecord
joined seats = flat_map (λ s. s.calls) seats

-- the seats are all those of the store, each at the place of its number
pub record AreAllInOrder (store : StoreId) (seats : List SeatState) : Type 0 where
  pub count : length seats ≡ store.layout.seats
  pub numbers : (i : ℕ) (s : SeatState) → IsAt seats i s → s.number ≡ i

-- each call of the seat has its number
abbrev pub HasOwnCalls : SeatState → Type 0
HasOwnCalls s = AllByRecursion (λ r. r.seat ≡ s.number) s.calls

-- and so of each seat
abbrev pub HaveOwnCalls : List SeatState → Type 0
HaveOwnCalls seats = (i : ℕ) (s : SeatState) → IsAt seats i s → HasOwnCalls s

-- each batch among the seat's calls fits an epoch
abbrev pub HasFittingCalls : SeatState → Type 0
HasFittingCalls s = AllByRecursion (FitsRecord s.store.layout.cells) s.calls

-- and so of each seat
abbrev pub HaveFittingCalls : List SeatState → Type 0
HaveFittingCalls seats = (i : ℕ) (s : SeatState) → IsAt seats i s → HasFittingCalls s

-- no due is past the end of time
abbrev pub AreInTime : List SeatState → Type 0
AreInTime seats = (i : ℕ) (s : SeatState) → IsAt seats i s → s.due ≤ 2 ^ 62

-- each seat is lawful in what it knows itself
abbrev pub AreLawfulAlone : List SeatState → Type 0
AreLawfulAlone seats = (i : ℕ) (s : SeatState) → IsAt seats i s → IsLawfulAlone s

-- and once the seats are settled, what they all did is one whole history
pub record HaveWholeHistory (seats : List SeatState) : Type 0 where
  pub alone : AreLawfulAlone seats
  pub settled : List SeatState
  pub met : AreMet seats settled
  pub whole : IsWholeHistory settled (longest_past settled)

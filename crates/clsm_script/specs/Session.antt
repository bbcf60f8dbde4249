-- The session of a script: seats of a store, one of them in use, and the records of their calls.
use Rattle.std.specs.Prelude.{◌≡◌, ℕ, ◌<◌, All, List, length}
use Rattle.clsm_model.specs.declared.record.CallRecord.{CallRecord}
use Rattle.clsm_audit.specs.Faults.{IsFirstFault}
use Rattle.clsm_audit.specs.Lawful.{calls_of}
use Rattle.clsm_audit.specs.declared.fault.FaultKind.{FaultKind}
use Rattle.clsm_store_calls.specs.Seats.{HasSizes, SeatState, StoreId}
use Rattle.clsm_store.specs.Headline.{IsAt}
use Rattle.clsm_script.specs.declared.session.Session.{Session}

-- it is the store's seat with this number, and its calls are those among the records that have the
-- number
pub record IsRecorded (of : StoreId) (records : List CallRecord) (place : ℕ)
    (seat : SeatState) : Type 0 where
  pub store : seat.store ≡ of
  pub number : seat.number ≡ place
  pub calls : calls_of records place ≡ seat.calls

-- each seat is the store's with the number of its place, and the records are all their calls
abbrev pub AreRecorded : StoreId → List CallRecord → List SeatState → Type 0
AreRecorded store records seats =
    (i : ℕ) (seat : SeatState) → IsAt seats i seat → IsRecorded store records i seat

-- its sizes are the store's, and its seats are all those of the store; one of them is in use, each
-- record is a call of one of them, and those of each seat are exactly its calls, in its own order
pub record IsSession (store : StoreId) (session : Session) : Type 0 where
  pub sizes : HasSizes store session.config
  pub count : length session.seats.items ≡ store.layout.seats
  pub used : session.used < length session.seats.items
  pub seats : AreRecorded store session.records session.seats.items
  pub known : All (λ r. r.seat < length session.seats.items) session.records

-- and an audit finds a fault in its records
pub record IsFaulted (store : StoreId) (session : Session) : Type 0 where
  pub of_store : IsSession store session
  pub kind : FaultKind
  pub index : ℕ
  pub fault : IsFirstFault session.config session.records kind index

-- What a session hands back, and why it hands nothing back.
use Rattle.std.specs.Prelude.{◌≡◌, ℕ, ◌<◌, ⊤, List, length, slice_index_or}
use Rattle.clsm_model.specs.declared.config.Config.{Config}
use Rattle.clsm_model.specs.Config.{IsSound}
use Rattle.clsm_store.specs.Headline.{IsAt}
use Rattle.clsm_store.specs.Meetings.{IsUnrecorded}
use Rattle.clsm_store.specs.Opening.{IsRefusal}
use Rattle.clsm_store_calls.specs.Seats.{SeatState, StoreId, newcomer}
use Rattle.clsm_session.specs.declared.refusal.SessionError.{SessionError}
use Rattle.clsm_session.specs.declared.refusal.SessionError.TheVariants.{Open, NoThread, Memory}

-- so many seats, all of this store, each at the place of its number
pub record AreAllSeats (store : StoreId) (count : ℕ) (seats : List SeatState) : Type 0 where
  pub counted : length seats ≡ count
  pub each : (i : ℕ) (s : SeatState) → IsAt seats i s → (s.store ≡ store) × (s.number ≡ i)

-- the answer says what a newcomer with this number did, whose seat was settled since
pub record IsDone {A : Type 0} (does : SeatState → SeatState → A → Type 0) (store : StoreId) (number : ℕ) (seat : SeatState) (answer : A) : Type 0 where
  pub ended : SeatState
  pub says : does (newcomer store number) ended answer
  pub settled : IsUnrecorded ended seat

-- and so each answer of the seat at its place
abbrev pub AreDone : {A : Type 0} → (SeatState → SeatState → A → Type 0) → StoreId → List SeatState → List A → Type 0
AreDone does store seats answers = (i : ℕ) (seat : SeatState) (answer : _) → IsAt seats i seat → i < length answers → slice_index_or answers i answer
    ≡ answer → IsDone does store i seat answer

-- the store was not opened, for this cause; or it was, and there was no thread or no memory
abbrev pub StopsSession : Config → SessionError → Type 0
StopsSession config (Open error) = IsRefusal config error
StopsSession config NoThread = IsSound config
StopsSession config Memory = IsSound config

-- why the work on an opened store ends with nothing
abbrev pub StopsWork : SessionError → Type 0
StopsWork (Open error) = ⊥
StopsWork NoThread = ⊤
StopsWork Memory = ⊤

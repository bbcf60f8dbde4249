-- The seats that a session deals, and gets back.
use Rattle.std.specs.Prelude.{◌≡◌, ℕ, ◌<◌, IfSome, List, length, slice_index_or, Option, Some}
use Rattle.clsm_store_calls.specs.Seats.{SeatState, StoreId}
use Rattle.clsm_session.specs.declared.worked.Worked.{Worked}

-- the seat has this place: it is one of this store, and has this number
abbrev pub HasPlace : Option StoreId → ℕ → SeatState → Type 0
HasPlace store number s = (Some s.store ≡ store) × (s.number ≡ number)

-- an epoch of the store has so many cells, where there is one
abbrev pub HasCells : Option StoreId → ℕ → Type 0
HasCells store cells = IfSome store (λ s. cells ≡ s.layout.cells)

-- the seat is given back, and the answer says what it did
pub record IsBack {A : Type 0} (does : SeatState → SeatState → A → Type 0) (old : SeatState) (done : Worked A) : Type 0 where
  pub store : done.seat.store ≡ old.store
  pub number : done.seat.number ≡ old.number
  pub says : does old done.seat done.answer

-- each of the seats is given back so, in their order
pub record AreBack {A : Type 0} (does : SeatState → SeatState → A → Type 0) (old : List SeatState) (done : List (Worked A)) : Type 0 where
  pub count : length done ≡ length old
  pub each : (i : ℕ) (s : SeatState) (w : Worked A) → i < length old → slice_index_or old i s ≡ s → slice_index_or done i w ≡ w → IsBack does s w

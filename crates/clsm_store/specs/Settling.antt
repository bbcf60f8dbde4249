-- How far the loops of settle have come.
use Rattle.std.specs.Prelude.{◌≡◌, ℕ, ◌<◌, ◌≤◌, List, length}
use Rattle.clsm_model.specs.History.{IsBeginning}
use Rattle.clsm_words.specs.Seats.{MessageState}
use Rattle.clsm_store.specs.Headline.{IsAt}
use Rattle.clsm_store.specs.Meetings.{IsConfirmedBy, IsLast, Meets, told_by}
use Rattle.clsm_store_calls.specs.Seats.{SeatState, StoreId, known_by}

-- the first `done` seats have told their dues
pub record HaveTold (store : StoreId) (seats : List SeatState) (message : MessageState) (done : ℕ) : Type 0 where
  pub table : message.table ≡ store.table
  pub dues : (i : ℕ) (s : SeatState) → i < done → IsAt seats i s → s.due ≤ message.heard

-- the message carries all that the seat knows, and its due is not above that of the message
pub record IsToldBy (message : MessageState) (s : SeatState) : Type 0 where
  pub due : s.due ≤ message.heard
  pub begins : IsBeginning (known_by s) (told_by message)

-- the first `done` seats have followed one another from the first message on
pub record HaveFollowed (store : StoreId) (first : MessageState) (old seats : List SeatState) (newest : MessageState) (done : ℕ) : Type 0 where
  pub table : newest.table ≡ store.table
  pub count : length seats ≡ length old
  pub above : first.heard ≤ newest.heard
  pub met : (i : ℕ) (s s' : SeatState) → i < done → IsAt old i s → IsAt seats i s' → Meets first.heard s s' × IsToldBy newest s'
  pub chained : (i j : ℕ) (s s' : SeatState) → i ≤ j → j < done → IsAt seats i s → IsAt seats j s' → (s.due ≤ s'.due) × IsBeginning (known_by s) (known_by s')
  pub rest : (i : ℕ) (s : SeatState) → done ≤ i → IsAt seats i s → IsAt old i s

-- the first `done` seats are confirmed by what the last one knows
abbrev pub HaveConfirmed : List SeatState → ℕ → Type 0
HaveConfirmed seats done = (i : ℕ) (s last : SeatState) → i < done → IsAt seats i s → IsLast seats last → IsConfirmedBy (known_by last) s

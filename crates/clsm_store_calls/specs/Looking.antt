-- Looks at how full an epoch is: by a caller's seat, and by the merger.
use Rattle.std.specs.Prelude.{◌≡◌, ℕ, ◌-◌, ◌*◌, ◌≤◌, Some}
use Rattle.clsm_law.specs.Views.{next_word}
use Rattle.clsm_words.specs.declared.known.Known.{Known}
use Rattle.clsm_store_calls.specs.Resting.{OnlyLooks}
use Rattle.clsm_store_calls.specs.Seats.{CleanState, MergerState, SeatState}
use Rattle.clsm_store_calls.specs.Tally.{Tally, tally_of}

-- the counts after one look at the limit, which found it here, and one at the clock
abbrev pub with_looks : Tally → ℕ → Tally
with_looks old limit = record old { clock_looks = next_word old.clock_looks; limit_looks = next_word old.limit_looks; limit = Some limit }

-- the seat looked once at the limit and once at the clock, and found so many times left: it is as
-- it was, but for what it looked at
pub record LooksForRoom (old new : Known) (left : ℕ) : Type 0 where
  pub only : OnlyLooks old new
  pub limit : ℕ
  pub tally : tally_of new ≡ with_looks (tally_of old) limit
  pub clock : ℕ
  pub looked : new.view.clock ≡ Some clock
  pub above : old.view.due ≤ clock
  pub left_is : left ≡ limit - clock

-- the same, as contracts see the seat
pub record FindsRoom (old new : SeatState) (left : ℕ) : Type 0 where
  pub limit : ℕ
  pub clock : ℕ
  pub same : new ≡ record old { clock = Some clock; tally = with_looks old.tally limit }
  pub above : old.due ≤ clock
  pub left_is : left ≡ limit - clock

-- how many times of the epoch were drawn, as the merger's last look at the clock found it while
-- nothing was frozen
abbrev pub drawn_of : MergerState → ℕ
drawn_of s = s.polled - s.merges * s.store.layout.cells

-- the merger is as it was, but that it looked at the clock, once, and what it found
abbrev pub PollsClock : CleanState → CleanState → Type 0
PollsClock old new = new ≡ record old { merger = record old.merger { polls = next_word old.merger.polls; polled = new.merger.polled } }

-- it tried the lock once and found it held, which is counted; else it is as it was
abbrev pub IsKeptOut : CleanState → CleanState → Type 0
IsKeptOut old new = new ≡ record old { merger = record old.merger { busy = next_word old.merger.busy } }

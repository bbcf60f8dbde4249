-- The steps of the merger, by cases in the order of the step's members. Beside its view, a step of
-- the merger knows some facts of the world.
use Rattle.std.specs.Prelude.{◌≡◌, ℕ, ◌+◌, ◌-◌, ◌*◌, ◌%◌, ◌<◌, ◌≤◌, ◌==◌, ◌&&◌, ◌||◌, Bool, true, false, not, cond, max, min, List, [], ◌++◌, length}
use Rattle.std.specs.Prelude.{replicate, slice_index_or, slice_set, Option, Some, None}
use Rattle.std.specs.List.{list_all}
use prog.Atomic.{either}
use Rattle.clsm_model.specs.declared.slot.Slot.{Slot}
use Rattle.clsm_model.specs.declared.slot.Slot.TheVariants.{Nothing}
use Rattle.clsm_levels.specs.declared.entry.Entry.{Entry}
use Rattle.clsm_levels.specs.Place.{target}
use Rattle.clsm_law.specs.declared.layout.Layout.{Layout}
use Rattle.clsm_law.specs.declared.word.Word.{Word}
use Rattle.clsm_law.specs.declared.word.Word.TheVariants.{Lock, Clock, Limit, Merged, Pin, Snap, Head, Order, State, Count, Entry as EntryWord}
use Rattle.clsm_law.specs.declared.step.Step.{Step}
use Rattle.clsm_law.specs.declared.step.Step.TheVariants.{EnterExclusive, LeaveExclusive, Look, Pad, WriteRun, ClearHead, ClearState, ClearOrder, Publish}
use Rattle.clsm_law.specs.declared.step.Step.TheVariants.{ExtendClock, ExtendLimit}
use Rattle.clsm_law.specs.declared.merger.MergerView.{MergerView}
use Rattle.clsm_law.specs.declared.merger.Phase.{Phase}
use Rattle.clsm_law.specs.declared.merger.Phase.TheVariants.{Clean, Frozen, Retired}
use Rattle.clsm_law.specs.declared.merger.Round.{Round}
use Rattle.clsm_law.specs.declared.merger.Reader.{Reader}
use Rattle.clsm_law.specs.Codes.{exclusive_hold, less, last_limit, cancelled_cell}
use Rattle.clsm_law.specs.Memory.{cell_of, region_of, room_of, is_word}
use Rattle.clsm_law.specs.Places.{number_of, is_named}
use Rattle.clsm_law.specs.Views.{next_word}
use Rattle.clsm_law.specs.Relation.{Chains, Orders, one_more_if}

-- what the merger knows of the world
pub record Facts : Type 0 where
  -- the next time to draw, while the merger holds the lock
  pub clock : ℕ
  -- the undrawn cells of the epoch are cancelled
  pub padded : Bool
  -- the heads of the retired region are 0
  pub headless : Bool
  -- so is the head of its ordered list
  pub orderless : Bool
  -- so are the states of its other cells, for each cell
  pub last : ℕ → Bool
  -- what the merge is to write, and how many entries, and what the target holds
  pub wanted : List Entry
  pub count : ℕ
  pub written : List Entry
  -- no word of the target says more than its entries
  pub canonical : Bool

-- ---- the merger at its beginning

-- a seat of which nothing is noted in this retirement
abbrev pub unseen : Reader
unseen = record { first_pin = None; quiet = false; looks = 0 }

-- the merger's view of a world that was just opened
abbrev pub opening : Layout → MergerView
opening z = record {
  phase = Clean;
  merged = 0;
  exclusive = false;
  holds = 0;
  busy = 0;
  padded = false;
  clock_extended = false;
  limit_extended = false;
  floor = 0;
  round = None;
  rounds = 0;
  noted = None;
  clock_looks = 0;
  clock_found = 0;
  merged_floor = 0;
  former_floor = 0;
  readers = replicate z.seats unseen;
}

-- ---- small words

-- nothing is frozen
abbrev pub is_clean : Phase → Bool
is_clean Clean = true
is_clean _ = false

-- an epoch is frozen and not yet merged
abbrev pub is_frozen : Phase → Bool
is_frozen Frozen = true
is_frozen _ = false

-- a component is retired: its epoch is merged, and the cells are not yet given up
abbrev pub is_retired : Phase → Bool
is_retired Retired = true
is_retired _ = false

-- nothing is frozen, and it does not hold the lock: so it is while it sees how full an epoch is
abbrev pub is_polling : MergerView → Bool
is_polling m = not m.exclusive && is_clean m.phase

-- the end of the epoch of the next merge
abbrev pub epoch_end : Layout → MergerView → ℕ
epoch_end z m = (m.merged + 1) * z.cells

-- each seat was found quiet
abbrev pub is_all_quiet : List Reader → Bool
is_all_quiet readers = list_all (λ r. r.quiet) readers

-- no freeze is half done
abbrev pub is_freeze_whole : MergerView → Bool
is_freeze_whole m = m.limit_extended || not (m.padded || m.clock_extended)

-- the region of the component that was retired
abbrev pub retired_region : MergerView → ℕ
retired_region m = (m.merged + 1) % 2

-- a word of a place of runs: the count, or a word of an entry
abbrev pub IsRunWord : Word → Type 0
IsRunWord (Count p) = Unit {0}
IsRunWord (EntryWord p e i) = Unit {0}
IsRunWord _ = ⊥

-- the place of such a word
abbrev pub place_of : Word → ℕ
place_of (Count p) = p
place_of (EntryWord p e i) = p
place_of _ = 0

-- the place that the next merge writes
abbrev pub target_of : MergerView → ℕ
target_of m = number_of (target m.merged)

-- ---- where a step is open to the merger

-- the merger with this view may make the step, in a world with these facts
abbrev pub IsOpenToMerger : Layout → Facts → MergerView → Step → Type 0
-- nothing is frozen, and it does not hold the lock
IsOpenToMerger z f m EnterExclusive = (is_clean m.phase ≡ true) × (m.exclusive ≡ false)
-- it holds the lock, and no freeze is half done
IsOpenToMerger z f m LeaveExclusive = (m.exclusive ≡ true) × (is_freeze_whole m ≡ true)
-- there is such a word
IsOpenToMerger z f m (Look word) = is_word z word ≡ true
-- it holds the lock, and t is an undrawn time of the epoch
IsOpenToMerger z f m (Pad t) = (m.exclusive ≡ true) × (f.clock ≤ t) × (t < epoch_end z m)
-- an epoch is frozen, and the word is of a place that no reader of the newest component searches
IsOpenToMerger z f m (WriteRun word x) = (is_frozen m.phase ≡ true) × IsRunWord word × (is_word z word ≡ true) × (is_named m.merged (place_of word) ≡ false)
-- a component is retired and all seats are quiet; the head is one of its region
IsOpenToMerger z f m (ClearHead region chain) = (is_retired m.phase ≡ true) × (is_all_quiet m.readers ≡ true) × (region ≡ retired_region m) × (chain < z.chains)
-- the same; the region is that one
IsOpenToMerger z f m (ClearOrder region) = (is_retired m.phase ≡ true) × (is_all_quiet m.readers ≡ true) × (region ≡ retired_region m)
-- the same; the cell is one of its region, whose heads are all 0, that of its list too
IsOpenToMerger z f m (ClearState cell) = (is_retired m.phase ≡ true) × (is_all_quiet m.readers ≡ true) × (cell < 2 * z.cells)
    × (region_of z cell ≡ retired_region m) × (f.headless ≡ true) × (f.orderless ≡ true)
-- an epoch is frozen, and its run is written: the entries that are wanted, within the room of the
-- place, and no word that says more
IsOpenToMerger z f m Publish = (is_frozen m.phase ≡ true) × (f.count ≤ room_of z (target_of m)) × (f.written ≡ f.wanted) × (f.canonical ≡ true)
-- it holds the lock, the undrawn cells of the epoch are cancelled, and the next epoch ends at the
-- last limit at most
IsOpenToMerger z f m ExtendClock = (m.exclusive ≡ true) × (f.padded ≡ true) × ((m.merged + 2) * z.cells ≤ last_limit)
-- it holds the lock, and has moved the clock in this hold; the bound is the same
IsOpenToMerger z f m ExtendLimit = (m.exclusive ≡ true) × (m.clock_extended ≡ true) × ((m.merged + 2) * z.cells ≤ last_limit)
-- the callers' steps are not open to it
IsOpenToMerger z f m _ = ⊥

-- ---- the word that the step is on

-- the word that the step loads or changes; LOCK stands for the callers' steps
abbrev pub word_of_merger : Layout → MergerView → Step → Word
-- the lock
word_of_merger z m EnterExclusive = Lock
word_of_merger z m LeaveExclusive = Lock
-- the word looked at
word_of_merger z m (Look word) = word
-- the state of the undrawn time's cell
word_of_merger z m (Pad t) = State (cell_of z t)
-- the word of the run
word_of_merger z m (WriteRun word x) = word
-- the head, of a chain or of a list, or the state
word_of_merger z m (ClearHead region chain) = Head region chain
word_of_merger z m (ClearOrder region) = Order region
word_of_merger z m (ClearState cell) = State cell
-- the number of merges
word_of_merger z m Publish = Merged
-- the clock, or the limit
word_of_merger z m ExtendClock = Clock
word_of_merger z m ExtendLimit = Limit
word_of_merger z m _ = Lock

-- ---- what the operation makes of the word

-- the word that the step leaves where it finds x
abbrev pub changed_by_merger : Layout → MergerView → Step → ℕ → ℕ
-- compare_exchange: the exclusive hold, where nobody holds the lock
changed_by_merger z m EnterExclusive x = either (x == 0) exclusive_hold x
-- fetch_sub of the same: no holder
changed_by_merger z m LeaveExclusive x = less exclusive_hold x
-- load
changed_by_merger z m (Look word) x = x
-- store: cancelled
changed_by_merger z m (Pad t) x = cancelled_cell
-- store
changed_by_merger z m (WriteRun word w) x = w
-- store 0: a chain or a list of no cells, and an empty state
changed_by_merger z m (ClearHead region chain) x = 0
changed_by_merger z m (ClearOrder region) x = 0
changed_by_merger z m (ClearState cell) x = 0
-- store: one merge more
changed_by_merger z m Publish x = m.merged + 1
-- store: the end of the epoch, and then of the next one
changed_by_merger z m ExtendClock x = (m.merged + 1) * z.cells
changed_by_merger z m ExtendLimit x = (m.merged + 2) * z.cells
changed_by_merger z m _ x = x

-- ---- the merger's view after the step

-- the lesser of two times, or the one that is there
abbrev pub least : Option ℕ → Option ℕ → Option ℕ
least None b = b
least (Some a) None = Some a
least (Some a) (Some b) = Some (min a b)

-- the time that a snapshot word notes
abbrev pub noted_time : ℕ → Option ℕ
noted_time x = cond (x == 0) None (Some (x - 1))

-- a look at the snapshot word of the seat i: it goes on with the round where the seat is next, and
-- else breaks it off
abbrev pub round_on : Option Round → ℕ → ℕ → Option Round
round_on None i x = None
round_on (Some r) i x = cond (r.next == i) (Some (record { next = i + 1; least = least r.least (noted_time x) })) None

-- the same; a look at the word of seat 0 begins a new round
abbrev pub round_by : Option Round → ℕ → ℕ → Option Round
round_by round i x = cond (i == 0) (Some (record { next = 1; least = noted_time x })) (round_on round i x)

-- the round passed all seats
abbrev pub is_whole : ℕ → Option Round → Bool
is_whole seats None = false
is_whole seats (Some r) = r.next == seats

-- the bound, or the time where that is there and less
abbrev pub lesser : ℕ → Option ℕ → ℕ
lesser bound None = bound
lesser bound (Some n) = min bound n

-- the least time noted in a round, or the bound where that is less
abbrev pub least_or : ℕ → Option Round → ℕ
least_or bound None = bound
least_or bound (Some r) = lesser bound r.least

-- a round that passed all seats is over
abbrev pub round_end : ℕ → Option Round → Option Round
round_end seats round = cond (is_whole seats round) None round

-- the floor after a look: a round that passed all seats takes it up to the least time noted, or to
-- the end of the epoch where that is less; it never falls
abbrev pub floor_by : Layout → MergerView → Option Round → ℕ
floor_by z m round = cond (is_whole z.seats round) (max m.floor (least_or (epoch_end z m) round)) m.floor

-- how many rounds passed all seats, with this one
abbrev pub rounds_by : Layout → MergerView → Option Round → ℕ
rounds_by z m round = cond (is_whole z.seats round) (next_word m.rounds) m.rounds

-- the least time noted in a round
abbrev pub least_noted : Option Round → Option ℕ
least_noted None = None
least_noted (Some r) = r.least

-- what the last whole round found noted, with this one
abbrev pub noted_by : Layout → MergerView → Option Round → Option ℕ
noted_by z m round = cond (is_whole z.seats round) (least_noted round) m.noted

-- the pin word differs from the one first noted in this retirement, where one was
abbrev pub differs : Option ℕ → ℕ → Bool
differs None x = false
differs (Some first) x = not (x == first)

-- the word first noted in this retirement, which is this one where none was
abbrev pub first_noted : Option ℕ → ℕ → Option ℕ
first_noted None x = Some x
first_noted (Some first) x = Some first

-- what is noted of a seat after a look at its pin word: quiet where that is even, or differs from
-- the one first noted, and from then on
abbrev pub reader_by : Reader → ℕ → Reader
reader_by r x = record { first_pin = first_noted r.first_pin x; quiet = r.quiet || x % 2 == 0 || differs r.first_pin x; looks = next_word r.looks }

-- what is noted of the seat i
abbrev pub reader_at : List Reader → ℕ → Reader
reader_at readers i = slice_index_or readers i unseen

-- what a look of the merger notes, by its word
abbrev pub merger_looked : Layout → MergerView → Word → ℕ → MergerView
-- while an epoch is frozen: a round goes on, and one that passed all seats gives the floor and is
-- counted
merger_looked z m (Snap i) x = let round = cond (is_frozen m.phase) (round_by m.round i x) m.round in record m {
  round = cond (is_frozen m.phase) (round_end z.seats round) m.round;
  floor = cond (is_frozen m.phase) (floor_by z m round) m.floor;
  rounds = cond (is_frozen m.phase) (rounds_by z m round) m.rounds;
  noted = cond (is_frozen m.phase) (noted_by z m round) m.noted;
}
-- while a component is retired: whether the seat is quiet
merger_looked z m (Pin i) x = record m { readers = cond (is_retired m.phase) (slice_set m.readers i (reader_by (reader_at m.readers i) x)) m.readers }
-- while nothing is frozen and outside a hold of the lock it is counted, and what it found is noted
merger_looked z m Clock x = record m {
  clock_looks = one_more_if (is_polling m) m.clock_looks;
  clock_found = cond (is_polling m) x m.clock_found;
}
-- of other words nothing is noted
merger_looked z m _ x = m

-- the merger's view after a step that found x, in a world with these facts
abbrev pub merger_after : Layout → Facts → MergerView → Step → ℕ → MergerView
-- won: the lock is held, which is counted; lost: that is counted
merger_after z f m EnterExclusive x = let won = x == 0 in record m {
  exclusive = cond won true m.exclusive;
  holds = one_more_if won m.holds;
  busy = one_more_if (not won) m.busy;
}
-- the lock is given back; where the limit was moved in the hold an epoch is frozen, no round of
-- looks has begun, and none found a time noted
merger_after z f m LeaveExclusive x = record m {
  exclusive = false;
  phase = cond m.limit_extended Frozen m.phase;
  round = cond m.limit_extended None m.round;
  noted = cond m.limit_extended None m.noted;
  padded = false;
  clock_extended = false;
  limit_extended = false;
}
-- what was found is noted
merger_after z f m (Look word) x = merger_looked z m word x
-- a cell is cancelled in this hold
merger_after z f m (Pad t) x = record m { padded = true }
-- the last state of the region ends the retirement
merger_after z f m (ClearState cell) x = record m { phase = cond (f.last cell) Clean m.phase }
-- one merge more: a component is retired, no seat is found quiet yet, the new runs have the floor,
-- and no round of looks has begun
merger_after z f m Publish x = record m {
  merged = m.merged + 1;
  phase = Retired;
  round = None;
  former_floor = m.merged_floor;
  merged_floor = m.floor;
  readers = replicate z.seats unseen;
}
-- the clock is moved in this hold, and then the limit
merger_after z f m ExtendClock x = record m { clock_extended = true }
merger_after z f m ExtendLimit x = record m { limit_extended = true }
-- to write a run or clear a head leaves the view as it is
merger_after z f m _ x = m

-- ---- the slots and the chains after the step

-- the times up to t that were never drawn come to nothing
abbrev pub passed_over : List (Option Slot) → ℕ → List (Option Slot)
passed_over slots t = slots ++ replicate (t - length slots) (Some Nothing)

-- the slots after a step: where the clock is moved, the undrawn times up to the end of the epoch
-- come to nothing
abbrev pub slots_after_merger : Layout → MergerView → List (Option Slot) → Step → List (Option Slot)
slots_after_merger z m slots ExtendClock = passed_over slots (epoch_end z m)
slots_after_merger z m slots _ = slots

-- the chain of one head is empty
abbrev pub emptied : Chains → ℕ → ℕ → Chains
emptied chains region chain r s = cond (r == region && s == chain) [] (chains r s)

-- the chains after a step: a head that is cleared leads to no cell
abbrev pub chains_after_merger : Chains → Step → Chains
chains_after_merger chains (ClearHead region chain) = emptied chains region chain
chains_after_merger chains _ = chains

-- the list of one region is empty
abbrev pub order_emptied : Orders → ℕ → Orders
order_emptied orders region r = cond (r == region) [] (orders r)

-- the lists after a step: one whose head is cleared has no cell
abbrev pub orders_after_merger : Orders → Step → Orders
orders_after_merger orders (ClearOrder region) = order_emptied orders region
orders_after_merger orders _ = orders

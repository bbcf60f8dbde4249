-- What the law and the steps say of a world's slots, views and words.
use Rattle.std.specs.Prelude.{ℕ, zero, suc, ◌+◌, ◌-◌, ◌*◌, ◌%◌, ◌==◌, ◌&&◌, ◌||◌, Bool, true, cond, nat_lt, List, map, take, slice_index_or, Option, None}
use Rattle.std.specs.Prelude.{unwrap_or}
use Rattle.clsm_model.specs.declared.batch.Batch.{Batch}
use Rattle.clsm_model.specs.declared.slot.Slot.{Slot}
use Rattle.clsm_model.specs.declared.slot.Slot.TheVariants.{Nothing}
use Rattle.clsm_model.specs.History.{History, plain}
use Rattle.clsm_levels.specs.declared.entry.Entry.{Entry}
use Rattle.clsm_levels.specs.Entry.{entries_of}
use Rattle.clsm_levels.specs.Merge.{wanted}
use Rattle.clsm_levels.specs.Place.{places, runs_at}
use Rattle.clsm_law.specs.declared.layout.Layout.{Layout}
use Rattle.clsm_law.specs.declared.word.Word.TheVariants.{Clock, Head, Order, State, Count, Entry as EntryWord}
use Rattle.clsm_law.specs.declared.view.View.{View}
use Rattle.clsm_law.specs.declared.merger.MergerView.{MergerView}
use Rattle.clsm_law.specs.Memory.{Memory, cell_of}
use Rattle.clsm_law.specs.Places.{held_at, entries_in}
use Rattle.clsm_law.specs.Views.{idle}
use Rattle.clsm_law.specs.Merging.{Facts, retired_region, epoch_end, target_of}

-- ---- the history of a world's slots

-- what the time came to; none where it is undecided or not drawn
abbrev pub outcome_at : List (Option Slot) → ℕ → Option Slot
outcome_at slots t = slice_index_or slots t None

-- an undecided slot reads as nothing
abbrev pub settled : List (Option Slot) → List Slot
settled slots = map (λ s. unwrap_or s Nothing) slots

-- the slots below the time p
abbrev pub past_of : List (Option Slot) → ℕ → History
past_of slots p = plain (take p (settled slots))

-- the same, with all batches: what a step asks of a seat's past
abbrev pub open_past : List (Option Slot) → List Batch → ℕ → History
open_past slots batches p = record { slots = take p (settled slots); batches = batches }

-- all slots as a history
abbrev pub history_of : List (Option Slot) → History
history_of slots = plain (settled slots)

-- ---- views

-- the view of the seat with this number
abbrev pub view_at : Layout → List View → ℕ → View
view_at z views i = slice_index_or views i (idle z)

-- ---- facts

-- the test passes at each of n numbers from a on
abbrev pub passes_from : (ℕ → Bool) → ℕ → ℕ → Bool
passes_from test a zero = true
passes_from test a (suc n) = test a && passes_from test (a + 1) n

-- the states of the undrawn times of the epoch are 1: a freeze cancelled them
abbrev pub is_padded : Layout → Memory → MergerView → Bool
is_padded z memory m = passes_from (λ t. memory (State (cell_of z t)) == 1) (memory Clock) (epoch_end z m - memory Clock)

-- the heads of the retired region are 0
abbrev pub is_headless : Layout → Memory → MergerView → Bool
is_headless z memory m = passes_from (λ chain. memory (Head (retired_region m) chain) == 0) 0 z.chains

-- the head of the retired region's ordered list is 0
abbrev pub is_orderless : Memory → MergerView → Bool
is_orderless memory m = memory (Order (retired_region m)) == 0

-- the states of the retired region are 0, except the cell's own
abbrev pub is_last : Layout → Memory → MergerView → ℕ → Bool
is_last z memory m cell = passes_from (λ other. other == cell || memory (State other) == 0) (retired_region m * z.cells) z.cells

-- the runs that the readers of the component search
abbrev pub runs_of : Memory → ℕ → List (List Entry)
runs_of memory component = runs_at (held_at memory) (places component)

-- the writes of the epoch, the newest first
abbrev pub epoch_of : Layout → List (Option Slot) → ℕ → List Entry
epoch_of z slots epoch = entries_of (settled slots) (epoch * z.cells) ((epoch + 1) * z.cells)

-- the length of a removal is 0, that of a value at most 8: the time word tells which
abbrev pub is_length : ℕ → ℕ → Bool
is_length spelled n = cond (spelled % 2 == 1) (n == 0) (nat_lt n 9)

-- the words of the entry behind its value are 0
abbrev pub is_ended : Memory → ℕ → ℕ → Bool
is_ended memory p i = passes_from (λ j. nat_lt j (memory (EntryWord p i 2)) || memory (EntryWord p i (3 + j)) == 0) 0 8

-- no word of the entry i of the place p says more than the entry
abbrev pub is_canonical : Memory → ℕ → ℕ → Bool
is_canonical memory p i = is_length (memory (EntryWord p i 1)) (memory (EntryWord p i 2)) && is_ended memory p i

-- and that is so of each entry of the place
abbrev pub are_canonical : Memory → ℕ → Bool
are_canonical memory p = passes_from (is_canonical memory p) 0 (memory (Count p))

-- what the merger's steps ask of a world with these words and slots
abbrev pub facts_of : Layout → Memory → MergerView → List (Option Slot) → Facts
facts_of z memory m slots = record {
  clock = memory Clock;
  padded = is_padded z memory m;
  headless = is_headless z memory m;
  orderless = is_orderless memory m;
  last = is_last z memory m;
  wanted = wanted m.merged m.floor (epoch_of z slots m.merged) (runs_of memory m.merged);
  count = memory (Count (target_of m));
  written = entries_in memory (target_of m);
  canonical = are_canonical memory (target_of m);
}

-- A seat's view: at its beginning, and what its fields say.
use Rattle.std.specs.Prelude.{◌≡◌, ℕ, ◌+◌, ◌*◌, ◌%◌, ◌^◌, ◌<◌, ◌≤◌, ◌&&◌, Bool, true, false, nat_lt, List, [], ◌∷◌, length, take, map, replicate, Option}
use Rattle.std.specs.Prelude.{Some, None, is_some}
use Rattle.clsm_model.specs.declared.slot.Slot.{Slot}
use Rattle.clsm_model.specs.declared.slot.Slot.TheVariants.{Wrote}
use Rattle.clsm_law.specs.declared.layout.Layout.{Layout}
use Rattle.clsm_law.specs.declared.view.View.{View}
use Rattle.clsm_law.specs.declared.view.Mode.{Mode}
use Rattle.clsm_law.specs.declared.view.Mode.TheVariants.{Free, Shared, Exclusive}
use Rattle.clsm_law.specs.declared.view.SnapshotState.TheVariants.{Absent}
use Rattle.clsm_law.specs.Codes.{exclusive_hold, value_cell, removal_cell}
use Rattle.clsm_law.specs.Memory.{cell_of, region_of}

-- ---- a seat at its beginning

-- n numbers none of which is there yet
abbrev pub blank : ℕ → List (Option ℕ)
blank n = replicate n None

-- the view of a seat that did nothing yet
abbrev pub idle : Layout → View
idle z = record {
  mode = Free;
  fresh_lock = None;
  fresh_clock = None;
  fresh_heads = blank (2 * z.chains);
  hold_limit = None;
  hold_clock = None;
  hold_first = None;
  drawn = None;
  key = None;
  length = None;
  words = blank 8;
  next = None;
  linked = false;
  order_next = None;
  inserted = false;
  fresh_link = None;
  met = 0;
  low = 0;
  high = 0;
  staged = [];
  committed = false;
  pin = 0;
  pinned = false;
  held = None;
  clock = None;
  pin_clock = None;
  snapshot = Absent;
  reached = 0;
  past = 0;
  due = 0;
  calls = [];
  entries = 0;
  busy = 0;
  raced = 0;
  overtaken = 0;
  gave_up = 0;
  cancelled = 0;
  waited = None;
  hasty = 0;
  clock_looks = 0;
  limit_looks = 0;
}

-- ---- small words

-- the number, or 0 where there is none
abbrev pub or_zero : Option ℕ → ℕ
or_zero None = 0
or_zero (Some t) = t

-- a word of 64 bits plus 1
abbrev pub next_word : ℕ → ℕ
next_word n = (n + 1) % 2 ^ 64

-- the number is there, and t is below it
abbrev pub IsBelow : ℕ → Option ℕ → Type 0
IsBelow t None = ⊥
IsBelow t (Some n) = t < n

-- the test of the same
abbrev pub is_below : ℕ → Option ℕ → Bool
is_below t None = false
is_below t (Some n) = nat_lt t n

-- the lock is not held
abbrev pub is_free : Mode → Bool
is_free Free = true
is_free _ = false

-- what the hold adds to LOCK: 1 where it is shared
abbrev pub hold_of : Mode → ℕ
hold_of Free = 0
hold_of Shared = 1
hold_of Exclusive = exclusive_hold

-- the lock is held exclusively
abbrev pub is_exclusive : Mode → Bool
is_exclusive Exclusive = true
is_exclusive _ = false

-- the place of a chain's head among the fresh heads
abbrev pub line_of : ℕ → ℕ → ℕ
line_of region chain = 2 * chain + region

-- ---- the drawn cell

-- the drawn time
abbrev pub own_time : View → ℕ
own_time v = or_zero v.drawn

-- the line of the drawn cell's chain
abbrev pub own_line : Layout → View → ℕ
own_line z v = line_of (region_of z (cell_of z (own_time v))) (or_zero v.key % z.chains)

-- its region, and its place in the ordered list
abbrev pub own_region : Layout → View → ℕ
own_region z v = region_of z (cell_of z (own_time v))

abbrev pub own_place : Layout → View → ℕ
own_place z v = cell_of z (own_time v) + 1

-- each of the numbers is there
abbrev pub is_all_some : List (Option ℕ) → Bool
is_all_some [] = true
is_all_some (o ∷ os) = is_some o && is_all_some os

-- the value as a cell holds it: how many words, and these; none of a removal
abbrev pub length_of : Option (List ℕ) → ℕ
length_of None = 0
length_of (Some words) = length words

-- a removal, or a value of one to eight words
abbrev pub IsShort : Option (List ℕ) → Type 0
IsShort None = Unit {0}
IsShort (Some words) = (1 ≤ length words) × (length words ≤ 8)

-- its words
abbrev pub words_of : Option (List ℕ) → List ℕ
words_of None = []
words_of (Some words) = words

-- the state of its cell
abbrev pub state_of : Option (List ℕ) → ℕ
state_of None = removal_cell
state_of (Some words) = value_cell

-- the filled parts say this write
abbrev pub SaysWrite : View → Option Slot → Type 0
SaysWrite v (Some (Wrote seat key written)) = (v.key ≡ Some key) × (v.length ≡ Some (length_of written))
    × (take (length_of written) v.words ≡ map (λ w. Some w) (words_of written)) × IsShort written
SaysWrite v _ = ⊥

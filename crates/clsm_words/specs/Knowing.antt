-- What a seat at the words knows: how it begins, what a step makes of it, and what each step tells
-- it.
use Rattle.std.specs.Prelude.{max, min, cond, true, false, ◌≡◌, ◌≢◌, ℕ, ◌+◌, ◌-◌, ◌*◌, ◌%◌, ◌<◌, ◌≤◌, ◌==◌, ◌&&◌, ◌||◌, ◌⊎◌, Bool, List, [], ◌∷◌, length}
use Rattle.std.specs.Prelude.{slice_index, slice_index_or, Option, Some, None}
use Rattle.std.specs.List.{AllByRecursion}
use Rattle.std.proofs.Common.{arith}
use Rattle.clsm_model.specs.declared.slot.Slot.{Slot}
use Rattle.clsm_model.specs.declared.slot.Slot.TheVariants.{Nothing, Wrote}
use Rattle.clsm_model.specs.declared.record.Deed.{Deed}
use Rattle.clsm_model.specs.declared.record.Deed.TheVariants.{Batch as Group}
use Rattle.clsm_model.specs.declared.record.CallRecord.{CallRecord}
use Rattle.clsm_model.specs.History.{History, AreInTurn, IsBeginning, IsListed, end_of, plain, slot_at}
use Rattle.clsm_levels.specs.Entry.{AreBelow}
use Rattle.clsm_levels.specs.Run.{IsExact, IsRun, all_of}
use Rattle.clsm_law.specs.declared.layout.Layout.{Layout}
use Rattle.clsm_law.specs.declared.word.Word.{Word}
use Rattle.clsm_law.specs.declared.word.Word.TheVariants.{Lock, Clock, Merged, Head, Cell, Order, State, Count, Entry}
use Rattle.clsm_law.specs.declared.word.Part.{Part}
use Rattle.clsm_law.specs.declared.word.Part.TheVariants.{Key, Length, Value, Next}
use Rattle.clsm_law.specs.declared.step.Step.{Step}
use Rattle.clsm_law.specs.declared.step.Step.TheVariants.{EnterExclusive, Link, Insert, Decide, Pin, Unpin, Look, RaiseFront}
use Rattle.clsm_law.specs.declared.view.View.{View}
use Rattle.clsm_law.specs.declared.view.Mode.TheVariants.{Free, Exclusive}
use Rattle.clsm_law.specs.Codes.{exclusive_hold, undecided_cell, cancelled_cell, value_cell, removal_cell, last_limit}
use Rattle.clsm_law.specs.Memory.{Memory, cell_of, region_of, link_at, is_word, room_of}
use Rattle.clsm_law.specs.Layout.{memory}
use Rattle.clsm_law.specs.Places.{is_named}
use Rattle.clsm_law.specs.Worlds.{are_canonical, runs_of}
use Rattle.clsm_law.specs.Keeping.{IsStillWalked}
use Rattle.clsm_law.specs.Law.{In, IsChain, Distinct, place_of_time}
use Rattle.clsm_law.specs.Views.{IsShort, own_region, idle, length_of, words_of, state_of}
use Rattle.clsm_law.specs.OpenSteps.{open_time, HoldsFrom, IsOpen}
use Rattle.clsm_law.specs.Relation.{Before, word_of, changed, view_after}
use Rattle.clsm_law.specs.Merging.{opening, IsRunWord, place_of}
use Rattle.clsm_law.specs.Machine.{opened}
use Rattle.clsm_model.specs.Seats.{FitsRecord, IsRecordIn, IsRightRecord, IsUncutRecord, HasWrite, IsRising}
use Rattle.clsm_law.specs.SeatBounds.{IsSmall, IsSmallFor}
use Rattle.clsm_law.specs.Raising.{MayRaise}
use Rattle.clsm_words.specs.declared.known.Known.{Known}
use Rattle.clsm_words.specs.declared.known.Spot.{Spot}

-- ---- seats, and what carries a past

-- the smallest layout: that of one who sees no word
abbrev pub least_layout : Layout
least_layout = record {
  cells = 4;
  seats = 1;
  chains = 1;
  run = 4;
  patience = 0;
  cells_in_range = (omega arith, omega arith);
  seats_in_range = (omega arith, omega arith);
  chains_in_range = (omega arith, omega arith);
  run_in_range = (omega arith, omega arith);
}

-- one that is no seat, has played nothing and was told nothing
abbrev pub nobody : Layout → ℕ → Known
nobody z number = record {
  seated = false;
  merges = false;
  number = number;
  dealt = 0;
  layout = z;
  view = idle z;
  merger = opening z;
  row = [];
  trail = [];
  spots = [];
  order = [];
  region = 0;
  chain = 0;
  floor = 0;
  past = [];
  batches = [];
  told = [];
  told_batches = [];
  heard = 0;
}

-- a caller's seat that has played nothing
abbrev pub unplayed : Layout → ℕ → Known
unplayed z number = record (nobody z number) { seated = true }

-- the merger's, which is the first of all and deals the others: its number is the number of the
-- callers' seats
abbrev pub new_merger : Layout → Known
new_merger z = record (nobody z z.seats) { merges = true; row = (opened z).words }

-- one seat more is dealt
abbrev pub deals : Known → Known
deals k = record k { dealt = k.dealt + 1 }

-- the beginning of the history that a seat knows, and the one that it was told
abbrev pub known_of : Known → History
known_of k = record { slots = k.past; batches = k.batches }

abbrev pub told_of : Known → History
told_of k = record { slots = k.told; batches = k.told_batches }

-- one that only carries a past and a due
abbrev pub messenger : History → ℕ → Known
messenger told heard = record (nobody least_layout 0) { told = told.slots; told_batches = told.batches; heard = heard }

-- a seat that takes in what another carries: its beginning of the history, and its due where that
-- is greater
abbrev pub learns : Known → Known → Known
learns k m = record k { told = m.told; told_batches = m.told_batches; heard = max k.heard m.heard }

-- ---- a seat's records and the history

-- the batch that the deed is at the time s, if it is one, is listed in the history, where it ends
-- within that
abbrev pub IsListedWithin : History → ℕ → Deed → Type 0
IsListedWithin h s (Group members) = s + length members ≤ end_of h → IsListed h.batches (record { first = s; size = length members })
IsListedWithin h s deed = Unit {0}

-- As far as the history goes: each record's writes stand in it, and each write in it with the
-- seat's number is of one of its records; no other number writes, and no write has more words than
-- a cell, nor a value none. No record read inside a batch of the history, and each batch that is a
-- record is listed
pub record Agrees (seats number : ℕ) (calls : List CallRecord) (h : History) : Type 0 where
  pub stand : AllByRecursion (IsRecordIn h.slots number) calls
  pub recorded : (t key : ℕ) (written : Option (List ℕ)) → t < end_of h → slot_at h t ≡ Wrote number key written
      → HasWrite number t (Wrote number key written) calls
  pub numbered : (t i key : ℕ) (written : Option (List ℕ)) → t < end_of h → slot_at h t ≡ Wrote i key written → i < seats
  pub short : (t i key : ℕ) (written : Option (List ℕ)) → t < end_of h → slot_at h t ≡ Wrote i key written → IsShort written
  pub uncut : AllByRecursion (IsUncutRecord h.batches) calls
  pub listed : AllByRecursion (λ r. IsListedWithin h r.time r.deed) calls

-- the step is open to the seat, which needs its own past for it, and raises the front to times
-- alone that are inside no batch
abbrev pub Opens : Known → Step → Type 0
Opens k (RaiseFront s) = IsOpen k.layout (plain k.past) k.view (RaiseFront s) × MayRaise k.view s
Opens k step = IsOpen k.layout (plain k.past) k.view step

-- a view has a place for each chain's head, and for eight words
pub record HasRows (z : Layout) (v : View) : Type 0 where
  pub heads : length v.fresh_heads ≡ 2 * z.chains
  pub words : length v.words ≡ 8

-- the words as its last step left them
abbrev pub row_of : Known → Memory
row_of k = memory k.layout k.row

-- What a reader may rely on, however far its past goes: runs of a component in order, of times that
-- are merged, whose values have at most eight words, which fit their places and say no more than
-- their entries. They are exact for the history from their floor on, to its end or that of what is
-- merged
pub record AreReadable (z : Layout) (memory : Memory) (h : History) (component floor : ℕ) : Type 0 where
  pub exact : IsExact (runs_of memory component) h floor (min (end_of h) (component * z.cells))
  pub order : AllByRecursion IsRun (runs_of memory component)
  pub older : AreBelow (component * z.cells) (all_of (runs_of memory component))
  pub short : AllByRecursion (λ e. IsShort e.value) (all_of (runs_of memory component))
  pub counts : (p : ℕ) → is_named component p ≡ true → memory (Count p) ≤ room_of z p
  pub canonical : (p : ℕ) → is_named component p ≡ true → are_canonical memory p ≡ true

-- what it may search while it holds the component c, whose two epochs its past is not beyond: runs
-- that it may rely on, whose floor is below the merged epochs and no open snapshot
pub record IsReading (k : Known) (c : ℕ) : Type 0 where
  pub below_merged : k.floor ≤ c * k.layout.cells
  pub near : length k.past ≤ (c + 2) * k.layout.cells
  pub below_snapshot : (s : ℕ) → open_time k.view.snapshot ≡ Some s → k.floor ≤ s
  pub runs : AreReadable k.layout (row_of k) (plain k.past) c k.floor

-- an epoch whose chains and list the seat may walk: that of the held component, and the next where
-- the seat's past is within it
abbrev pub IsHeldEpoch : Layout → Option ℕ → ℕ → ℕ → Type 0
IsHeldEpoch z None past e = ⊥
IsHeldEpoch z (Some m) past e = (e ≡ m) ⊎ ((e ≡ m + 1) × (e * z.cells < past))

-- the place is a spot of these, whose cell has the key
abbrev pub has_spot : List Spot → ℕ → ℕ → Bool
has_spot [] p key = false
has_spot (spot ∷ spots) p key = (spot.place == p && spot.key == key) || has_spot spots p key

abbrev pub HasSpot : List Spot → ℕ → ℕ → Type 0
HasSpot spots p key = has_spot spots p key ≡ true

-- the place is that of a cell, in the region of an epoch that the seat may walk
pub record IsCellPlace (k : Known) (p : ℕ) : Type 0 where
  pub epoch : ℕ
  pub walked : IsHeldEpoch k.layout k.view.held (length k.past) epoch
  pub some : p ≢ 0
  pub inside : p - 1 < 2 * k.layout.cells
  pub region : region_of k.layout (p - 1) ≡ epoch % 2

-- the place is that of a cell of the drawn one's region
pub record IsOwnPlace (k : Known) (p : ℕ) : Type 0 where
  pub inside : p - 1 < 2 * k.layout.cells
  pub region : region_of k.layout (p - 1) ≡ own_region k.layout k.view

-- the place's number in the list, from 1 on
abbrev pub rank_of : ℕ → List ℕ → ℕ
rank_of p [] = 0
rank_of p (q ∷ qs) = cond (q == p) 1 (rank_of p qs + 1)

-- the places of the old list stand in the new one, none further ahead
pub record Extends (old new : List ℕ) : Type 0 where
  pub stays : (p : ℕ) → In p old → In p new
  pub ranks : (p : ℕ) → In p old → rank_of p old ≤ rank_of p new

-- what a seat knows of itself: the words of its open steps are there, the numbers that these make
-- fit 64 bits, the batches of its past don't overlap, and none ends beyond it; its records are
-- right in its past and agree with it, each batch that it recorded fits an epoch, and their times
-- rise to its due, which is no time past the end; nothing is staged outside an exclusive hold of
-- the lock; its drawn time is in the epoch of the limit that it looked at in this hold of the lock,
-- and so is each place of the ordered list that it met, or found before or behind its drawn cell;
-- that list has no more places than an epoch cells; the time of its open snapshot is within its
-- past; what it may search; and that each spot is the place of a cell, with one key
pub record Sound (k : Known) : Type 0 where
  pub seated : k.seated ≡ true
  pub inside : k.number < k.layout.seats
  pub there : (step : Step) → Opens k step → is_word k.layout (word_of k.layout k.number k.view step) ≡ true
  pub small : (step : Step) → Opens k step → IsSmall k.layout step 0
  pub small_for : (step : Step) → Opens k step → IsSmallFor k.view step
  pub rows : HasRows k.layout k.view
  pub length_is : length k.past ≡ k.view.past
  pub in_turn : AreInTurn 0 k.batches (length k.past)
  pub agrees : Agrees k.layout.seats k.number k.view.calls (known_of k)
  pub right : AllByRecursion (IsRightRecord (plain k.past)) k.view.calls
  pub fits : AllByRecursion (FitsRecord k.layout.cells) k.view.calls
  pub rising : IsRising k.view.calls k.view.due (open_time k.view.snapshot)
  pub in_time : k.view.due ≤ last_limit
  pub unstaged : k.view.mode ≢ Exclusive → k.view.staged ≡ []
  pub own_region : (t limit : ℕ) → k.view.drawn ≡ Some t → k.view.hold_limit ≡ Some limit → region_of k.layout (cell_of k.layout (limit - 1))
      ≡ region_of k.layout (cell_of k.layout t)
  pub own_places : (p : ℕ) → k.view.drawn ≢ None → p ≢ 0 → (p ≡ k.view.met) ⊎ ((p ≡ k.view.low) ⊎ (p ≡ k.view.high)) → IsOwnPlace k p
  pub ranked : (p : ℕ) → k.view.drawn ≢ None → In p k.order → rank_of p k.order ≤ k.layout.cells
  pub opened : (s : ℕ) → open_time k.view.snapshot ≡ Some s → s ≤ k.view.past
  pub reads : (c : ℕ) → k.view.held ≡ Some c → IsReading k c
  pub spotted : (p key : ℕ) → HasSpot k.spots p key → IsCellPlace k p
  pub keyed : (p key other : ℕ) → HasSpot k.spots p key → HasSpot k.spots p other → key ≡ other

-- ---- what a step tells

-- the seat knows what the time came to, and holds a component that reaches down to it; and the cell
-- is the time's
abbrev pub IsKnownIn : Known → ℕ → ℕ → Type 0
IsKnownIn k cell t = (t < length k.past) × (cell_of k.layout t ≡ cell) × HoldsFrom k.layout k.view.held t

-- what the state of a decided time's cell is
abbrev pub code_of : Slot → ℕ
code_of Nothing = cancelled_cell
code_of (Wrote seat key written) = state_of written

-- what a part of a write's cell is
abbrev pub IsPartOf : Slot → Part → ℕ → Type 0
IsPartOf (Wrote seat key written) Key x = x ≡ key
IsPartOf (Wrote seat key written) Length x = x ≡ length_of written
IsPartOf (Wrote seat key written) (Value j) x = j < length_of written → x ≡ slice_index (words_of written) j
IsPartOf _ _ x = Unit {0}

-- the time is none before the held component, and none behind the epoch after it
abbrev pub IsNearHeld : Layout → Option ℕ → ℕ → Type 0
IsNearHeld z None x = Unit {0}
IsNearHeld z (Some m) x = (m * z.cells ≤ x) × (x ≤ (m + 2) * z.cells)

-- in a hold of the lock the clock is at most the limit that was looked at
abbrev pub IsInLimit : Known → ℕ → Type 0
IsInLimit k x = (limit : ℕ) → k.view.mode ≢ Free → k.view.hold_limit ≡ Some limit → x ≤ limit

-- nobody else holds the lock: its word is that of one exclusive hold; and each time below the clock
-- whose epoch is not merged is decided
pub record HoldsAlone (k : Known) : Type 0 where
  pub lock : row_of k Lock ≡ exclusive_hold
  pub decided : (t : ℕ) → row_of k Merged * k.layout.cells ≤ t → t < row_of k Clock → row_of k (State (cell_of k.layout t)) ≢ undecided_cell

-- what a step that found x tells the seat
abbrev pub Tells : Step → Known → ℕ → Type 0
Tells (Look Lock) k x = x ≤ exclusive_hold
Tells (Look Clock) k x = (k.view.due ≤ x) × (length k.told ≤ x) × (k.heard ≤ x) × IsNearHeld k.layout k.view.held x × IsInLimit k x × (k.view.past ≤ x)
Tells (Look (State cell)) k x = (t : ℕ) → IsKnownIn k cell t → x ≡ code_of (slice_index_or k.past t Nothing)
Tells (Look (Cell cell part)) k x = (t : ℕ) → IsKnownIn k cell t → IsPartOf (slice_index_or k.past t Nothing) part x
Tells (Look (Count place)) k x = x ≡ row_of k (Count place)
Tells (Look (Entry place entry part)) k x = x ≡ row_of k (Entry place entry part)
Tells EnterExclusive k x = x ≡ 0 → HoldsAlone k
Tells (Link head) k x = k.view.mode ≡ Exclusive → x ≡ head
Tells (Insert p next) k x = k.view.mode ≡ Exclusive → x ≡ next
Tells (Decide t deed) k x = k.view.mode ≡ Exclusive → x ≡ undecided_cell
Tells _ k x = Unit {0}

-- ---- chains and runs

-- the word leads to the first of the times
abbrev pub LeadsTo : Layout → ℕ → List ℕ → Type 0
LeadsTo z x [] = x ≡ 0
LeadsTo z x (t ∷ ts) = x ≡ cell_of z t + 1

-- the seat's trail is a chain of the epoch e and the chain, to which the word x leads: in it stands
-- each write of the past with a key of the chain
pub record IsTrail (k : Known) (e chain x : ℕ) : Type 0 where
  pub leads : LeadsTo k.layout x k.trail
  pub distinct : Distinct k.trail
  pub inside : (t : ℕ) → In t k.trail → (e * k.layout.cells ≤ t) × (t < (e + 1) * k.layout.cells)
  pub standing : (t i key : ℕ) (written : Option (List ℕ)) → e * k.layout.cells ≤ t → t < (e + 1) * k.layout.cells → t < length k.past
      → slice_index_or k.past t Nothing ≡ Wrote i key written → key % k.layout.chains ≡ chain → In t k.trail

-- what a step that found x makes of the trail: a look at a head begins it, one at the NEXT of its
-- first cell goes on
abbrev pub Walks : Step → Known → ℕ → Known → Type 0
Walks (Look (Head region chain)) k x k' = (e : ℕ) → IsHeldEpoch k.layout k.view.held (length k.past) e → region ≡ e % 2 → IsTrail k' e chain x
Walks (Look (Cell cell Next)) k x k' = (t : ℕ) (rest : List ℕ) → k.trail ≡ t ∷ rest → cell_of k.layout t ≡ cell → (k'.trail ≡ rest) × LeadsTo k.layout x rest
Walks Pin k x k' = Unit {0}
Walks (Unpin end) k x k' = Unit {0}
Walks _ k x k' = k'.trail ≡ k.trail

-- a word of the runs that the holder of the component c searches
abbrev pub IsNamedWord : ℕ → Word → Type 0
IsNamedWord c word = IsRunWord word × (is_named c (place_of word) ≡ true)

-- while it holds the component, the runs stay
abbrev pub KeepsRuns : Known → Known → Type 0
KeepsRuns k k' = (c : ℕ) → k.view.held ≡ Some c → k'.view.held ≡ Some c → (k'.floor ≡ k.floor)
    × ((word : Word) → IsNamedWord c word → row_of k' word ≡ row_of k word)

-- a word of the cell of a time that it knows, of the component that it holds: the state, and where
-- the time is a write's each other word
abbrev pub IsKnownWord : Known → Word → Type 0
IsKnownWord k (State cell) = (t : ℕ) × IsKnownIn k cell t
IsKnownWord k (Cell cell part) = (t : ℕ) × IsKnownIn k cell t × (slice_index_or k.past t Nothing ≢ Nothing)
IsKnownWord k _ = ⊥

-- while it holds the component, these words stay
abbrev pub KeepsCells : Known → Known → Type 0
KeepsCells k k' = (c : ℕ) → k.view.held ≡ Some c → k'.view.held ≡ Some c → (word : Word) → IsKnownWord k word → row_of k' word ≡ row_of k word

-- each way along a chain of the region is still an end of one: the chains grew at their heads alone
abbrev pub LeadsOn : Layout → Memory → Memory → ℕ → Type 0
LeadsOn z old new region = (chain : ℕ) (way : List ℕ) → chain < z.chains → IsChain z old (old (Head region chain)) way
    → IsStillWalked z new (new (Head region chain)) way

-- and that is so of the region of each time that it knows, while it holds the component
abbrev pub KeepsWays : Known → Known → Type 0
KeepsWays k k' = (c : ℕ) → k.view.held ≡ Some c → k'.view.held ≡ Some c → (cell t : ℕ) → IsKnownIn k cell t
    → LeadsOn k.layout (row_of k) (row_of k') (region_of k.layout cell)

-- ---- ordered lists

-- the place in the list of the epoch is the one before the first cell, or a spot of the seat's with
-- this key, in the epoch's region
abbrev pub IsReached : Known → ℕ → ℕ → ℕ → Type 0
IsReached k e p key = (p ≡ 0) ⊎ (HasSpot k.spots p key × (region_of k.layout (p - 1) ≡ e % 2))

-- the place q with the other key is behind the place p, where that is a cell's
abbrev pub IsBehind : ℕ → ℕ → ℕ → ℕ → Type 0
IsBehind p key q other = p ≢ 0 → Before key p other q

-- what the link behind p led to is a spot of the seat's with the key next, of the epoch's region
-- and behind p
pub record IsSpotBehind (k : Known) (e p key x next : ℕ) : Type 0 where
  pub spot : HasSpot k.spots x next
  pub inside : x - 1 < 2 * k.layout.cells
  pub region : region_of k.layout (x - 1) ≡ e % 2
  pub behind : IsBehind p key x next

-- between p and what the link behind it led to stands no write of the past's: each one of the epoch
-- that is behind p is that one, or behind it; and where it led to none, there is none
abbrev pub IsGapBehind : Known → ℕ → ℕ → ℕ → ℕ → ℕ → Type 0
IsGapBehind k e p key x next = (t i other : ℕ) (written : Option (List ℕ)) → e * k.layout.cells ≤ t → t < (e + 1) * k.layout.cells → t < length k.past
    → slice_index_or k.past t Nothing ≡ Wrote i other written
    → IsBehind p key (place_of_time k.layout t) other → (x ≢ 0) × (((x ≡ place_of_time k.layout t) × (next ≡ other))
    ⊎ Before next x other (place_of_time k.layout t))

-- the same two of a link that led to x, which is 0 at the list's end
pub record IsNextOf (k : Known) (e p key x : ℕ) : Type 0 where
  pub next : ℕ
  pub spot : x ≢ 0 → IsSpotBehind k e p key x next
  pub gap : IsGapBehind k e p key x next

-- What a step that found x tells of the ordered lists of the epochs that the seat may walk. A look
-- at the link behind a place that it reached tells what is next there; one at the state of a
-- written cell, that it is a spot; and one at the key of a spot finds the spot's.
abbrev pub TellsOrder : Step → Known → ℕ → Known → Type 0
TellsOrder (Look (Order link)) k x k' = (e p key : ℕ) → IsHeldEpoch k.layout k.view.held (length k.past) e → link ≡ link_at (e % 2) p → IsReached k e p key
    → IsNextOf k' e p key x
TellsOrder (Look (State cell)) k x k' = (e : ℕ) → IsHeldEpoch k.layout k.view.held (length k.past) e → cell < 2 * k.layout.cells → region_of k.layout cell
    ≡ e % 2 → (x ≡ value_cell) ⊎ (x ≡ removal_cell) → (key : ℕ) × HasSpot k'.spots (cell + 1) key
TellsOrder (Look (Cell cell Key)) k x k' = (key : ℕ) → HasSpot k.spots (cell + 1) key → x ≡ key
TellsOrder _ k x k' = Unit {0}

-- looks at links and states may add spots, and a pin and an unpin clear them; all else leaves them
abbrev pub LeavesSpots : Step → Known → Known → Type 0
LeavesSpots (Look (Order link)) k k' = Unit {0}
LeavesSpots (Look (State cell)) k k' = Unit {0}
LeavesSpots Pin k k' = Unit {0}
LeavesSpots (Unpin end) k k' = Unit {0}
LeavesSpots _ k k' = k'.spots ≡ k.spots

-- each spot of the first is one of the second
pub record HasSpotsOf (k k' : Known) : Type 0 where
  pub each : (p key : ℕ) → HasSpot k.spots p key → HasSpot k'.spots p key

-- while it holds the component, its spots stay
abbrev pub KeepsSpots : Known → Known → Type 0
KeepsSpots k k' = (c : ℕ) → k.view.held ≡ Some c → k'.view.held ≡ Some c → HasSpotsOf k k'

-- the place stands in the list of the drawn cell, behind the place p
pub record IsAlong (k k' : Known) (p x : ℕ) : Type 0 where
  pub stands : In x k'.order
  pub behind : In p k.order → rank_of p k.order < rank_of x k'.order

-- what a step that found x tells of the list of the drawn cell: a look at the link behind the last
-- place before that cell, or at the list's head, leads on in the list
abbrev pub TellsAlong : Step → Known → ℕ → Known → Type 0
TellsAlong (Look (Order link)) k x k' = (p : ℕ) → k.view.drawn ≢ None → link ≡ link_at (own_region k.layout k.view) p → (p ≡ 0) ⊎ (p ≡ k.view.low) → x ≢ 0
    → IsAlong k k' p x
TellsAlong _ k x k' = Unit {0}

-- it is the seat that it was, dealt no other, and was told nothing more
pub record KeepsSelf (old new : Known) : Type 0 where
  pub number : new.number ≡ old.number
  pub dealt : new.dealt ≡ old.dealt
  pub layout : new.layout ≡ old.layout
  pub told : new.told ≡ old.told
  pub told_batches : new.told_batches ≡ old.told_batches
  pub heard : new.heard ≡ old.heard

-- the seat after a step that found x: its view is the machine's, the step's word became what the
-- step makes of it, and its past only grows, and stays where the view's past does. What it was told
-- and its past are beginnings of one history, with which its records agree. While it has a drawn
-- time that is neither decided nor given up, the clock is at most one epoch's length past that
pub record Follows (step : Step) (k : Known) (x : ℕ) (k' : Known) : Type 0 where
  pub self : KeepsSelf k k'
  pub open self use *
  pub view : k'.view ≡ view_after k.layout k.number k.view step x
  pub made : row_of k' (word_of k.layout k.number k.view step) ≡ changed k.layout k.view step x
  pub longer : IsBeginning (known_of k) (known_of k')
  pub same : k'.view.past ≡ k.view.past → (k'.past ≡ k.past) × (k'.batches ≡ k.batches)
  pub reaches : length k.told ≤ length k'.past → IsBeginning (told_of k) (known_of k')
  pub within : length k'.past ≤ length k.told → IsBeginning (known_of k') (told_of k)
  pub agrees : Agrees k'.layout.seats k'.number k'.view.calls (told_of k)
  pub clock : (t : ℕ) → k'.view.drawn ≡ Some t → row_of k' Clock ≤ t + k.layout.cells
  pub tells : Tells step k' x
  pub walks : Walks step k x k'
  pub runs : KeepsRuns k k'
  pub cells : KeepsCells k k'
  pub ways : KeepsWays k k'
  pub order : TellsOrder step k x k'
  pub leaves : LeavesSpots step k k'
  pub spots : KeepsSpots k k'
  pub extends : k.view.drawn ≢ None → k'.view.drawn ≡ k.view.drawn → Extends k.order k'.order
  pub along : TellsAlong step k x k'
  pub sound : Sound k'

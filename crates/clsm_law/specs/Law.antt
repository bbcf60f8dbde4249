-- The law of a world: what every open step keeps, each clause over the few functions it names.
use Rattle.std.specs.Prelude.{◌≡◌, ◌≢◌, ℕ, ◌+◌, ◌-◌, ◌*◌, ◌%◌, ◌<◌, ◌≤◌, ◌&&◌, ◌||◌, ◌⊎◌, Bool, true, false, not, cond, List, [], ◌∷◌, length, slice_index}
use Rattle.std.specs.Prelude.{slice_index_or, Option, Some, None, is_some}
use Rattle.std.specs.List.{AllByRecursion, sum_by}
use Rattle.clsm_model.specs.declared.batch.Batch.{Batch}
use Rattle.clsm_model.specs.declared.slot.Slot.{Slot}
use Rattle.clsm_model.specs.declared.slot.Slot.TheVariants.{Nothing, Wrote}
use Rattle.clsm_model.specs.declared.record.CallRecord.{CallRecord}
use Rattle.clsm_model.specs.History.{History, IsUncut, AreInTurn}
use Rattle.clsm_levels.specs.Content.{IsContent}
use Rattle.clsm_levels.specs.Place.{AreWithin}
use Rattle.clsm_law.specs.declared.layout.Layout.{Layout}
use Rattle.clsm_law.specs.declared.word.Word.TheVariants.{Lock, Clock, Limit, Front, Merged, Pin, Snap, Head, Cell, Order, State, Count}
use Rattle.clsm_law.specs.declared.word.Part.{Part}
use Rattle.clsm_law.specs.declared.word.Part.TheVariants.{Key, Length, Value, Next}
use Rattle.clsm_law.specs.declared.view.View.{View}
use Rattle.clsm_law.specs.declared.view.FreshLink.{FreshLink}
use Rattle.clsm_law.specs.declared.view.Mode.{Mode}
use Rattle.clsm_law.specs.declared.view.Mode.TheVariants.{Free, Exclusive}
use Rattle.clsm_law.specs.declared.view.SnapshotState.{SnapshotState}
use Rattle.clsm_law.specs.declared.view.SnapshotState.TheVariants.{Absent, Noted, Timed, Open}
use Rattle.clsm_law.specs.declared.merger.MergerView.{MergerView}
use Rattle.clsm_law.specs.declared.merger.Round.{Round}
use Rattle.clsm_law.specs.Codes.{exclusive_hold, last_limit}
use Rattle.clsm_law.specs.Memory.{Memory, cell_of, region_of, link_at, link_of, key_at, room_of}
use Rattle.clsm_law.specs.Places.{is_named, held_at}
use Rattle.clsm_law.specs.Views.{IsShort, hold_of, is_exclusive, length_of, line_of, words_of, state_of}
use Rattle.clsm_law.specs.OpenSteps.{open_time}
use Rattle.clsm_law.specs.Relation.{Chains, Orders, Before}
use Rattle.clsm_law.specs.Merging.{is_clean, is_frozen, is_retired, is_all_quiet, reader_at, epoch_end}
use Rattle.clsm_model.specs.Seats.{IsRightRecord, IsStandingRecord, HasWrite, IsRising}
use Rattle.clsm_law.specs.Batches.{AreFitting, AreListed, AreStaging, AreUncut, AreUncutNotes, AreUncutPasts, AreUncutSnapshots, IsWritten}
use Rattle.clsm_law.specs.Worlds.{view_at, outcome_at, past_of, history_of, runs_of, are_canonical}

-- ---- the functions that the clauses name

-- a field of each view
abbrev pub each : {A : Type 0} → Layout → (View → A) → List View → ℕ → A
each z f views i = f (view_at z views i)

-- a part of the drawn cell, where the seat has filled it
abbrev pub part_of : View → Part → Option ℕ
part_of v Key = v.key
part_of v Length = v.length
part_of v (Value j) = slice_index_or v.words j None
part_of v Next = v.next

-- what a seat adds to LOCK
abbrev pub holders : View → ℕ
holders v = hold_of v.mode

-- the times from the clock on that a seat has taken for its batch: those of the members that are
-- decided, and of the one that it writes
abbrev pub taken_by : View → ℕ
taken_by v = cond (is_exclusive v.mode) (length v.staged + cond (is_some v.drawn) 1 0) 0

-- readers may still hold the retired component
abbrev pub is_held_back : MergerView → Bool
is_held_back m = is_retired m.phase && not (is_all_quiet m.readers)

-- the first time whose cell still shows its slot
abbrev pub first_shown : Layout → MergerView → ℕ
first_shown z m = cond (is_held_back m) ((m.merged - 1) * z.cells) (m.merged * z.cells)

-- the first of the 2N times that have the cells
abbrev pub first_live : Layout → MergerView → ℕ
first_live z m = cond (is_retired m.phase) ((m.merged - 1) * z.cells) (m.merged * z.cells)

-- the first time that may not be drawn: the end of the epoch that is written, which is the next one
-- as soon as a freeze moved the limit
abbrev pub first_free : Layout → MergerView → ℕ
first_free z m = cond (is_frozen m.phase || m.limit_extended) ((m.merged + 2) * z.cells) ((m.merged + 1) * z.cells)

-- ---- lists of times

-- the time stands in the list
abbrev pub In : ℕ → List ℕ → Type 0
In t [] = ⊥
In t (u ∷ us) = (u ≡ t) ⊎ In t us

-- no time stands twice in the list
abbrev pub Distinct : List ℕ → Type 0
Distinct [] = Unit {0}
Distinct (u ∷ us) = (¬ In u us) × Distinct us

-- ---- the clauses

-- each slot below the time is decided
abbrev pub IsDecidedBelow : (ℕ → Option Slot) → ℕ → Type 0
IsDecidedBelow slot bound = (t : ℕ) → t < bound → slot t ≢ None

-- each slot below a bound that the seat has is decided
abbrev pub AreDecidedBelow : (ℕ → Option Slot) → (ℕ → ℕ) → Type 0
AreDecidedBelow slot bound = (i t : ℕ) → t < bound i → slot t ≢ None

-- while the merger holds the lock no caller does
abbrev pub IsLockedOut : Bool → (ℕ → Mode) → Type 0
IsLockedOut exclusive mode = exclusive ≡ true → (i : ℕ) → mode i ≡ Free

-- while a caller holds the lock exclusively no other does
abbrev pub AreSole : (ℕ → Mode) → Type 0
AreSole mode = (i j : ℕ) → mode i ≡ Exclusive → j ≢ i → mode j ≡ Free

-- who has drawn a time holds the lock
abbrev pub AreHolding : (ℕ → Option ℕ) → (ℕ → Mode) → Type 0
AreHolding drawn mode = (i t : ℕ) → drawn i ≡ Some t → mode i ≢ Free

-- a drawn time is of the current epoch, and undecided, or another seat cancelled it
abbrev pub ArePending : Layout → ℕ → (ℕ → Option ℕ) → ℕ → (ℕ → Option Slot) → Type 0
ArePending z limit drawn clock slot = (i t : ℕ) → drawn i ≡ Some t → (limit ≤ t + z.cells) × (t < clock) × ((slot t ≡ None) ⊎ (slot t ≡ Some Nothing))

-- an undecided time has an owner
abbrev pub AreOwned : (ℕ → Option ℕ) → ℕ → (ℕ → Option Slot) → Type 0
AreOwned drawn clock slot = (t : ℕ) → t < clock → slot t ≡ None → (i : ℕ) × (drawn i ≡ Some t)

-- and no more than one
abbrev pub AreAlone : (ℕ → Option ℕ) → Type 0
AreAlone drawn = (i j t : ℕ) → drawn i ≡ Some t → drawn j ≡ Some t → i ≡ j

-- a part that is filled equals the word
abbrev pub AreFilled : Layout → Memory → (ℕ → Option ℕ) → (ℕ → Part → Option ℕ) → Type 0
AreFilled z memory drawn part = (i t w : ℕ) (p : Part) → drawn i ≡ Some t → part i p ≡ Some w → memory (Cell (cell_of z t) p) ≡ w

-- no write has more words than a cell, and a value has at least one
abbrev pub AreShort : (ℕ → Option Slot) → Type 0
AreShort slot = (t i key : ℕ) (written : Option (List ℕ)) → slot t ≡ Some (Wrote i key written) → IsShort written

-- the cell shows what its time came to
abbrev pub Shows : Memory → ℕ → Option Slot → Type 0
Shows memory c None = memory (State c) ≡ 0
Shows memory c (Some Nothing) = memory (State c) ≡ 1
Shows memory c (Some (Wrote i key written)) = (memory (State c) ≡ state_of written) × (memory (Cell c Key) ≡ key)
    × (memory (Cell c Length) ≡ length_of written) × ((j : ℕ) → j < length_of written → memory (Cell c (Value j)) ≡ slice_index (words_of written) j)

-- each cell from the first time shown on shows what its time came to
abbrev pub AreShown : Layout → Memory → ℕ → ℕ → (ℕ → Option Slot) → Type 0
AreShown z memory first clock slot = (t : ℕ) → first ≤ t → t < clock → Shows memory (cell_of z t) (slot t)

-- the cell of an undrawn time is empty; a freeze cancels those of its epoch
abbrev pub AreEmpty : Layout → Memory → Bool → ℕ → ℕ → ℕ → Type 0
AreEmpty z memory padded clock epoch_end end = (t : ℕ) → clock ≤ t → t < end → (memory (State (cell_of z t)) ≡ 0)
    ⊎ ((padded ≡ true) × (t < epoch_end) × (memory (State (cell_of z t)) ≡ 1))

-- from the word h on, the words NEXT lead through the cells of these times, and end
abbrev pub IsChain : Layout → Memory → ℕ → List ℕ → Type 0
IsChain z memory h [] = h ≡ 0
IsChain z memory h (t ∷ ts) = (h ≡ cell_of z t + 1) × IsChain z memory (memory (Cell (cell_of z t) Next)) ts

-- from each head the words NEXT lead through the cells of its chain and end
abbrev pub AreChained : Layout → Memory → Chains → Type 0
AreChained z memory chains = (r s : ℕ) → r < 2 → s < z.chains → IsChain z memory (memory (Head r s)) (chains r s)

-- a chain holds drawn times of the epoch in its region, whose keys are of its chain
pub record IsIn (z : Layout) (memory : Memory) (first clock r s t : ℕ) : Type 0 where
  pub live : first ≤ t
  pub drawn : t < clock
  pub region : region_of z (cell_of z t) ≡ r
  pub chain : memory (Cell (cell_of z t) Key) % z.chains ≡ s

-- and that is so of each time in each chain
abbrev pub AreIn : Layout → Memory → ℕ → ℕ → Chains → Type 0
AreIn z memory first clock chains = (r s t : ℕ) → In t (chains r s) → IsIn z memory first clock r s t

-- no time stands twice in a chain
abbrev pub AreOnce : Chains → Type 0
AreOnce chains = (r s : ℕ) → Distinct (chains r s)

-- the time stands in the chain of the key
abbrev pub IsLinkedAt : Layout → Chains → ℕ → ℕ → Type 0
IsLinkedAt z chains t key = In t (chains (region_of z (cell_of z t)) (key % z.chains))

-- each write from the first time shown on stands in the chain of its key
abbrev pub AreStanding : Layout → ℕ → (ℕ → Option Slot) → Chains → Type 0
AreStanding z first slot chains = (t i key : ℕ) (written : Option (List ℕ)) → first ≤ t → slot t ≡ Some (Wrote i key written) → IsLinkedAt z chains t key

-- a drawn time whose cell is linked stands in the chain of the key that was filled
abbrev pub AreLinked : Layout → (ℕ → Option ℕ) → (ℕ → Option ℕ) → (ℕ → Bool) → Chains → Type 0
AreLinked z drawn key linked chains = (i t : ℕ) → drawn i ≡ Some t → linked i ≡ true → (k : ℕ) × (key i ≡ Some k) × IsLinkedAt z chains t k

-- a drawn time whose cell is not linked stands in no chain
abbrev pub AreLoose : (ℕ → Option ℕ) → (ℕ → Bool) → Chains → Type 0
AreLoose drawn linked chains = (i t : ℕ) → drawn i ≡ Some t → linked i ≡ false → (r s : ℕ) → ¬ In t (chains r s)

-- from the place p on, the links lead through these places, and end
abbrev pub Leads : (ℕ → ℕ) → ℕ → List ℕ → Type 0
Leads link p [] = link p ≡ 0
Leads link p (t ∷ ts) = (link p ≡ t) × Leads link t ts

-- from each region's head the links lead through its list and end
abbrev pub AreOrdered : Memory → Orders → Type 0
AreOrdered memory orders = (r : ℕ) → r < 2 → Leads (link_of memory r) 0 (orders r)

-- a place is before those of the list, by its key and its number
abbrev pub IsBeforeAll : (ℕ → ℕ) → ℕ → List ℕ → Type 0
IsBeforeAll key t list = (u : ℕ) → In u list → Before (key t) t (key u) u

-- and so is each place of the list before those behind it
abbrev pub Rising : (ℕ → ℕ) → List ℕ → Type 0
Rising key [] = Unit {0}
Rising key (t ∷ ts) = IsBeforeAll key t ts × Rising key ts

-- each list rises by key, and within a key by place
abbrev pub AreSorted : Memory → Orders → Type 0
AreSorted memory orders = (r : ℕ) → Rising (key_at memory) (orders r)

-- the place of a time's cell
abbrev pub place_of_time : Layout → ℕ → ℕ
place_of_time z t = cell_of z t + 1

-- a place of a list is that of a drawn time of the epoch in its region
pub record IsPlaced (z : Layout) (first clock r p : ℕ) : Type 0 where
  pub time : ℕ
  pub live : first ≤ time
  pub drawn : time < clock
  pub place : place_of_time z time ≡ p
  pub region : region_of z (cell_of z time) ≡ r

-- and that is so of each place in each list
abbrev pub ArePlaced : Layout → ℕ → ℕ → Orders → Type 0
ArePlaced z first clock orders = (r p : ℕ) → In p (orders r) → IsPlaced z first clock r p

-- the time's place stands in the list of its region
abbrev pub IsInOrder : Layout → Orders → ℕ → Type 0
IsInOrder z orders t = In (place_of_time z t) (orders (region_of z (cell_of z t)))

-- each write from the first time shown on stands in the list of its region
abbrev pub AreInOrder : Layout → ℕ → (ℕ → Option Slot) → Orders → Type 0
AreInOrder z first slot orders = (t i key : ℕ) (written : Option (List ℕ)) → first ≤ t → slot t ≡ Some (Wrote i key written) → IsInOrder z orders t

-- a drawn time whose cell is inserted stands in the list, and is linked
abbrev pub AreInserted : Layout → (ℕ → Option ℕ) → (ℕ → Bool) → (ℕ → Bool) → Orders → Type 0
AreInserted z drawn linked inserted orders = (i t : ℕ) → drawn i ≡ Some t → inserted i ≡ true → (linked i ≡ true) × IsInOrder z orders t

-- a drawn time whose cell is not inserted stands in no list
abbrev pub AreOutside : Layout → (ℕ → Option ℕ) → (ℕ → Bool) → Orders → Type 0
AreOutside z drawn inserted orders = (i t : ℕ) → drawn i ≡ Some t → inserted i ≡ false → (r : ℕ) → ¬ In (place_of_time z t) (orders r)

-- and the link that is filled behind it equals the word
abbrev pub AreLeading : Layout → Memory → (ℕ → Option ℕ) → (ℕ → Bool) → (ℕ → Option ℕ) → Type 0
AreLeading z memory drawn inserted next = (i t w : ℕ) → drawn i ≡ Some t → inserted i ≡ false → next i ≡ Some w → memory (Order (place_of_time z t + 1)) ≡ w

-- the seat holds the lock, and the place stands in the list of the current epoch
pub record IsMember (z : Layout) (limit : ℕ) (orders : Orders) (mode : Mode) (p : ℕ) : Type 0 where
  pub holds : mode ≢ Free
  pub time : ℕ
  pub recent : limit ≤ time + z.cells
  pub until : time < limit
  pub place : place_of_time z time ≡ p
  pub stands : IsInOrder z orders time

-- and that is so of each place that a seat knows
abbrev pub AreMembers : Layout → ℕ → Orders → (ℕ → Mode) → (ℕ → ℕ) → Type 0
AreMembers z limit orders mode place = (i : ℕ) → place i ≢ 0 → IsMember z limit orders (mode i) (place i)

-- the place found before the drawn cell is before it
abbrev pub AreLower : Layout → Memory → (ℕ → Option ℕ) → (ℕ → Option ℕ) → (ℕ → ℕ) → Type 0
AreLower z memory drawn key low = (i t k : ℕ) → drawn i ≡ Some t → key i ≡ Some k → low i ≢ 0 → Before (key_at memory (low i)) (low i) k (place_of_time z t)

-- and the one found behind it is behind it
abbrev pub AreHigher : Layout → Memory → (ℕ → Option ℕ) → (ℕ → Option ℕ) → (ℕ → Bool) → (ℕ → ℕ) → Type 0
AreHigher z memory drawn key inserted high = (i t k : ℕ) → drawn i ≡ Some t → key i ≡ Some k → inserted i ≡ false → high i ≢ 0
    → Before k (place_of_time z t) (key_at memory (high i)) (high i)

-- in an exclusive hold, a head of the current epoch's region is as the seat's fresh look found it
abbrev pub AreFoundHeads : Layout → Memory → ℕ → (ℕ → Mode) → (ℕ → List (Option ℕ)) → Type 0
AreFoundHeads z memory limit mode heads = (i t chain x : ℕ) → mode i ≡ Exclusive → limit ≤ t + z.cells → t < limit
    → slice_index_or (heads i) (line_of (region_of z (cell_of z t)) chain) None ≡ Some x → memory (Head (region_of z (cell_of z t)) chain) ≡ x

-- the link is of the drawn cell's region, not that behind the cell, and leads as the look found it
pub record IsFoundLink (z : Layout) (memory : Memory) (t : ℕ) (found : FreshLink) : Type 0 where
  pub before : ℕ
  pub link : found.link ≡ link_at (region_of z (cell_of z t)) before
  pub another : before ≢ place_of_time z t
  pub leads : memory (Order found.link) ≡ found.next

-- in an exclusive hold, that is so of the fresh link, until the drawn cell is inserted
abbrev pub AreFoundLinks : Layout → Memory → (ℕ → Mode) → (ℕ → Option ℕ) → (ℕ → Bool) → (ℕ → Option FreshLink) → Type 0
AreFoundLinks z memory mode drawn inserted fresh = (i t : ℕ) (found : FreshLink) → mode i ≡ Exclusive → drawn i ≡ Some t → inserted i ≡ false
    → fresh i ≡ Some found → IsFoundLink z memory t found

-- a number noted is at most the bound
abbrev pub AreNotedBelow : (ℕ → Option ℕ) → ℕ → Type 0
AreNotedBelow noted bound = (i x : ℕ) → noted i ≡ Some x → x ≤ bound

-- the limit noted in a hold is the limit
abbrev pub AreLimits : (ℕ → Mode) → (ℕ → Option ℕ) → ℕ → Type 0
AreLimits mode noted limit = (i x : ℕ) → mode i ≢ Free → noted i ≡ Some x → x ≡ limit

-- PIN is the pin word that the seat knows
abbrev pub ArePins : Layout → Memory → (ℕ → ℕ) → Type 0
ArePins z memory pin = (i : ℕ) → i < z.seats → memory (Pin i) ≡ pin i

-- a pin word is odd exactly where a read runs
abbrev pub AreOdd : (ℕ → ℕ) → (ℕ → Bool) → Type 0
AreOdd pin pinned = (i : ℕ) → pin i % 2 ≡ cond (pinned i) 1 0

-- the pin word is the one first noted, if one was noted
abbrev pub IsFirst : Option ℕ → ℕ → Type 0
IsFirst None pin = Unit {0}
IsFirst (Some first) pin = first ≡ pin

-- the component is the retired one, and the seat was not found quiet
pub record IsRetiredFor (m : MergerView) (i pin c : ℕ) : Type 0 where
  pub before : c + 1 ≡ m.merged
  pub retired : is_retired m.phase ≡ true
  pub loud : (reader_at m.readers i).quiet ≡ false
  pub first : IsFirst (reader_at m.readers i).first_pin pin

-- a held component is the newest, or the retired one
abbrev pub AreHeld : MergerView → (ℕ → Option ℕ) → (ℕ → Bool) → (ℕ → ℕ) → Type 0
AreHeld m held pinned pin = (i c : ℕ) → held i ≡ Some c → (pinned i ≡ true) × ((c ≡ m.merged) ⊎ IsRetiredFor m i (pin i) c)

-- a snapshot's time, once it has one, is not below its note and the floor
abbrev pub IsSnapshot : ℕ → ℕ → ℕ → Bool → SnapshotState → Type 0
IsSnapshot floor clock past pinned Absent = Unit {0}
IsSnapshot floor clock past pinned (Noted b) = (b ≤ clock) × (pinned ≡ true)
IsSnapshot floor clock past pinned (Timed b s) = (b ≤ s) × (floor ≤ s) × (s ≤ clock) × (pinned ≡ true)
IsSnapshot floor clock past pinned (Open b s) = (b ≤ s) × (floor ≤ s) × (s ≤ past)

-- and so of each seat's snapshot, by the seat's own past and pin
abbrev pub AreSnapshots : ℕ → ℕ → (ℕ → ℕ) → (ℕ → Bool) → (ℕ → SnapshotState) → Type 0
AreSnapshots floor clock past pinned snapshot = (i : ℕ) → IsSnapshot floor clock (past i) (pinned i) (snapshot i)

-- what SNAP says: 0 of no snapshot, else the note plus 1
abbrev pub note_of : SnapshotState → ℕ
note_of Absent = 0
note_of (Noted b) = b + 1
note_of (Timed b s) = b + 1
note_of (Open b s) = b + 1

-- SNAP says what the seat noted
abbrev pub AreNotes : Layout → Memory → (ℕ → SnapshotState) → Type 0
AreNotes z memory snapshot = (i : ℕ) → i < z.seats → memory (Snap i) ≡ note_of (snapshot i)

-- a snapshot's time is at or above the least noted, or the end of the epoch
abbrev pub IsPassed : ℕ → Option ℕ → SnapshotState → Type 0
IsPassed end None (Timed b s) = end ≤ s
IsPassed end None (Open b s) = end ≤ s
IsPassed end (Some least) (Timed b s) = (least ≤ s) ⊎ (end ≤ s)
IsPassed end (Some least) (Open b s) = (least ≤ s) ⊎ (end ≤ s)
IsPassed end least _ = Unit {0}

-- of the seats that the round has passed
abbrev pub ArePassed : Bool → Option Round → ℕ → (ℕ → SnapshotState) → Type 0
ArePassed frozen None end snapshot = Unit {0}
ArePassed frozen (Some r) end snapshot = frozen ≡ true → (i : ℕ) → i < r.next → IsPassed end r.least (snapshot i)

-- the floors
pub record AreFloors (z : Layout) (m : MergerView) : Type 0 where
  pub below_end : m.floor ≤ epoch_end z m
  pub at_rest : is_frozen m.phase ≡ false → m.floor ≤ m.merged * z.cells
  pub merged : m.merged_floor ≤ m.floor
  pub former : m.former_floor ≤ m.merged_floor
  pub below_merged : m.merged_floor ≤ m.merged * z.cells
  pub below_former : m.former_floor ≤ (m.merged - 1) * z.cells

-- what the readers of a component search is exact from its floor on, and fits its places, and no
-- word there says more than its entries
pub record AreRuns (z : Layout) (memory : Memory) (h : History) (component floor : ℕ) : Type 0 where
  pub content : IsContent h (runs_of memory component) floor (component * z.cells)
  pub within : AreWithin z.cells component (held_at memory)
  pub counts : (p : ℕ) → is_named component p ≡ true → memory (Count p) ≤ room_of z p
  pub canonical : (p : ℕ) → is_named component p ≡ true → are_canonical memory p ≡ true

-- the merger's hold of the lock, and its freeze
pub record IsMerger (z : Layout) (m : MergerView) (clock : ℕ) : Type 0 where
  pub seats : length m.readers ≡ z.seats
  pub some_merged : is_retired m.phase ≡ true → 1 ≤ m.merged
  pub clean : m.exclusive ≡ true → is_clean m.phase ≡ true
  pub pads : m.padded ≡ true → m.exclusive ≡ true
  pub extends : m.clock_extended ≡ true → m.exclusive ≡ true
  pub limit_after : m.limit_extended ≡ true → m.clock_extended ≡ true
  pub at_end : m.clock_extended ≡ true → clock ≡ epoch_end z m
  pub top : m.clock_extended ≡ true → (m.merged + 2) * z.cells ≤ last_limit

-- ---- the seats' records

-- each record of a seat is right in the seat's past
abbrev pub AreRight : (ℕ → History) → (ℕ → List CallRecord) → Type 0
AreRight past calls = (i : ℕ) → AllByRecursion (IsRightRecord (past i)) (calls i)

-- each record of a seat has the seat's number, and the write that it made is the slot at its time
abbrev pub AreRecordsStanding : (ℕ → Option Slot) → (ℕ → List CallRecord) → Type 0
AreRecordsStanding slot calls = (i : ℕ) → AllByRecursion (IsStandingRecord slot i) (calls i)

-- each written slot below the clock is in the records of its seat
abbrev pub AreRecorded : ℕ → (ℕ → Option Slot) → (ℕ → List CallRecord) → Type 0
AreRecorded clock slot calls = (t i key : ℕ) (written : Option (List ℕ)) → t < clock → slot t ≡ Some (Wrote i key written)
    → HasWrite i t (Wrote i key written) (calls i)

-- each seat's times rise to its due, and its calls leave its snapshot open or closed
abbrev pub AreRising : (ℕ → List CallRecord) → (ℕ → ℕ) → (ℕ → SnapshotState) → Type 0
AreRising calls due snapshot = (i : ℕ) → IsRising (calls i) (due i) (open_time (snapshot i))

-- the number that each seat has is at most the bound
abbrev pub AreAtMost : (ℕ → ℕ) → ℕ → Type 0
AreAtMost f bound = (i : ℕ) → f i ≤ bound

-- no due is above an own undecided time
abbrev pub AreDuesBelowOwn : (ℕ → Option ℕ) → (ℕ → Option Slot) → (ℕ → ℕ) → Type 0
AreDuesBelowOwn drawn slot due = (i t : ℕ) → drawn i ≡ Some t → slot t ≡ None → due i ≤ t

-- ---- the law

-- the law of a world with these words, views, merger, slots and batches, and with these chains of
-- times and ordered lists: one field a clause
pub record LawOf (z : Layout) (memory : Memory) (views : List View) (m : MergerView) (slots : List (Option Slot)) (batches : List Batch) (chains : Chains)
    (orders : Orders) : Type 0 where
  -- ---- the lock
  -- there is one view for each seat
  pub seated : length views ≡ z.seats
  -- LOCK is 2^32 while the merger holds it, else the sum of what the callers' holds add
  pub lock : memory Lock ≡ cond m.exclusive exclusive_hold (sum_by holders views)
  -- while the merger holds the lock no caller does
  pub locked_out : IsLockedOut m.exclusive (each z View.mode views)
  -- while a caller holds the lock alone no other caller does
  pub sole : AreSole (each z View.mode views)
  -- the merger holds the lock only while nothing is frozen, and a freeze moves CLOCK before LIMIT
  pub merger : IsMerger z m (length slots)
  -- ---- the clock
  -- the slots are those of the times below CLOCK, and of those that a batch takes from CLOCK on
  pub clock : memory Clock + sum_by taken_by views ≡ length slots
  -- LIMIT is the first time that may not be drawn: the end of the current epoch
  pub limit : memory Limit ≡ first_free z m
  -- CLOCK is at or above the end of what is merged
  pub begun : m.merged * z.cells ≤ memory Clock
  -- no slot is at or above LIMIT
  pub bounded : length slots ≤ memory Limit
  -- LIMIT is at most one epoch's length above CLOCK
  pub current : memory Limit ≤ memory Clock + z.cells
  -- LIMIT is at most 2^62
  pub top : memory Limit ≤ last_limit
  -- MERGED is the number of merges that were published
  pub merged : memory Merged ≡ m.merged
  -- ---- drawn times
  -- who has drawn a time holds the lock
  pub holding : AreHolding (each z View.drawn views) (each z View.mode views)
  -- a drawn time is of the current epoch, and undecided, or another seat cancelled it
  pub pending : ArePending z (memory Limit) (each z View.drawn views) (length slots) (outcome_at slots)
  -- each undecided time is the drawn one of some seat
  pub owned : AreOwned (each z View.drawn views) (length slots) (outcome_at slots)
  -- no two seats have drawn the same time
  pub alone : AreAlone (each z View.drawn views)
  -- what a seat has filled in its drawn cell is what the cell's words hold
  pub filled : AreFilled z memory (each z View.drawn views) (each z part_of views)
  -- ---- decided times
  -- each time below FRONT is decided
  pub front : IsDecidedBelow (outcome_at slots) (memory Front)
  -- each time of a merged epoch is decided
  pub merged_decided : IsDecidedBelow (outcome_at slots) (m.merged * z.cells)
  -- each write is a removal, or has one to eight words
  pub short : AreShort (outcome_at slots)
  -- from the first time shown on, each cell shows what its time came to
  pub shown : AreShown z memory (first_shown z m) (length slots) (outcome_at slots)
  -- a cell whose time is not drawn has state 0, or 1 where a freeze cancels it
  pub empty : AreEmpty z memory m.padded (length slots) (epoch_end z m) (first_live z m + 2 * z.cells)
  -- ---- chains
  -- from each head the words NEXT lead through the cells of its chain, and end
  pub chained : AreChained z memory chains
  -- a chain has drawn times of its region's epoch, whose keys are of that chain
  pub lies : AreIn z memory (first_live z m) (length slots) chains
  -- no time stands twice in a chain
  pub once : AreOnce chains
  -- each write from the first time shown on stands in the chain of its key
  pub standing : AreStanding z (first_shown z m) (outcome_at slots) chains
  -- a drawn time whose cell is linked stands in the chain of its key
  pub linked : AreLinked z (each z View.drawn views) (each z View.key views) (each z View.linked views) chains
  -- one whose cell is not linked stands in no chain
  pub loose : AreLoose (each z View.drawn views) (each z View.linked views) chains
  -- ---- ordered lists
  -- from each region's head the links lead through the cells of its list, and end
  pub ordered : AreOrdered memory orders
  -- each list rises by key, and within a key by place, so by time
  pub sorted : AreSorted memory orders
  -- a list has drawn times of its region's epoch
  pub placed : ArePlaced z (first_live z m) (length slots) orders
  -- each write from the first time shown on stands in the list of its region
  pub entered : AreInOrder z (first_shown z m) (outcome_at slots) orders
  -- a drawn time whose cell is inserted stands in the list, and is linked
  pub inserted : AreInserted z (each z View.drawn views) (each z View.linked views) (each z View.inserted views) orders
  -- one whose cell is not inserted stands in no list
  pub outside : AreOutside z (each z View.drawn views) (each z View.inserted views) orders
  -- until then the link behind the cell is the one that the seat filled
  pub leading : AreLeading z memory (each z View.drawn views) (each z View.inserted views) (each z View.order_next views)
  -- the last place that a seat met stands in the current epoch's list, and it holds the lock
  pub met : AreMembers z (memory Limit) orders (each z View.mode views) (each z View.met views)
  -- so does the last place that it found before its drawn cell
  pub lows : AreMembers z (memory Limit) orders (each z View.mode views) (each z View.low views)
  -- and the last that it found behind it
  pub highs : AreMembers z (memory Limit) orders (each z View.mode views) (each z View.high views)
  -- the place found before the drawn cell is before it, by key and then place
  pub lower : AreLower z memory (each z View.drawn views) (each z View.key views) (each z View.low views)
  -- the place found behind the drawn cell is behind it, until the cell is inserted
  pub higher : AreHigher z memory (each z View.drawn views) (each z View.key views) (each z View.inserted views) (each z View.high views)
  -- ---- what is found in an exclusive hold
  -- a head of the current epoch is as the seat's fresh look found it
  pub found_heads : AreFoundHeads z memory (memory Limit) (each z View.mode views) (each z View.fresh_heads views)
  -- a link of the drawn cell's list is as the fresh look found it, until the cell is inserted
  pub found_links : AreFoundLinks z memory (each z View.mode views) (each z View.drawn views) (each z View.inserted views) (each z View.fresh_link views)
  -- ---- what is noted
  -- who holds the lock and looked at LIMIT in this hold found what it is now
  pub limits : AreLimits (each z View.mode views) (each z View.hold_limit views) (memory Limit)
  -- a fresh look at CLOCK found no more than it is now
  pub fresh_clocks : AreNotedBelow (each z View.fresh_clock views) (memory Clock)
  -- nor did the last look in a hold of the lock
  pub hold_clocks : AreNotedBelow (each z View.hold_clock views) (memory Clock)
  -- nor the last look of all
  pub clocks : AreNotedBelow (each z View.clock views) (memory Clock)
  -- nor the last look under this pin
  pub pin_clocks : AreNotedBelow (each z View.pin_clock views) (memory Clock)
  -- each time below a seat's past is decided
  pub past : AreDecidedBelow (outcome_at slots) (each z View.past views)
  -- each time below what a seat has reached is decided
  pub reached : AreDecidedBelow (outcome_at slots) (each z View.reached views)
  -- FRONT is not above CLOCK
  pub front_clock : memory Front ≤ memory Clock
  -- no seat's past is above CLOCK
  pub past_clock : AreAtMost (each z View.past views) (memory Clock)
  -- nor is what a seat has reached
  pub reached_clock : AreAtMost (each z View.reached views) (memory Clock)
  -- ---- pins and snapshots
  -- PIN of each seat is the pin word that the seat knows
  pub pins : ArePins z memory (each z View.pin views)
  -- a pin word is odd exactly while a read runs
  pub odd : AreOdd (each z View.pin views) (each z View.pinned views)
  -- only a read holds a component: the newest, or the retired one of a seat not found quiet
  pub held : AreHeld m (each z View.held views) (each z View.pinned views) (each z View.pin views)
  -- SNAP of each seat says what the seat noted
  pub notes : AreNotes z memory (each z View.snapshot views)
  -- a snapshot's time, once it has one, is at or above its note and the floor, and not above CLOCK
  pub snapshots : AreSnapshots m.floor (memory Clock) (each z View.past views) (each z View.pinned views) (each z View.snapshot views)
  -- a snapshot of a seat that the merger's round has passed is not below the floor to come
  pub passed : ArePassed (is_frozen m.phase) m.round (epoch_end z m) (each z View.snapshot views)
  -- ---- runs
  -- no floor is below the one before, nor above the end of what is merged with it
  pub floors : AreFloors z m
  -- the runs of the newest component are exact from their floor on, and fit their places
  pub runs : AreRuns z memory (history_of slots) m.merged m.merged_floor
  -- so are those of the retired component, while readers may hold it
  pub former_runs : is_held_back m ≡ true → AreRuns z memory (history_of slots) (m.merged - 1) m.former_floor
  -- ---- records
  -- what a record says that it read is right in the past of its seat
  pub right : AreRight (λ i. past_of slots (each z View.past views i)) (each z View.calls views)
  -- a record has its seat's number, and its writes are the slots at their times
  pub stand : AreRecordsStanding (outcome_at slots) (each z View.calls views)
  -- each write below CLOCK is one of a record of its seat
  pub recorded : AreRecorded (memory Clock) (outcome_at slots) (each z View.calls views)
  -- a seat's times rise to its due, and its snapshot is the one that its records left open
  pub rising : AreRising (each z View.calls views) (each z View.due views) (each z View.snapshot views)
  -- no due is above CLOCK
  pub dues : AreAtMost (each z View.due views) (memory Clock)
  -- no due is above an own time that is undecided
  pub own_dues : AreDuesBelowOwn (each z View.drawn views) (outcome_at slots) (each z View.due views)
  -- ---- batches
  -- a batch's decided members have the times from CLOCK on, and the one that is written the next
  pub staging : AreStaging (memory Clock) (outcome_at slots) (each z View.mode views) (each z View.drawn views) (each z View.staged views)
      (each z View.committed views) (each z View.hold_clock views)
  -- batches do not overlap, and none ends above CLOCK
  pub in_turn : AreInTurn 0 batches (memory Clock)
  -- each time of a batch is that of a write
  pub written : AllByRecursion (IsWritten (outcome_at slots)) batches
  -- FRONT is inside no batch
  pub uncut_front : IsUncut batches (memory Front)
  -- nor is a clock that was looked at under a pin
  pub uncut_pins : AreUncutNotes batches (each z View.pin_clock views)
  -- nor is the time of a snapshot
  pub uncut_snapshots : AreUncutSnapshots batches (each z View.snapshot views)
  -- nor is the end of a seat's past
  pub uncut_pasts : AreUncutPasts batches (each z View.past views)
  -- no record read at a time inside a batch
  pub uncut : AreUncut batches (each z View.calls views)
  -- each batch that is recorded is listed
  pub listed : AreListed batches (each z View.calls views)
  -- a recorded batch has one member to as many as an epoch has cells, each a write
  pub fitting : AreFitting z.cells (each z View.calls views)

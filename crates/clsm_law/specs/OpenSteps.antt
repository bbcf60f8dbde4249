-- Where a step is open to a caller's seat, by cases in the order of the step's members. What it
-- makes of the word and of the view is in `Relation`.
use Rattle.std.specs.Prelude.{◌≡◌, ◌≢◌, ℕ, ◌+◌, ◌-◌, ◌*◌, ◌<◌, ◌≤◌, ◌⊎◌, Bool, true, false, [], length, take, slice_index_or, Option, Some, None, is_some}
use Rattle.clsm_model.specs.declared.slot.Change.TheVariants.{Keep}
use Rattle.clsm_model.specs.declared.record.Deed.{Deed}
use Rattle.clsm_model.specs.declared.record.Deed.TheVariants.{Rmw, Get, Snapshot, GetAt, Scan, Page}
use Rattle.clsm_model.specs.History.{History, or_else, IsUncut}
use Rattle.clsm_model.specs.Right.{IsRight, write_by}
use Rattle.clsm_law.specs.declared.layout.Layout.{Layout}
use Rattle.clsm_law.specs.declared.word.Word.{Word}
use Rattle.clsm_law.specs.declared.word.Word.TheVariants.{Head, Cell, Order, Hint, State, Count, Entry}
use Rattle.clsm_law.specs.declared.step.Step.{Step}
use Rattle.clsm_law.specs.declared.step.Step.TheVariants.{EnterShared, LeaveShared, EnterExclusive, LeaveExclusive, Draw, Fill, Link, FillOrder, Insert}
use Rattle.clsm_law.specs.declared.step.Step.TheVariants.{StoreHint, Decide, Cancel, Stage, Commit, Pin, Unpin, Look, RaiseFront, Note, CloseSnapshot}
use Rattle.clsm_law.specs.declared.step.End.{End}
use Rattle.clsm_law.specs.declared.step.End.TheVariants.{Neither, Meeting, Recorded}
use Rattle.clsm_law.specs.declared.view.View.{View}
use Rattle.clsm_law.specs.declared.view.Mode.TheVariants.{Free, Shared, Exclusive}
use Rattle.clsm_law.specs.declared.view.SnapshotState.{SnapshotState}
use Rattle.clsm_law.specs.declared.view.SnapshotState.TheVariants.{Absent, Noted, Timed, Open}
use Rattle.clsm_law.specs.Codes.{exclusive_hold}
use Rattle.clsm_law.specs.Memory.{cell_of, region_of, region_of_link, link_at, is_part, is_word}
use Rattle.clsm_law.specs.Views.{or_zero, IsBelow, own_line, own_region, is_all_some, SaysWrite}
use Rattle.clsm_law.specs.Places.{is_named}

-- ---- what a read-modify-write has read

-- a read-modify-write has read what stands below its time
abbrev pub IsReadBelow : History → View → ℕ → Deed → Type 0
IsReadBelow h v t (Rmw key old change) = (t ≤ v.past) × IsRight h t (Rmw key old change)
IsReadBelow h v t _ = Unit {0}

-- ---- where a seat may look

-- the held component reaches down to t
abbrev pub HoldsFrom : Layout → Option ℕ → ℕ → Type 0
HoldsFrom z None t = ⊥
HoldsFrom z (Some m) t = m * z.cells ≤ t

-- the region of the current epoch, by the limit looked at in this hold of the lock
abbrev pub IsCurrentRegion : Layout → Option ℕ → ℕ → Type 0
IsCurrentRegion z None region = ⊥
IsCurrentRegion z (Some limit) region = region_of z (cell_of z (limit - 1)) ≡ region

-- the seat may look into the region: it holds a component, or it holds the lock and the region is
-- the current epoch's
abbrev pub MayVisit : Layout → View → ℕ → Type 0
MayVisit z v region = (v.held ≢ None) ⊎ ((v.mode ≢ Free) × IsCurrentRegion z v.hold_limit region)

-- the held component names the place
abbrev pub IsNamedBy : Option ℕ → ℕ → Type 0
IsNamedBy None place = ⊥
IsNamedBy (Some m) place = is_named m place ≡ true

-- the word may be looked at by the seat
abbrev pub IsLookable : Layout → View → Word → Type 0
IsLookable z v (Head region chain) = MayVisit z v region
IsLookable z v (Cell cell part) = MayVisit z v (region_of z cell)
IsLookable z v (Order k) = MayVisit z v (region_of_link z k)
IsLookable z v (Hint cell i) = MayVisit z v (region_of z cell)
IsLookable z v (State cell) = MayVisit z v (region_of z cell)
IsLookable z v (Count place) = IsNamedBy v.held place
IsLookable z v (Entry place entry part) = IsNamedBy v.held place
IsLookable z v _ = Unit {0}

-- ---- how a read ends

-- the time of the open snapshot
abbrev pub open_time : SnapshotState → Option ℕ
open_time (Open noted time) = Some time
open_time _ = None

-- the time at which a read with this deed stands: the open snapshot's, or the clock looked at under
-- this pin
abbrev pub time_of_read : View → Deed → Option ℕ
time_of_read v (Get key reply) = v.pin_clock
time_of_read v (Rmw key old Keep) = v.pin_clock
time_of_read v (GetAt key reply) = open_time v.snapshot
time_of_read v (Scan lo hi rows) = or_else (open_time v.snapshot) v.pin_clock
time_of_read v (Page range rows more) = or_else (open_time v.snapshot) v.pin_clock
time_of_read v _ = None

-- a read under an open snapshot: it may stand below the due, and leaves it
abbrev pub is_old : View → Deed → Bool
is_old v (GetAt key reply) = true
is_old v (Scan lo hi rows) = is_some (open_time v.snapshot)
is_old v (Page range rows more) = is_some (open_time v.snapshot)
is_old v _ = false

-- the time of the snapshot that this pin noted
abbrev pub timed : SnapshotState → Option ℕ
timed (Timed noted time) = Some time
timed _ = None

-- the deed is right at the time, if there is one, and that is not below the due, except for reads
-- under an open snapshot
abbrev pub IsRightAt : History → View → Deed → Option ℕ → Type 0
IsRightAt h v deed None = ⊥
IsRightAt h v deed (Some s) = (is_old v deed ≡ false → v.due ≤ s) × IsRight h s deed

-- a meeting may be at the time: it is not below the due, and within the seat's past
abbrev pub IsMetAt : View → Option ℕ → Type 0
IsMetAt v None = ⊥
IsMetAt v (Some s) = (v.due ≤ s) × (s ≤ v.past)

-- where a snapshot was noted under this pin, the read ends with it
abbrev pub IsEndingWith : History → View → SnapshotState → End → Type 0
IsEndingWith h v (Noted noted) end = ⊥
IsEndingWith h v (Timed noted time) (Recorded Snapshot) = (v.due ≤ time) × IsRight h time Snapshot
IsEndingWith h v (Timed noted time) end = ⊥
IsEndingWith h v _ Neither = Unit {0}
IsEndingWith h v _ Meeting = IsMetAt v v.pin_clock
IsEndingWith h v _ (Recorded deed) = IsRightAt h v deed (time_of_read v deed)

-- ---- batches

-- the time is that of the next member of the seat's batch: behind the clock as looked at in this
-- hold, and behind the members that are decided
abbrev pub IsNextMember : View → Option ℕ → ℕ → Type 0
IsNextMember v None t = ⊥
IsNextMember v (Some c) t = t ≡ c + length v.staged

-- the snapshot is recorded and open
abbrev pub IsOpenSnapshot : SnapshotState → Type 0
IsOpenSnapshot (Open noted time) = Unit {0}
IsOpenSnapshot _ = ⊥

-- ---- where a step is open to a seat: h is the seat's past, with all batches

-- a caller's seat with this view may make the step
abbrev pub IsOpen : Layout → History → View → Step → Type 0
-- the seat does not hold the lock, and its fresh look found l there, which is no exclusive hold
IsOpen z h v (EnterShared l) = (v.mode ≡ Free) × (v.fresh_lock ≡ Some l) × (l < exclusive_hold)
-- it holds the lock shared, and has no drawn time
IsOpen z h v LeaveShared = (v.mode ≡ Shared) × (v.drawn ≡ None)
-- the same; its fresh look found the clock at t, and t is below the limit that it looked at in this
-- hold
IsOpen z h v (Draw t) = (v.mode ≡ Shared) × (v.drawn ≡ None) × (v.fresh_clock ≡ Some t) × IsBelow t v.hold_limit
-- it has a drawn time whose cell is not linked, and a cell has that part
IsOpen z h v (Fill part w) = (v.drawn ≢ None) × (v.linked ≡ false) × (is_part part ≡ true)
-- the same; all parts are filled, and NEXT is the head, as the fresh look found it
IsOpen z h v (Link head) = (v.drawn ≢ None) × (v.linked ≡ false) × (v.key ≢ None) × (v.length ≢ None)
    × (is_all_some (take (or_zero v.length) v.words) ≡ true) × (v.next ≡ Some head) × (slice_index_or v.fresh_heads (own_line z v) None ≡ Some head)
-- it has a drawn time whose cell does not stand in the ordered list
IsOpen z h v (FillOrder w) = (v.drawn ≢ None) × (v.inserted ≡ false)
-- the same; the cell is linked, so that its key stays; the place is the list's head, or one found
-- before the cell, and the link behind the cell is filled with none, or one found behind it; and
-- that is what the fresh look found at the link behind the place
IsOpen z h v (Insert p next) = (v.drawn ≢ None) × (v.inserted ≡ false) × (v.linked ≡ true) × (v.order_next ≡ Some next) × ((p ≡ 0) ⊎ (p ≡ v.low))
    × ((next ≡ 0) ⊎ (next ≡ v.high)) × (v.fresh_link ≡ Some (record { link = link_at (own_region z v) p; next = next }))
-- there is such a hint
IsOpen z h v (StoreHint cell i w) = is_word z (Hint cell i) ≡ true
-- t is drawn and its cell linked; what the parts say is the write that the deed makes; what a
-- read-modify-write read is right at t, which the past of the seat has reached; and the cell stands
-- in the ordered list
IsOpen z h v (Decide t deed) = (v.drawn ≡ Some t) × (v.linked ≡ true) × SaysWrite v (write_by 0 deed) × IsReadBelow h v t deed × (v.inserted ≡ true)
-- t is drawn by the seat in a shared hold of the lock, or it is not before the held component and
-- below the clock as the seat last looked at it
IsOpen z h v (Cancel t) = ((v.drawn ≡ Some t) × (v.mode ≡ Shared)) ⊎ (HoldsFrom z v.held t × IsBelow t v.clock)
-- the seat does not hold the lock
IsOpen z h v EnterExclusive = v.mode ≡ Free
-- it holds the lock exclusively, and has written nothing that is not committed
IsOpen z h v LeaveExclusive = (v.mode ≡ Exclusive) × (v.drawn ≡ None) × (v.staged ≡ [])
-- it holds the lock exclusively, has committed nothing in this hold, and has decided all members
-- before; t is the time of the next one, below the limit that it looked at in this hold
IsOpen z h v (Stage t key) = (v.mode ≡ Exclusive) × (v.drawn ≡ None) × (v.committed ≡ false) × IsNextMember v v.hold_clock t × IsBelow t v.hold_limit
-- the same; these are the members that it decided, and there is one
IsOpen z h v (Commit members) = (v.mode ≡ Exclusive) × (v.drawn ≡ None) × (v.committed ≡ false) × (v.hold_clock ≢ None) × (v.staged ≡ members) × (members ≢ [])
-- no read runs
IsOpen z h v Pin = v.pinned ≡ false
-- a read runs, and may end so: with a right record, a meeting or neither, and with a snapshot
-- exactly where one was noted under this pin
IsOpen z h v (Unpin end) = (v.pinned ≡ true) × IsEndingWith h v v.snapshot end
-- there is such a word; cells and heads ask for a component, or a hold of the lock for the current
-- region; runs for a component that names them
IsOpen z h v (Look word) = (is_word z word ≡ true) × IsLookable z v word
-- the seat has found each time below s decided, and s is inside no batch
IsOpen z h v (RaiseFront s) = (s ≤ v.reached) × IsUncut h.batches s
-- there is no snapshot, a read runs, and its look at the clock found b
IsOpen z h v (Note b) = (v.snapshot ≡ Absent) × (v.pinned ≡ true) × (v.pin_clock ≡ Some b)
-- a snapshot is open
IsOpen z h v CloseSnapshot = IsOpenSnapshot v.snapshot
-- the merger's steps are open to no caller
IsOpen z h v _ = ⊥

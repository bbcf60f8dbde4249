-- The steps of a caller's seat, by cases in the order of the step's members: the word of each, what
-- it makes of the word, the view after it, the slots and chains after it, and its answer. Where
-- each is open is in `OpenSteps`. `x` is the word that the step finds.
use Rattle.std.specs.Prelude.{◌≡◌, ℕ, ◌+◌, ◌*◌, ◌%◌, ◌<◌, ◌≤◌, ◌==◌, ◌&&◌, ◌||◌, Bool, true, false, not, cond, nat_lt, nat_le, max, List, [], ◌∷◌}
use Rattle.std.specs.Prelude.{◌++◌, length, slice_set, Option, Some, None, is_some}
use prog.Atomic.{either}
use Rattle.clsm_model.specs.declared.batch.Batch.{Batch}
use Rattle.clsm_model.specs.declared.slot.Slot.{Slot}
use Rattle.clsm_model.specs.declared.slot.Slot.TheVariants.{Nothing, Wrote}
use Rattle.clsm_model.specs.declared.slot.Change.TheVariants.{Set, Remove as Erase}
use Rattle.clsm_model.specs.declared.record.Deed.{Deed}
use Rattle.clsm_model.specs.declared.record.Deed.TheVariants.{Put, Remove, Rmw, Snapshot, Close, Batch as Group}
use Rattle.clsm_model.specs.declared.record.CallRecord.{CallRecord}
use Rattle.clsm_model.specs.Right.{Member, write_by}
use Rattle.clsm_law.specs.declared.layout.Layout.{Layout}
use Rattle.clsm_law.specs.declared.word.Word.{Word}
use Rattle.clsm_law.specs.declared.word.Word.TheVariants.{Lock, Clock, Limit, Front, Merged, Pin as PinOf, Snap, Head, Cell, Order, Hint, State}
use Rattle.clsm_law.specs.declared.word.Part.{Part}
use Rattle.clsm_law.specs.declared.word.Part.TheVariants.{Key, Length, Value, Next}
use Rattle.clsm_law.specs.declared.step.Step.{Step}
use Rattle.clsm_law.specs.declared.step.Step.TheVariants.{EnterShared, LeaveShared, EnterExclusive, LeaveExclusive, Draw, Fill, Link, FillOrder, Insert}
use Rattle.clsm_law.specs.declared.step.Step.TheVariants.{StoreHint, Decide, Cancel, Stage, Commit, Pin, Unpin, Look, RaiseFront, Note, CloseSnapshot}
use Rattle.clsm_law.specs.declared.step.End.{End}
use Rattle.clsm_law.specs.declared.step.End.TheVariants.{Neither, Meeting, Recorded}
use Rattle.clsm_law.specs.declared.step.Answer.{Answer}
use Rattle.clsm_law.specs.declared.step.Answer.TheVariants as answers
use Rattle.clsm_law.specs.declared.view.View.{View}
use Rattle.clsm_law.specs.declared.view.Waiting.{Waiting}
use Rattle.clsm_law.specs.declared.view.Mode.TheVariants.{Free, Shared, Exclusive}
use Rattle.clsm_law.specs.declared.view.Mode.{Mode}
use Rattle.clsm_law.specs.declared.view.SnapshotState.{SnapshotState}
use Rattle.clsm_law.specs.declared.view.SnapshotState.TheVariants.{Absent, Noted, Timed, Open}
use Rattle.clsm_law.specs.Codes.{exclusive_hold, less, undecided_cell, cancelled_cell, value_cell, removal_cell}
use Rattle.clsm_law.specs.Memory.{cell_of, region_of, link_at, head_of}
use Rattle.clsm_law.specs.Views.{blank, or_zero, next_word, is_below, is_free, is_exclusive, line_of, own_time, own_line, own_region, own_place, state_of}
use Rattle.clsm_law.specs.OpenSteps.{open_time, time_of_read, is_old, timed}

-- ---- what a decide writes

-- the state that a decide to this slot writes; undecided where the slot is no write
abbrev pub state_by : Option Slot → ℕ
state_by (Some (Wrote seat key written)) = state_of written
state_by _ = undecided_cell

-- the member that a deed's write is
abbrev pub member_of : Deed → List Member
member_of (Put key written) = (key, Set written) ∷ []
member_of (Remove key) = (key, Erase) ∷ []
member_of (Rmw key old change) = (key, change) ∷ []
member_of _ = []

-- ---- the ordered list

-- the order: by key, and within a key by place, which is by time within an epoch
abbrev pub Before : ℕ → ℕ → ℕ → ℕ → Type 0
Before key p other q = (key ≤ other) × (key ≡ other → p < q)

-- the test of the same
abbrev pub is_before : ℕ → ℕ → ℕ → ℕ → Bool
is_before key p other q = nat_lt key other || (key == other && nat_lt p q)

-- the link is behind a place that the seat knows in the list of its drawn cell
abbrev pub is_listed : Layout → View → ℕ → Bool
is_listed z v k = is_some v.drawn && (k == link_at (own_region z v) 0 || (k == link_at (own_region z v) v.met || k == link_at (own_region z v) v.low))

-- the state is that of a write
abbrev pub is_written_state : ℕ → Bool
is_written_state x = x == value_cell || x == removal_cell

-- the cell is of the drawn one's region, and its state says that it is written: so it stands in the
-- list
abbrev pub is_met_by_state : Layout → View → ℕ → ℕ → Bool
is_met_by_state z v cell x = is_some v.drawn && (region_of z cell == own_region z v && is_written_state x)

-- the key of the place met is before that of the drawn cell
abbrev pub is_lower : Layout → View → ℕ → ℕ → Bool
is_lower z v cell x = is_before x (cell + 1) (or_zero v.key) (own_place z v)

-- what the last place found before the drawn cell is after a look at a part of a cell
abbrev pub low_seen : Layout → View → ℕ → Part → ℕ → ℕ
low_seen z v cell Key x = cond (cell + 1 == v.met && is_lower z v cell x) (cell + 1) v.low
low_seen z v cell _ x = v.low

-- and the last found behind it
abbrev pub high_seen : Layout → View → ℕ → Part → ℕ → ℕ
high_seen z v cell Key x = cond (cell + 1 == v.met && not (is_lower z v cell x)) (cell + 1) v.high
high_seen z v cell _ x = v.high

-- ---- the times that a seat sees decided

-- a time of the held component, below a clock that the seat looked at
abbrev pub is_seen_of : Layout → Option ℕ → Option ℕ → ℕ → Bool
is_seen_of z None clock t = false
is_seen_of z (Some m) clock t = nat_le (m * z.cells) t && nat_lt t ((m + 2) * z.cells) && is_below t clock

-- the same, by what the seat holds and looked at last
abbrev pub is_seen : Layout → View → ℕ → Bool
is_seen z v t = is_seen_of z v.held v.clock t

-- ---- the word that the step is on, of the seat i

-- the word that the step of the seat i loads or changes; LOCK stands for the merger's steps
abbrev pub word_of : Layout → ℕ → View → Step → Word
-- the lock
word_of z i v (EnterShared l) = Lock
word_of z i v LeaveShared = Lock
-- the clock
word_of z i v (Draw t) = Clock
-- the part of the drawn cell, and the head of its chain
word_of z i v (Fill part w) = Cell (cell_of z (own_time v)) part
word_of z i v (Link head) = head_of z (own_time v) (or_zero v.key)
-- the link behind the drawn cell, the link behind a place of its region, and the hint
word_of z i v (FillOrder w) = Order (own_place z v + 1)
word_of z i v (Insert p next) = Order (link_at (own_region z v) p)
word_of z i v (StoreHint cell j w) = Hint cell j
-- the state of the time's cell
word_of z i v (Decide t deed) = State (cell_of z t)
word_of z i v (Cancel t) = State (cell_of z t)
-- the lock
word_of z i v EnterExclusive = Lock
word_of z i v LeaveExclusive = Lock
-- the key of the member's cell, and the clock
word_of z i v (Stage t key) = Cell (cell_of z t) Key
word_of z i v (Commit members) = Clock
-- the seat's own pin word
word_of z i v Pin = PinOf i
word_of z i v (Unpin end) = PinOf i
-- the word looked at
word_of z i v (Look word) = word
-- FRONT
word_of z i v (RaiseFront s) = Front
-- the seat's own snapshot word
word_of z i v (Note b) = Snap i
word_of z i v CloseSnapshot = Snap i
word_of z i v _ = Lock

-- ---- what the operation makes of the word

-- the word that the step leaves where it finds x; an exchange that does not find the word that it
-- names leaves x
abbrev pub changed : Layout → View → Step → ℕ → ℕ
-- compare_exchange: one holder more, where the number is l
changed z v (EnterShared l) x = either (x == l) (l + 1) x
-- fetch_sub 1: one holder fewer
changed z v LeaveShared x = less 1 x
-- compare_exchange: the next time, where the clock is t
changed z v (Draw t) x = either (x == t) (t + 1) x
-- store
changed z v (Fill part w) x = w
-- compare_exchange: the drawn cell plus 1, where the head is still this one
changed z v (Link head) x = either (x == head) (cell_of z (own_time v) + 1) x
-- store
changed z v (FillOrder w) x = w
-- compare_exchange: the drawn cell plus 1, where the link is still this one
changed z v (Insert p next) x = either (x == next) (own_place z v) x
-- store
changed z v (StoreHint cell i w) x = w
-- compare_exchange: a value or a removal, as the deed writes, where nothing is decided
changed z v (Decide t deed) x = either (x == undecided_cell) (state_by (write_by 0 deed)) x
-- compare_exchange: cancelled, where nothing is decided
changed z v (Cancel t) x = either (x == undecided_cell) cancelled_cell x
-- compare_exchange: the exclusive hold, where nobody holds the lock
changed z v EnterExclusive x = either (x == 0) exclusive_hold x
-- fetch_sub of the same: no holder
changed z v LeaveExclusive x = less exclusive_hold x
-- store
changed z v (Stage t key) x = key
-- store: the time behind the last member
changed z v (Commit members) x = or_zero v.hold_clock + length members
-- store: the pin word as the seat knows it, plus 1
changed z v Pin x = next_word v.pin
changed z v (Unpin end) x = next_word v.pin
-- load
changed z v (Look word) x = x
-- fetch_max: the greater of the word and s
changed z v (RaiseFront s) x = max x s
-- store: the noted time plus 1, and 0 for none
changed z v (Note b) x = b + 1
changed z v CloseSnapshot x = 0
changed z v _ x = x

-- ---- the view after the step: each test stands inside its field

-- a count modulo 2^64, with one more where the test passes
abbrev pub one_more_if : Bool → ℕ → ℕ
one_more_if b n = cond b (next_word n) n

-- the state of t was found or made other than 0
abbrev pub reached_after : Layout → View → ℕ → ℕ
reached_after z v t = cond (t == v.reached && is_seen z v t) (v.reached + 1) v.reached

-- a look at a state
abbrev pub reached_by_state : Layout → View → ℕ → ℕ → ℕ
reached_by_state z v cell x = cond (not (x == 0) && cell == cell_of z v.reached) (reached_after z v v.reached) v.reached

-- the drawn time t is given up, another stays
abbrev pub given_up : Option ℕ → ℕ → Option ℕ
given_up None t = None
given_up (Some u) t = cond (u == t) None (Some u)

-- t is the drawn time
abbrev pub is_own : Option ℕ → ℕ → Bool
is_own None t = false
is_own (Some u) t = u == t

-- one look again, counted up to the layout's patience
abbrev pub once_more : Layout → ℕ → ℕ
once_more z again = cond (nat_lt again z.patience) (again + 1) again

-- how often the seat looked again at the cell's state, after one more look that found it undecided
abbrev pub again_after : Layout → Option Waiting → ℕ → ℕ
again_after z None cell = 0
again_after z (Some w) cell = cond (w.cell == cell) (once_more z w.again) 0

-- a look at a state: where it is undecided the seat waits for it, else for none
abbrev pub waited_after : Layout → Option Waiting → ℕ → ℕ → Option Waiting
waited_after z waited cell x = cond (x == undecided_cell) (Some (record { cell = cell; again = again_after z waited cell })) None

-- the last looks at states found this one undecided: the first, and as many more as the layout's
-- patience says
abbrev pub is_waited_for : Layout → Option Waiting → ℕ → Bool
is_waited_for z None cell = false
is_waited_for z (Some w) cell = w.cell == cell && nat_le z.patience w.again

-- a cancel of t that found x is counted: the own time is given up, or another had cancelled it, or
-- t is another's. That of another's time is hasty where it was not waited for; it ends the wait
abbrev pub counted_cancel : Layout → View → ℕ → ℕ → View
counted_cancel z v t x = let own = is_own v.drawn t in record v {
  overtaken = one_more_if (own && not (x == undecided_cell)) v.overtaken;
  gave_up = one_more_if (own && x == undecided_cell) v.gave_up;
  cancelled = one_more_if (not own && x == undecided_cell) v.cancelled;
  waited = cond own v.waited None;
  hasty = one_more_if (not own && x == undecided_cell && not (is_waited_for z v.waited (cell_of z t))) v.hasty;
}

-- the record of a call of the seat i
abbrev pub call_of : ℕ → ℕ → Deed → CallRecord
call_of i t deed = record { seat = i; time = t; deed = deed }

-- the records with which a read ends
abbrev pub ended_calls : ℕ → View → End → List CallRecord
ended_calls i v Neither = []
ended_calls i v Meeting = []
ended_calls i v (Recorded Snapshot) = call_of i (or_zero (timed v.snapshot)) Snapshot ∷ []
ended_calls i v (Recorded deed) = call_of i (or_zero (time_of_read v deed)) deed ∷ []

-- the due after a read: the time of its record or meeting, but as before where it recorded nothing
-- or read under an open snapshot
abbrev pub ended_due : View → End → ℕ
ended_due v Neither = v.due
ended_due v Meeting = or_zero v.pin_clock
ended_due v (Recorded Snapshot) = or_zero (timed v.snapshot)
ended_due v (Recorded deed) = cond (is_old v deed) v.due (or_zero (time_of_read v deed))

-- the read that gave a snapshot its time leaves it open
abbrev pub ended_snapshot : SnapshotState → SnapshotState
ended_snapshot (Timed noted time) = Open noted time
ended_snapshot snapshot = snapshot

-- a look at the clock gives a noted snapshot its time
abbrev pub timed_by : SnapshotState → ℕ → SnapshotState
timed_by (Noted noted) x = Timed noted x
timed_by snapshot x = snapshot

-- the first look at MERGED under a pin gives the component held
abbrev pub takes_hold : View → Bool
takes_hold v = v.pinned && not (is_some v.held)

-- the lock is held, shared or exclusively
abbrev pub holds_lock : View → Bool
holds_lock v = not (is_free v.mode)

-- the seat neither holds the lock nor reads
abbrev pub is_idle : View → Bool
is_idle v = is_free v.mode && not v.pinned

-- the first of the looks, with this one
abbrev pub first_of : Option ℕ → ℕ → Option ℕ
first_of None x = Some x
first_of (Some first) x = Some first

-- what a look notes, by its word
abbrev pub looked : Layout → View → Word → ℕ → View
-- it is fresh, unless it finds the lock held exclusively; a seat that does not hold the lock counts
-- that
looked z v Lock x = record v { fresh_lock = cond (x == exclusive_hold) None (Some x); busy = one_more_if (is_free v.mode && x == exclusive_hold) v.busy }
-- it is fresh and the last of all, and that of the hold and of the pin, where there are such, and
-- counted where there are none; and a noted snapshot gets its time
looked z v Clock x = record v {
  fresh_clock = Some x;
  hold_clock = cond (holds_lock v) (Some x) v.hold_clock;
  hold_first = cond (holds_lock v) (first_of v.hold_first x) v.hold_first;
  clock = Some x;
  pin_clock = cond v.pinned (Some x) v.pin_clock;
  snapshot = timed_by v.snapshot x;
  clock_looks = one_more_if (is_idle v) v.clock_looks;
}
-- that is the limit which it looked at last; an entry into the lock blots it out; counted as above
looked z v Limit x = record v { hold_limit = Some x; limit_looks = one_more_if (is_idle v) v.limit_looks }
-- each time below it is decided
looked z v Front x = record v { reached = max v.reached x }
-- the first one under a pin gives the component held, and the times before that are decided
looked z v Merged x = record v { held = cond (takes_hold v) (Some x) v.held; reached = cond (takes_hold v) (max v.reached (x * z.cells)) v.reached }
-- in a hold of the lock it is fresh
looked z v (Head region chain) x = record v { fresh_heads = cond (holds_lock v) (slice_set v.fresh_heads (line_of region chain) (Some x)) v.fresh_heads }
-- where it is not empty, and is that of the time reached, and the component and the clock cover
-- this, one time more is reached; a written cell is met; and an undecided one is waited for
looked z v (State cell) x = record v {
  reached = reached_by_state z v cell x;
  met = cond (is_met_by_state z v cell x) (cell + 1) v.met;
  waited = waited_after z v.waited cell x;
}
-- what follows in the list of the drawn cell is met, and the look is fresh
looked z v (Order k) x = record v {
  met = cond (is_listed z v k) x v.met;
  fresh_link = cond (is_listed z v k) (Some (record { link = k; next = x })) v.fresh_link;
}
-- the cell met is before the drawn one, or behind it
looked z v (Cell cell part) x = record v { low = low_seen z v cell part x; high = high_seen z v cell part x }
-- of other words nothing is noted
looked z v _ x = v

-- the part is filled with w; by another key, other places are before and behind
abbrev pub filled : View → Part → ℕ → View
filled v Key w = record v { key = Some w; low = 0; high = 0 }
filled v Length w = record v { length = Some w }
filled v (Value j) w = record v { words = slice_set v.words j (Some w) }
filled v Next w = record v { next = Some w }

-- The view after an exchange that enters the lock in this mode. The look at the lock is no longer
-- fresh. Won: the lock is held, no earlier look is fresh or of this hold, and it is counted.
abbrev pub after_entry : Layout → Mode → Bool → View → View
after_entry z mode won v = record v {
  mode = cond won mode v.mode;
  fresh_lock = None;
  fresh_clock = cond won None v.fresh_clock;
  fresh_heads = cond won (blank (2 * z.chains)) v.fresh_heads;
  hold_limit = cond won None v.hold_limit;
  hold_clock = cond won None v.hold_clock;
  hold_first = cond won None v.hold_first;
  entries = one_more_if won v.entries;
}

-- the lock is given back, no look is fresh, and no place of the list is known; the looks of the
-- hold are known still
abbrev pub after_leave : Layout → View → View
after_leave z v = record v { mode = Free; fresh_lock = None; fresh_clock = None; fresh_heads = blank (2 * z.chains); met = 0; low = 0; high = 0 }

-- The view after an exchange that draws t. Won: t is drawn, no part of its cell is filled, the cell
-- is neither linked nor inserted, no place is before or behind it, and no look at the clock or at a
-- link is fresh; lost: the look at the clock is no longer fresh, and it is counted.
abbrev pub after_draw : Bool → View → ℕ → View
after_draw won v t = record v {
  drawn = cond won (Some t) v.drawn;
  key = cond won None v.key;
  length = cond won None v.length;
  words = cond won (blank 8) v.words;
  next = cond won None v.next;
  linked = cond won false v.linked;
  order_next = cond won None v.order_next;
  inserted = cond won false v.inserted;
  fresh_link = cond won None v.fresh_link;
  low = cond won 0 v.low;
  high = cond won 0 v.high;
  fresh_clock = None;
  raced = one_more_if (not won) v.raced;
}

-- the time is drawn
abbrev pub taken : View → ℕ → View
taken v t = after_draw true v t

-- The view of the seat i after a step that found x. An exchange is won where it finds the word that
-- it names, and else lost.
abbrev pub view_after : Layout → ℕ → View → Step → ℕ → View
-- the lock is held shared where it is won; a lost one is counted
view_after z i v (EnterShared l) x = let won = x == l in record (after_entry z Shared won v) { busy = one_more_if (not won) v.busy }
-- the lock is given back
view_after z i v LeaveShared x = after_leave z v
-- t is drawn where it is won
view_after z i v (Draw t) x = after_draw (x == t) v t
-- the part is filled
view_after z i v (Fill part w) x = filled v part w
-- The look is no longer fresh. Won: the cell is linked; lost: it is counted.
view_after z i v (Link head) x = let won = x == head in record v {
  linked = cond won true v.linked;
  fresh_heads = slice_set v.fresh_heads (own_line z v) None;
  raced = one_more_if (not won) v.raced;
}
-- the link is filled
view_after z i v (FillOrder w) x = record v { order_next = Some w }
-- The look is no longer fresh. Won: the cell is in the list; lost: it is counted.
view_after z i v (Insert p next) x = let won = x == next in record v {
  inserted = cond won true v.inserted;
  fresh_link = None;
  raced = one_more_if (not won) v.raced;
}
-- of a hint nothing is noted
view_after z i v (StoreHint cell j w) x = v
-- Nothing is drawn, and t is found decided. Won: the call is recorded, and the due is behind it, or
-- in an exclusive hold it is a member of the seat's batch; lost: it is counted.
view_after z i v (Decide t deed) x = let won = x == 0 in let alone = is_exclusive v.mode in record v {
  drawn = None;
  reached = reached_after z v t;
  staged = cond alone (cond won (v.staged ++ member_of deed) v.staged) v.staged;
  due = cond alone v.due (cond won (t + 1) v.due);
  calls = cond alone v.calls (cond won (v.calls ++ call_of i t deed ∷ []) v.calls);
  overtaken = one_more_if (not won) v.overtaken;
}
-- t is found decided, and an own drawn time is given up; what was cancelled is counted
view_after z i v (Cancel t) x = record (counted_cancel z v t x) { drawn = given_up v.drawn t; reached = reached_after z v t }
-- the lock is held exclusively where it is won, and nothing is committed in this hold; a lost one
-- is counted
view_after z i v EnterExclusive x = let won = x == 0 in record (after_entry z Exclusive won v) {
  committed = cond won false v.committed;
  busy = one_more_if (not won) v.busy;
}
-- the lock is given back, as after a shared hold
view_after z i v LeaveExclusive x = after_leave z v
-- the member's time is taken as a draw takes one, and then its key is filled
view_after z i v (Stage t key) x = filled (taken v t) Key key
-- the batch is recorded at its first time, and the due is behind it
view_after z i v (Commit members) x = let first = or_zero v.hold_clock in record v {
  staged = [];
  committed = true;
  fresh_clock = None;
  due = first + length members;
  calls = v.calls ++ call_of i first (Group members) ∷ [];
}
-- a read runs, by the next pin word: no component is held, no clock is looked at yet, and no time
-- is waited for
view_after z i v Pin x = record v { pin = next_word v.pin; pinned = true; held = None; pin_clock = None; waited = None }
-- the read is over, by the next pin word: what it recorded joins the calls, the due follows, and a
-- snapshot that got its time is open
view_after z i v (Unpin end) x = record v {
  pin = next_word v.pin;
  pinned = false;
  held = None;
  pin_clock = None;
  snapshot = ended_snapshot v.snapshot;
  due = ended_due v end;
  calls = v.calls ++ ended_calls i v end;
}
-- what was found is noted
view_after z i v (Look word) x = looked z v word x
-- the past reaches up to s, or further as before
view_after z i v (RaiseFront s) x = record v { past = max v.past s }
-- the snapshot is noted, and waits for its time
view_after z i v (Note b) x = record v { snapshot = Noted b }
-- there is no snapshot, and the close joins the calls, at the time of the snapshot
view_after z i v CloseSnapshot x = record v { snapshot = Absent; calls = v.calls ++ call_of i (or_zero (open_time v.snapshot)) Close ∷ [] }
-- the merger's steps leave it as it is
view_after z i v _ x = v

-- ---- the slots and the chains after the step

-- the slots after a step of the seat i that found x: they change by won exchanges, and where a
-- member of a batch takes its time
abbrev pub slots_after : ℕ → List (Option Slot) → Step → ℕ → List (Option Slot)
-- t is one slot more, undecided
slots_after i slots (Draw t) x = cond (x == t) (slots ++ None ∷ []) slots
-- t comes to the write of the deed
slots_after i slots (Decide t deed) x = cond (x == 0) (slice_set slots t (write_by i deed)) slots
-- t comes to nothing
slots_after i slots (Cancel t) x = cond (x == 0) (slice_set slots t (Some Nothing)) slots
-- t is one slot more, undecided
slots_after i slots (Stage t key) x = slots ++ None ∷ []
-- all others leave them
slots_after i slots _ x = slots

-- the batches after a step: a commit lists its own
abbrev pub batches_after : View → List Batch → Step → List Batch
batches_after v batches (Commit members) = batches ++ record { first = or_zero v.hold_clock; size = length members } ∷ []
batches_after v batches _ = batches

-- the chain of each head: the times whose cells stand in it, from the head on
abbrev pub Chains : Type 0
Chains = ℕ → ℕ → List ℕ

-- one time more at the head of a chain
abbrev pub pushed : Chains → ℕ → ℕ → ℕ → Chains
pushed chains region chain t r s = cond (r == region && s == chain) (t ∷ chains r s) (chains r s)

-- the chains after a step that found x: a won link puts the drawn time at the head of its chain
abbrev pub chains_after : Layout → View → Chains → Step → ℕ → Chains
chains_after z v chains (Link head) x = cond (x == head) (pushed chains (region_of z (cell_of z (own_time v))) (or_zero v.key % z.chains) (own_time v)) chains
chains_after z v chains _ x = chains

-- the ordered list of each region: the places that stand in it
abbrev pub Orders : Type 0
Orders = ℕ → List ℕ

-- the place t put behind the place p, in the list that the place q leads to
abbrev pub put_after : ℕ → ℕ → ℕ → List ℕ → List ℕ
put_after q p t [] = cond (q == p) (t ∷ []) []
put_after q p t (u ∷ us) = cond (q == p) (t ∷ u ∷ us) (u ∷ put_after u p t us)

-- the same in the list of one region
abbrev pub put_in_order : Orders → ℕ → ℕ → ℕ → Orders
put_in_order orders region p t r = cond (r == region) (put_after 0 p t (orders r)) (orders r)

-- the lists after a step that found x: a won insert puts the drawn cell behind its place
abbrev pub orders_after : Layout → View → Orders → Step → ℕ → Orders
orders_after z v orders (Insert p next) x = cond (x == next) (put_in_order orders (own_region z v) p (own_place z v)) orders
orders_after z v orders _ x = orders

-- ---- the answer

-- what an exchange answers
abbrev pub won_if : Bool → Answer
won_if b = cond b answers.Done answers.Lost

-- what a step that found x answers, of a caller or the merger
abbrev pub answer_of : Step → ℕ → Answer
-- exchanges: whether they found the word that they name
answer_of (EnterShared l) x = won_if (x == l)
answer_of (EnterExclusive) x = won_if (x == 0)
answer_of (Draw t) x = won_if (x == t)
answer_of (Link head) x = won_if (x == head)
answer_of (Insert p next) x = won_if (x == next)
answer_of (Decide t deed) x = won_if (x == 0)
answer_of (Cancel t) x = won_if (x == 0)
-- looks: the word
answer_of (Look word) x = answers.Value x
-- stores, and what always succeeds
answer_of _ x = answers.Done

-- Members of a batch, staged one after another.
use Rattle.std.proofs.Common.{◌≡◌, ◌≢◌, ◌∙◌, ℕ, zero, suc, ◌+◌, ◌^◌, ◌<◌, ◌≤◌, ◌++◌, ◌∷◌, [], List, length, take, get_or, ap, refl, sym, arith, append-nil}
use Rattle.std.proofs.Common.{false, Option, None, Result, Ok, Err, IfErr, subst}
use Rattle.std.proofs.lemmas.List.{append_assoc, length-append, length-take-le, take_more}
use Rattle.clsm_model.specs.declared.slot.Change.{Change}
use Rattle.clsm_model.specs.declared.slot.Change.TheVariants.{Keep, Set, Remove}
use Rattle.clsm_model.specs.declared.record.Deed.{Deed}
use Rattle.clsm_model.specs.declared.record.Deed.TheVariants.{Batch as Group}
use Rattle.clsm_model.specs.Right.{AreWrites, Member}
use Rattle.clsm_model.specs.Seats.{FitsDeed}
use Rattle.clsm_law.specs.declared.view.View.{View}
use Rattle.clsm_law.specs.declared.view.Mode.TheVariants.{Exclusive}
use Rattle.clsm_law.specs.Relation.{member_of}
use Rattle.clsm_words.specs.declared.known.Known.{Known}
use Rattle.clsm_words.specs.Knowing.{Sound}
use Rattle.clsm_words.proofs.Keeps.{seat_stays, seat_trans}
use Rattle.clsm_lock.specs.Keeping.{EntersExclusively, Leaves}
use Rattle.clsm_memtable.specs.Filling.{Stages}
use Rattle.clsm_memtable.specs.Inserting.{Enters, StaysOut}
use Rattle.clsm_memtable.specs.Writing.{DecidesMember, FindsRoom}
use Rattle.clsm_store_calls.specs.declared.refusal.BatchError.{BatchError}
use Rattle.clsm_store_calls.specs.declared.refusal.BatchError.TheVariants.{Full}
use Rattle.clsm_store_calls.specs.declared.refusal.TryBatchError.TheVariants.{Refused}
use Rattle.clsm_store_calls.specs.Batching.{CountsAlone, CountsBatch, CountsTryBatch, FindsNoRoom, FindsNoRoomFor, IsAlone, MayStage, RefusesBatch}
use Rattle.clsm_store_calls.specs.Batching.{StagesAll, entered_once, with_staged}
use Rattle.clsm_store_calls.specs.Tally.{Tally, counted, looked, tally_of}
use Rattle.clsm_store_calls.specs.Changing.{value_set}
use Rattle.clsm_store_calls.specs.Resting.{IsAtRest, IsSettled, deed_of}
use Rattle.clsm_store_calls.proofs.Rest.{left, still_by, still_trans}

-- each member is a write
pub write_at : (members : List Member) (i : ℕ) (d : Member) → AreWrites members → i < length members → (get_or members i d).1 ≢ Keep
write_at [] i d writes lt = absurd (omega arith)
write_at (m ∷ ms) zero d writes lt = writes.0
write_at (m ∷ ms) (suc i) d writes lt = write_at ms i d writes.1 (omega arith)

pub staged_none : (k : Known) → k.view.drawn ≡ None → StagesAll k k []
staged_none k undrawn = record { seat = seat_stays k; view = λ i. record k.view { staged = sym (append-nil k.view.staged) i; drawn = undrawn i } }

module _ (a b : Known) (members : List Member) (i : ℕ) (within : i < length members) (staged : StagesAll a b (take i members)) where
  -- the next one may be staged behind them
  pub may_next : (first : ℕ) → MayStage a first (length members) → MayStage b (first + i) 1
  may_next first may = record {
    exclusive = ap (λ (v : View). v.mode) staged.view ∙ may.exclusive;
    undrawn = ap (λ (v : View). v.drawn) staged.view;
    uncommitted = ap (λ (v : View). v.committed) staged.view ∙ may.uncommitted;
    first = may.first;
    noted = ap (λ (v : View). v.hold_clock) staged.view ∙ may.noted;
    next =
        let long = ap (λ (v : View). length v.staged) staged.view ∙ length-append a.view.staged (take i members) in
        let few = length-take-le i members (omega arith) in
        let before = may.next in omega arith;
    limit = may.limit;
    looked = ap (λ (v : View). v.hold_limit) staged.view ∙ may.looked;
    room = let room = may.room in omega arith;
    small = may.small;
  }

  -- and then there is one more
  pub staged_next : (c : Known) (m d : Member) → m ≡ get_or members i d → StagesAll b c (m ∷ []) → StagesAll a c (take (i + 1) members)
  staged_next c m d is next = record {
    seat = seat_trans a b c staged.seat next.seat (λ h held held'. ap (λ (v : View). v.held) staged.view ∙ held);
    view = next.view ∙ ap (λ (v : View). with_staged v c.view (b.view.staged ++ m ∷ [])) staged.view ∙ ap (with_staged a.view c.view) more;
  } where
    more : b.view.staged ++ m ∷ [] ≡ a.view.staged ++ take (i + 1) members
    more = ap (λ (v : View). v.staged ++ m ∷ []) staged.view ∙ append_assoc a.view.staged (take i members) (m ∷ [])
        ∙ ap (λ (l : List Member). a.view.staged ++ l) (ap (λ (x : Member). take i members ++ x ∷ []) is ∙ sym (take_more members i d within))

-- ---- one member

-- the deed of a member that is a write is that member's
pub one_member : (m : Member) → m.1 ≢ Keep → member_of (deed_of m.0 (value_set m.1)) ≡ m ∷ []
one_member m writes = by m.0 m.1 writes where
  by : (key : ℕ) (change : Change) → change ≢ Keep → member_of (deed_of key (value_set change)) ≡ (key, change) ∷ []
  by key Keep ne = absurd (ne refl)
  by key (Set written) ne = refl
  by key Remove ne = refl

-- staged, looked for, entered and decided, with the hints behind it, it is one staged member more
pub staged_one : (a b c d e f : Known) (t key : ℕ) (written : Option (List ℕ)) (deed : Deed) (m : Member) → Stages a b t key written → StaysOut b c
    → c.view.raced ≡ b.view.raced → Enters c d → d.view.raced ≡ c.view.raced → DecidesMember d e t deed → StaysOut e f
    → f.view.raced ≡ e.view.raced → member_of deed ≡ m ∷ [] → StagesAll a f (m ∷ [])
staged_one a b c d e f t key written deed m stages looks unraced enters won decides hints aside is = record {
  seat =
      seat_trans a b f stages.place.seat
      (seat_trans b c f looks.seat
      (seat_trans c d f enters.seat
      (seat_trans d e f decides.place.seat hints.seat (λ h held held'. ap (λ (v : View). v.held) decides.view ∙ held))
      (λ h held held'. ap (λ (v : View). v.held) enters.view ∙ held))
      (λ h held held'. ap (λ (v : View). v.held) looks.view ∙ held))
      (λ h held held'. ap (λ (v : View). v.held) stages.view ∙ held);
  view = (λ i. record f.view { drawn = undrawn i }) ∙ rest ∙ ap (with_staged a.view f.view) more;
} where
  undrawn : f.view.drawn ≡ None
  undrawn = ap (λ (v : View). v.drawn) hints.view ∙ ap (λ (v : View). v.drawn) decides.view

  rest : with_staged f.view f.view f.view.staged ≡ with_staged a.view f.view f.view.staged
  rest =
      ap (λ (v : View). with_staged v f.view f.view.staged) hints.view
      ∙ ap (λ (n : ℕ). record (with_staged e.view f.view f.view.staged) { raced = n }) aside
      ∙ ap (λ (v : View). with_staged v f.view f.view.staged) decides.view
      ∙ ap (λ (v : View). with_staged v f.view f.view.staged) enters.view
      ∙ ap (λ (n : ℕ). record (with_staged c.view f.view f.view.staged) { raced = n }) won
      ∙ ap (λ (v : View). with_staged v f.view f.view.staged) looks.view
      ∙ ap (λ (n : ℕ). record (with_staged b.view f.view f.view.staged) { raced = n }) unraced
      ∙ ap (λ (v : View). with_staged v f.view f.view.staged) stages.view

  before : d.view.staged ≡ a.view.staged
  before = ap (λ (v : View). v.staged) enters.view ∙ ap (λ (v : View). v.staged) looks.view ∙ ap (λ (v : View). v.staged) stages.view

  more : f.view.staged ≡ a.view.staged ++ m ∷ []
  more =
      ap (λ (v : View). v.staged) hints.view
      ∙ ap (λ (v : View). v.staged) decides.view
      ∙ ap (λ (l : List Member). l ++ member_of deed) before
      ∙ ap (λ (l : List Member). a.view.staged ++ l) is

-- ---- the hold

-- it begins alone
pub alone_in_hold : {busy : ℕ} (a b : Known) → IsAtRest a → Sound a → EntersExclusively a b busy → IsAlone b
alone_in_hold a b rests sound enters = record {
  exclusive = ap (λ (v : View). v.mode) enters.view;
  undrawn = ap (λ (v : View). v.drawn) enters.view ∙ rests.undrawn;
  unstaged =
      let free : a.view.mode ≢ Exclusive = λ e. let f = rests.free in absurd cc in
      ap (λ (v : View). v.staged) enters.view ∙ sound.unstaged free;
  unpinned = ap (λ (v : View). v.pinned) enters.view ∙ rests.unpinned;
  settled = subst IsSettled (sym (ap (λ (v : View). v.snapshot) enters.view)) rests.settled;
}

-- ---- the room

-- where fewer times are left than there are members
pub no_room : (a b : Known) (clock limit members : ℕ) → FindsRoom a b clock limit → limit < clock + members → FindsNoRoom a b clock members
no_room a b clock limit members h few = record {
  still = still_by a b h.place (ap left h.view);
  clock = ap (λ (v : View). v.hold_clock) h.view;
  limit = limit;
  looked = ap (λ (v : View). v.hold_limit) h.view;
  short = few;
}

-- and where there are as many
pub may_stage : (a b : Known) (clock limit members : ℕ) → IsAlone a → a.view.committed ≡ false → FindsRoom a b clock limit → clock + members ≤ limit
    → limit < 2 ^ 64 → MayStage b clock members
may_stage a b clock limit members alone uncommitted h room small = record {
  exclusive = ap (λ (v : View). v.mode) h.view ∙ alone.exclusive;
  undrawn = ap (λ (v : View). v.drawn) h.view ∙ alone.undrawn;
  uncommitted = ap (λ (v : View). v.committed) h.view ∙ uncommitted;
  first = clock;
  noted = ap (λ (v : View). v.hold_clock) h.view;
  next = let none : length b.view.staged ≡ 0 = ap (λ (v : View). length v.staged) h.view ∙ ap (λ (l : List Member). length l) alone.unstaged in omega arith;
  limit = limit;
  looked = ap (λ (v : View). v.hold_limit) h.view;
  room = room;
  small = small;
}

-- the whole call, refused in its hold
pub no_room_alone : {busy : ℕ} (a b c d : Known) (members : List Member) (error : BatchError) → FitsDeed a.layout.cells (Group members)
    → EntersExclusively a b busy → Leaves c d → FindsNoRoomFor b c members error → RefusesBatch a d members error
no_room_alone a b c d members (Full t) fits enters leaves h = (
  fits,
  record {
    still = still_trans a b d (still_by a b enters.place (ap left enters.view)) (still_trans b c d h.still (still_by c d leaves.place (ap left leaves.view)));
    clock = ap (λ (v : View). v.hold_clock) leaves.view ∙ h.clock;
    limit = h.limit;
    looked = ap (λ (v : View). v.hold_limit) leaves.view ∙ h.looked;
    short = h.short;
  },
)
no_room_alone a b c d members error fits enters leaves h = absurd h

pub refused_alone : {busy : ℕ} (a b c d : Known) (members : List Member) (r : Result ℕ BatchError) → FitsDeed a.layout.cells (Group members)
    → EntersExclusively a b busy → Leaves c d → IfErr r (FindsNoRoomFor b c members) → IfErr r (RefusesBatch a d members)
refused_alone a b c d members (Ok t) fits enters leaves h = tt
refused_alone a b c d members (Err error) fits enters leaves h = no_room_alone a b c d members error fits enters leaves h

-- ---- what it counts

module _ {busy : ℕ} (a b c d : Known) (enters : EntersExclusively a b busy) (counts : tally_of c ≡ looked (tally_of b) (tally_of c))
    (leaves : Leaves c d) where
  same : tally_of d ≡ tally_of c
  same = ap counted leaves.view

  -- the one entry, and what it looked at in its hold
  pub counts_alone : CountsAlone (record (tally_of a) { busy = busy }) (tally_of d)
  counts_alone =
      same ∙ counts ∙ ap (λ (t : Tally). looked t (tally_of c)) (ap counted enters.view)
      ∙ (λ i. looked (entered_once (record (tally_of a) { busy = busy })) (sym same i))

  busy_is : busy ≡ d.view.busy
  busy_is = sym (ap (λ (t : Tally). t.busy) counts_alone)

  counts_waited : CountsAlone (record (tally_of a) { busy = d.view.busy }) (tally_of d)
  counts_waited = counts_alone ∙ ap (λ (n : ℕ). looked (entered_once (record (tally_of a) { busy = n })) (tally_of d)) busy_is

  pub counts_batch : (members : List Member) (r : Result ℕ BatchError) → IfErr r (FindsNoRoomFor b c members) → CountsBatch (tally_of a) (tally_of d) r
  counts_batch members (Ok t) h = counts_waited
  counts_batch members (Err (Full t)) h = counts_waited
  counts_batch members (Err error) h = absurd h

-- where it was not refused before it
pub counts_refused : (a b c d : Known) → EntersExclusively a b a.view.busy → tally_of c ≡ looked (tally_of b) (tally_of c) → Leaves c d
    → (members : List Member) (error : BatchError) → FindsNoRoomFor b c members error → CountsTryBatch (tally_of a) (tally_of d) (Err (Refused error))
counts_refused a b c d enters counts leaves members (Full t) h = counts_alone a b c d enters counts leaves
counts_refused a b c d enters counts leaves members error h = absurd h

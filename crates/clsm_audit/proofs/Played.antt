-- A walk over the stamps in the order of time: the map at each turn is the map of the history below
-- the turn's time, unless that is inside a batch.
use Rattle.std.proofs.Common.{◌≡◌, ◌≢◌, ℕ, ◌+◌, ◌^◌, ◌<◌, ◌≤◌, Bool, true, false, cond, List, length, get_or, Option, Some, None, IfSome, IsTrue, ◌↔◌}
use Rattle.std.proofs.Common.{MatchOption, max, min, refl, sym, ap, ◌∙◌, subst, arith, ⊎_elim}
use Rattle.std.proofs.lemmas.Bool.{cases_Bool, cases_eq, cases_lt, true≢false}
use Rattle.std.proofs.lemmas.List.{get_or_default}
use Rattle.std.specs.List.{slice_get}
use Rattle.clsm_model.specs.declared.record.CallRecord.{CallRecord}
use Rattle.clsm_model.specs.declared.slot.Slot.TheVariants.{Nothing}
use Rattle.clsm_model.specs.History.{History, IsUncut, slot_at}
use Rattle.clsm_model.specs.Map.{IsMap, Pair}
use Rattle.clsm_model.specs.Seats.{IsRightRecord}
use Rattle.clsm_audit.specs.declared.stamp.Stamp.{Stamp}
use Rattle.clsm_audit.specs.Faults.{HasNone, IsFirstNot, IsSecondAt}
use Rattle.clsm_audit.specs.Lawful.{HasTimes, HaveTimes, IsRightAt}
use Rattle.clsm_audit.specs.Order.{IsInTimeOrder}
use Rattle.clsm_audit.specs.Replayed.{HasComeTo, StandsIn, until_by}
use Rattle.clsm_audit.specs.Written.{WritesAt, batches_of, history_of, is_write, time_past}
use Rattle.clsm_audit.proofs.Batches.{inside_record, record_outside, uncut_at, uncut_from}
use Rattle.clsm_audit.proofs.Indices.{here_if, if_here, itself, nobody, past_end}
use Rattle.clsm_audit.proofs.Seconds.{at_index, some_within, two_writes}
use Rattle.clsm_audit.proofs.Slots.{IsMap-later, slot_at-none, slot_written, time_within}
use Rattle.clsm_audit.proofs.Times.{past_time, past_within, stands_in, writes_each, writes_within}
use Rattle.clsm_audit.proofs.Turns.{nowhere, stamp_for, stamp_in, stamps_apart, stamps_rise}

-- the record of the turn k
abbrev pub turn_of : List CallRecord → List Stamp → ℕ → CallRecord
turn_of records stamps k = get_or records (get_or stamps k nowhere).index nobody

-- no write from the turn j on has a time below s
abbrev pub AreLater : List CallRecord → List Stamp → ℕ → ℕ → Type 0
AreLater records stamps j s = (k : ℕ) → j ≤ k → k < length stamps → is_write (turn_of records stamps k).deed ≡ true → s ≤ (turn_of records stamps k).time

-- a write before the turn j ends above t
pub record EndsAbove (records : List CallRecord) (stamps : List Stamp) (j t : ℕ) : Type 0 where
  pub turn : ℕ
  pub before : turn < j
  pub inside : turn < length stamps
  pub writes : is_write (turn_of records stamps turn).deed ≡ true
  pub above : t < time_past (turn_of records stamps turn)

-- the replay at the turn j: `until` is the first time past the writes before it, and the map is
-- that of the history below each time from there on up to the writes that come
pub record IsPlayed (records : List CallRecord) (stamps : List Stamp) (j until : ℕ) (pairs : List Pair) : Type 0 where
  pub ends : (k : ℕ) → k < j → k < length stamps → is_write (turn_of records stamps k).deed ≡ true → time_past (turn_of records stamps k) ≤ until
  pub reached : (t : ℕ) → t < until → EndsAbove records stamps j t
  pub map : (s : ℕ) → until ≤ s → AreLater records stamps j s → IsMap (history_of records) s pairs

-- the call was played: a write, and nothing else, changes the map
pub record Plays (r : CallRecord) (until until' : ℕ) (old new : List Pair) : Type 0 where
  pub write : (h : History) → StandsIn h r → IsMap h r.time old → IsMap h (time_past r) new
  pub read : is_write r.deed ≡ false → new ≡ old
  pub until_is : until' ≡ until_by until r

-- ---- places

first_or_same : (t u : ℕ) (a b : Bool) → t + t + cond a 1 0 ≤ u + u + cond b 1 0 → (t ≤ u) × (t ≡ u → a ≡ true → b ≡ true)
first_or_same t u true true le = (omega arith, λ e h. refl)
first_or_same t u true false le = (omega arith, λ e h. absurd (omega arith))
first_or_same t u false true le = (omega arith, λ e h. refl)
first_or_same t u false false le = (omega arith, λ e h. h)

until_write : (until : ℕ) (r : CallRecord) → is_write r.deed ≡ true → until_by until r ≡ max until (time_past r)
until_write until r writes = ap (λ (b : Bool). cond b (max until (time_past r)) until) writes

until_read : (until : ℕ) (r : CallRecord) → is_write r.deed ≡ false → until_by until r ≡ until
until_read until r reads = ap (λ (b : Bool). cond b (max until (time_past r)) until) reads

module _ (records : List CallRecord) (stamps : List Stamp) (order : IsInTimeOrder records stamps) (times : HaveTimes records)
    (alone : HasNone (IsSecondAt records)) where
  abbrev at : ℕ → CallRecord
  at k = turn_of records stamps k

  pub index_in : (k : ℕ) → k < length stamps → (get_or stamps k nowhere).index < length records
  index_in k within = (stamp_in records stamps order k nowhere within).0

  -- the record that is read at a turn
  read_here : (k : ℕ) (r : CallRecord) → k < length stamps → r ≡ get_or records (get_or stamps k nowhere).index r → r ≡ at k
  read_here k r within is = is ∙ get_or_default records (get_or stamps k nowhere).index r nobody (index_in k within)

  -- its times are below the bound
  pub past_here : (k : ℕ) (r : CallRecord) → k < length stamps → r ≡ get_or records (get_or stamps k nowhere).index r → time_past r < 2 ^ 64
  past_here k r within is =
      let i = (get_or stamps k nowhere).index in
      past_within r (here_if HasTimes records i r (index_in k within) is (times i))

  has_times : (k : ℕ) → k < length stamps → HasTimes (at k)
  has_times k within =
      let i = (get_or stamps k nowhere).index in
      here_if HasTimes records i (at k) (index_in k within) (itself records i (index_in k within)) (times i)

  -- the record of an earlier turn is not later, and if it is a write at the time of a later turn,
  -- then that turn's record is a write too
  in_order : (j k : ℕ) → j ≤ k → k < length stamps → ((at j).time ≤ (at k).time)
      × ((at j).time ≡ (at k).time → is_write (at j).deed ≡ true → is_write (at k).deed ≡ true)
  in_order j k le within =
      let first = (stamp_in records stamps order j nowhere (omega arith)).1 in
      let second = (stamp_in records stamps order k nowhere within).1 in
      let t = ap (λ (x : Stamp). x.time) first in
      let u = ap (λ (x : Stamp). x.time) second in
      let a = ap (λ (x : Stamp). x.is_write) first in
      let b = ap (λ (x : Stamp). x.is_write) second in
      let rise = first_or_same (get_or stamps j nowhere).time (get_or stamps k nowhere).time (get_or stamps j nowhere).is_write
      (get_or stamps k nowhere).is_write (stamps_rise records stamps order j k nowhere le within) in
      (omega (arith, rise.0), λ same writes. sym b ∙ rise.1 (t ∙ same ∙ sym u) (a ∙ writes))

  -- ---- two writes

  -- the records of two turns do not write at one time
  apart : (j k t : ℕ) → j < k → k < length stamps → WritesAt t (at j) → WritesAt t (at k) → ⊥
  apart j k t lt within writes writes' =
      let i = (get_or stamps j nowhere).index in
      let i' = (get_or stamps k nowhere).index in
      let inside = index_in j (omega arith) in
      let inside' = index_in k within in
      ⊎_elim
      (λ (up : i < i'). two_writes records alone i i' t (at j) (at k) up inside inside' (itself records i inside) (itself records i' inside') writes writes')
      (λ (le : i' ≤ i). ⊎_elim
      (λ (down : i' < i). two_writes records alone i' i t (at k) (at j) down inside' inside (itself records i' inside')
      (itself records i inside) writes' writes)
      (λ (ge : i ≤ i'). stamps_apart records stamps order j k nowhere lt within (omega arith))
      (cases_lt i' i))
      (cases_lt i i')

  -- ---- the time of a turn

  -- no write from the turn on is below its time
  later_here : (j : ℕ) → j < length stamps → AreLater records stamps j (at j).time
  later_here j within k le inside writes = (in_order j k le inside).0

  -- an earlier write that ends above the time of a turn is a batch, and the time is inside it
  ends_inside : (j : ℕ) → j < length stamps → EndsAbove records stamps j (at j).time → (k : ℕ) × (k < length stamps) × ((at k).time < (at j).time)
      × ((at j).time < time_past (at k))
  ends_inside j within above =
      let k = above.turn in
      let inside = above.inside in
      let order = in_order k j (let lt = above.before in omega arith) within in (
        k,
        inside,
        ⊎_elim
            (λ (lt : (at k).time < (at j).time). lt)
            (λ (le : (at j).time ≤ (at k).time).
            let same : (at k).time ≡ (at j).time = omega (arith, order.0) in
            let writes = order.1 same above.writes in
            absurd (apart k j (at j).time above.before within
            (writes_each (at k) (at j).time (has_times k inside).writes above.writes (omega arith) above.above)
            (writes_each (at j) (at j).time (has_times j within).writes writes (omega arith) (past_time (at j) (has_times j within).writes))))
            (cases_lt (at k).time (at j).time),
        above.above,
      )

  -- at a write no earlier write ends above its time
  until_at_write : (j until : ℕ) (pairs : List Pair) → j < length stamps → is_write (at j).deed ≡ true → IsPlayed records stamps j until pairs
      → until ≤ (at j).time
  until_at_write j until pairs within writes played =
      ⊎_elim
      (λ (lt : (at j).time < until).
      let above = played.reached (at j).time lt in
      let inside = ends_inside j within above in
      absurd (apart above.turn j (at j).time above.before within
      (writes_each (at above.turn) (at j).time (has_times above.turn above.inside).writes above.writes
      (in_order above.turn j (let lt = above.before in omega arith) within).0 above.above)
      (writes_each (at j) (at j).time (has_times j within).writes writes (omega arith) (past_time (at j) (has_times j within).writes))))
      (λ (le : until ≤ (at j).time). le)
      (cases_lt (at j).time until)

  -- the time of a turn is inside no batch where no earlier write ends above it
  uncut_here : (j until : ℕ) (pairs : List Pair) → j < length stamps → IsPlayed records stamps j until pairs → until ≤ (at j).time
      → IsUncut (history_of records).batches (at j).time
  uncut_here j until pairs within played le = uncut_from records (at j).time (λ i inside.
      record_outside (at j).time (get_or records i nobody) (λ writes low high.
      let found = stamp_for records stamps order i nowhere inside in
      let k = found.0 in
      let is : at k ≡ get_or records i nobody = ap (λ (n : ℕ). get_or records n nobody) found.2 in
      let time = ap (λ (r : CallRecord). r.time) is in
      let past = ap (λ (r : CallRecord). time_past r) is in
      ⊎_elim
      (λ (lt : k < j). let end = played.ends k lt found.1 (ap (λ (r : CallRecord). is_write r.deed) is ∙ writes) in omega arith)
      (λ (from : j ≤ k). let rise = (in_order j k from found.1).0 in omega arith)
      (cases_lt k j)))

  here_uncut : (j until : ℕ) (pairs : List Pair) → j < length stamps → IsPlayed records stamps j until pairs
      → IsUncut (history_of records).batches (at j).time → until ≤ (at j).time
  here_uncut j until pairs within played uncut =
      ⊎_elim
      (λ (lt : (at j).time < until).
      let found = ends_inside j within (played.reached (at j).time lt) in
      let k = found.0 in
      absurd (inside_record (at j).time (at k) (uncut_at records (at j).time (get_or stamps k nowhere).index uncut (index_in k found.1)) found.2 found.3))
      (λ (le : until ≤ (at j).time). le)
      (cases_lt (at j).time until)

  -- so the replay has come there
  pub comes_to : (j until : ℕ) (pairs : List Pair) → j < length stamps → IsPlayed records stamps j until pairs
      → HasComeTo (history_of records) (at j).time until pairs
  comes_to j until pairs within played = record {
    reached = time_within records (get_or stamps j nowhere).index (index_in j within);
    uncut = (here_uncut j until pairs within played, uncut_here j until pairs within played);
    map = λ le. played.map (at j).time le (later_here j within);
  }

  -- ---- times with no write

  -- where no turn's record writes at the time, the history has nothing there
  nothing_at : (t : ℕ) → ((k : ℕ) → k < length stamps → is_write (at k).deed ≡ true → (at k).time ≤ t → t < time_past (at k) → ⊥)
      → slot_at (history_of records) t ≡ Nothing
  nothing_at t none = slot_at-none records t (λ i writes.
      let inside = some_within (WritesAt t) records i writes in
      let found = stamp_for records stamps order i nowhere inside in
      let is : get_or records i nobody ≡ at found.0 = ap (λ (n : ℕ). get_or records n nobody) (sym found.2) in
      let here = writes_within (at found.0) t
      (subst (WritesAt t) is ((at_index (WritesAt t) records i (get_or records i nobody) inside (itself records i inside)).1 writes)) in
      none found.0 found.1 here.0 here.1 here.2)

  -- ---- the walk

  -- the empty map, before the first turn
  pub played_first : (until : ℕ) (pairs : List Pair) → until ≡ 0 → IsMap (history_of records) 0 pairs → IsPlayed records stamps 0 until pairs
  played_first until pairs none empty = record {
    ends = λ k lt within writes. absurd (omega arith);
    reached = λ t lt. absurd (omega arith);
    map = λ s le later. IsMap-later (history_of records) 0 s pairs (omega arith) (λ t from below.
        nothing_at t (λ k within writes low high. let le = later k (omega arith) within writes in omega arith)) empty;
  }

  -- a turn that does not write
  played_read : (j until : ℕ) (pairs : List Pair) → j < length stamps → is_write (at j).deed ≡ false → IsPlayed records stamps j until pairs
      → IsPlayed records stamps (j + 1) until pairs
  played_read j until pairs within reads played = record {
    ends = λ k lt inside writes. ⊎_elim
        (λ (here : k ≡ j). absurd (not_here k here writes))
        (λ (ne : k ≢ j). played.ends k (omega arith) inside writes)
        (cases_eq k j);
    reached = λ t lt. let above = played.reached t lt in record {
      turn = above.turn;
      before = let b = above.before in omega arith;
      inside = above.inside;
      writes = above.writes;
      above = above.above;
    };
    map = λ s le later. played.map s le (λ k from inside writes. ⊎_elim
        (λ (here : k ≡ j). absurd (not_here k here writes))
        (λ (ne : k ≢ j). later k (omega arith) inside writes)
        (cases_eq k j));
  }
    where
      not_here : (k : ℕ) → k ≡ j → is_write (at k).deed ≡ true → ⊥
      not_here k here writes = true≢false (sym writes ∙ ap (λ (n : ℕ). is_write (at n).deed) here ∙ reads)

  -- a turn that writes
  played_write : (j until until' : ℕ) (old new : List Pair) → j < length stamps → is_write (at j).deed ≡ true → until' ≡ max until (time_past (at j))
      → IsMap (history_of records) (time_past (at j)) new → IsPlayed records stamps j until old → IsPlayed records stamps (j + 1) until' new
  played_write j until until' old new within writes is now played =
      let before = until_at_write j until old within writes played in
      let past = past_time (at j) (has_times j within).writes in
      record {
        ends = λ k lt inside writes'. ⊎_elim
            (λ (here : k ≡ j). let same = ap (λ (n : ℕ). time_past (at n)) here in omega arith)
            (λ (ne : k ≢ j). let end = played.ends k (omega arith) inside writes' in omega arith)
            (cases_eq k j);
        reached = λ t lt. record { turn = j; before = omega arith; inside = within; writes = writes; above = omega arith };
        map = λ s le later. IsMap-later (history_of records) (time_past (at j)) s new (omega arith) (λ u from below.
            nothing_at u (λ k inside writes' low high. ⊎_elim
            (λ (gt : j < k). let le = later k (omega arith) inside writes' in omega arith)
            (λ (le : k ≤ j). ⊎_elim
            (λ (here : k ≡ j). let same = ap (λ (n : ℕ). time_past (at n)) here in omega arith)
            (λ (ne : k ≢ j). let end = played.ends k (omega arith) inside writes' in omega arith)
            (cases_eq k j))
            (cases_lt j k))) now;
      }

  -- each write of a turn's record is what its time came to
  stands_here : (j : ℕ) → j < length stamps → is_write (at j).deed ≡ true → StandsIn (history_of records) (at j)
  stands_here j within writes = stands_in (history_of records) (at j) (has_times j within).writes writes (λ t w is.
      slot_written records alone (get_or stamps j nowhere).index t w (index_in j within) is)

  -- a turn, as the record that is read there is played
  pub played_next : (j until until' : ℕ) (old new : List Pair) (r : CallRecord) → j < length stamps → r ≡ get_or records (get_or stamps j nowhere).index r
      → IsPlayed records stamps j until old → Plays r until until' old new → IsPlayed records stamps (j + 1) until' new
  played_next j until until' old new r within is played played_r =
      let plays = subst (λ (q : CallRecord). Plays q until until' old new) (read_here j r within is) played_r in
      ⊎_elim
      (λ (writes : is_write (at j).deed ≡ true).
      played_write j until until' old new within writes (plays.until_is ∙ until_write until (at j) writes)
      (plays.write (history_of records) (stands_here j within writes) (played.map (at j).time (until_at_write j until old within writes played)
      (later_here j within))) played)
      (λ (reads : is_write (at j).deed ≡ false).
      subst (λ (n : ℕ). IsPlayed records stamps (j + 1) n new) (sym (plays.until_is ∙ until_read until (at j) reads))
      (subst (IsPlayed records stamps (j + 1) until) (sym (plays.read reads)) (played_read j until old within reads played)))
      (cases_Bool (is_write (at j).deed))

  -- and what is right at it
  pub right_here : (j until : ℕ) (pairs : List Pair) (r : CallRecord) (right : Bool) → j < length stamps
      → r ≡ get_or records (get_or stamps j nowhere).index r → IsPlayed records stamps j until pairs
      → ((h : History) → HasComeTo h r.time until pairs → IsTrue right ↔ IsRightRecord h r)
      → IsTrue right ↔ IsRightAt records (get_or stamps j nowhere).index
  right_here j until pairs r right within is played tested =
      let i = (get_or stamps j nowhere).index in
      let inside = index_in j within in
      let come = subst (λ (q : CallRecord). HasComeTo (history_of records) q.time until pairs) (sym (read_here j r within is))
      (comes_to j until pairs within played) in
      let same = tested (history_of records) come in (
        λ e. if_here (IsRightRecord (history_of records)) records i r inside is (same.0 e),
        λ e. same.1 (here_if (IsRightRecord (history_of records)) records i r inside is e),
      )

  -- and its map
  pub map_here : (j until index : ℕ) (pairs : List Pair) → j < length stamps → (get_or stamps j nowhere).index ≡ index → IsPlayed records stamps j until pairs
      → IfSome (slice_get records index) (λ r. IsUncut (batches_of records) r.time → IsMap (history_of records) r.time pairs)
  map_here j until index pairs within is played =
      let i = (get_or stamps j nowhere).index in
      let inside = index_in j within in
      let come = comes_to j until pairs within played in
      subst (λ (n : ℕ). IfSome (slice_get records n) (λ r. IsUncut (batches_of records) r.time → IsMap (history_of records) r.time pairs)) is
      (if_here (λ r. IsUncut (batches_of records) r.time → IsMap (history_of records) r.time pairs) records i (at j) inside (itself records i inside)
      (λ uncut. come.map (come.uncut.0 uncut)))

-- ---- what was found before a turn

-- each turn's record is right whose index is below the one found, and the one found is not
pub record IsFoundBefore (records : List CallRecord) (stamps : List Stamp) (j : ℕ) (found : Option ℕ) : Type 0 where
  pub wrong : IfSome found (λ i. ¬ IsRightAt records i)
  pub right : (k : ℕ) → k < j → IfSome found (λ first. (get_or stamps k nowhere).index < first) → IsRightAt records (get_or stamps k nowhere).index

pub found_right : (records : List CallRecord) (stamps : List Stamp) (j : ℕ) (found : Option ℕ) → IsRightAt records (get_or stamps j nowhere).index
    → IsFoundBefore records stamps j found → IsFoundBefore records stamps (j + 1) found
found_right records stamps j found right before = record {
  wrong = before.wrong;
  right = λ k lt below.
      ⊎_elim
      (λ (here : k ≡ j). subst (λ (n : ℕ). IsRightAt records (get_or stamps n nowhere).index) (sym here) right)
      (λ (ne : k ≢ j). before.right k (omega arith) below)
      (cases_eq k j);
}

-- the lower one of two indices is at most each, and is one of them
lower_wrong : (records : List CallRecord) (i lowest : ℕ) (found : Option ℕ) → MatchOption found (lowest ≡ i) (λ first. lowest ≡ min first i)
    → IfSome found (λ f. ¬ IsRightAt records f) → ¬ IsRightAt records i → ¬ IsRightAt records lowest
lower_wrong records i lowest None is wrong here = subst (λ (n : ℕ). ¬ IsRightAt records n) (sym is) here
lower_wrong records i lowest (Some first) is wrong here =
    ⊎_elim
    (λ (lt : first < i). subst (λ (n : ℕ). ¬ IsRightAt records n) (let e : first ≡ lowest = omega arith in e) wrong)
    (λ (le : i ≤ first). subst (λ (n : ℕ). ¬ IsRightAt records n) (let e : i ≡ lowest = omega arith in e) here)
    (cases_lt first i)

lower_below : (i lowest k : ℕ) (found : Option ℕ) → MatchOption found (lowest ≡ i) (λ first. lowest ≡ min first i) → k < lowest
    → IfSome found (λ first. k < first) × (k < i)
lower_below i lowest k None is lt = (tt, omega arith)
lower_below i lowest k (Some first) is lt = (omega arith, omega arith)

pub found_wrong : (records : List CallRecord) (stamps : List Stamp) (j lowest : ℕ) (found : Option ℕ) → ¬ IsRightAt records (get_or stamps j nowhere).index
    → MatchOption found (lowest ≡ (get_or stamps j nowhere).index) (λ first. lowest ≡ min first (get_or stamps j nowhere).index)
    → IsFoundBefore records stamps j found → IsFoundBefore records stamps (j + 1) (Some lowest)
found_wrong records stamps j lowest found here is before = record {
  wrong = lower_wrong records (get_or stamps j nowhere).index lowest found is before.wrong here;
  right = λ k lt below.
      ⊎_elim
      (λ (at : k ≡ j). let same = ap (λ (n : ℕ). (get_or stamps n nowhere).index) at in
      let above = (lower_below (get_or stamps j nowhere).index lowest (get_or stamps k nowhere).index found is below).1 in absurd (omega arith))
      (λ (ne : k ≢ j). before.right k (omega arith) (lower_below (get_or stamps j nowhere).index lowest (get_or stamps k nowhere).index found is below).0)
      (cases_eq k j);
}

-- after the last turn each record was seen
pub found_all : (records : List CallRecord) (stamps : List Stamp) (n : ℕ) (found : Option ℕ) → IsInTimeOrder records stamps → length stamps ≤ n
    → IsFoundBefore records stamps n found → IsFirstNot (IsRightAt records) found
found_all records stamps n found order all before = record {
  fails = before.wrong;
  below = λ i lower. ⊎_elim
      (λ (lt : i < length records).
      let k = stamp_for records stamps order i nowhere lt in
      subst (IsRightAt records) k.2 (before.right k.0 (omega (arith, k.1)) (subst (λ (m : ℕ). IfSome found (λ first. m < first)) (sym k.2) lower)))
      (λ (past : length records ≤ i). past_end (IsRightRecord (history_of records)) records i past)
      (cases_lt i (length records));
}

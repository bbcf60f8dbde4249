-- Seats that followed one another and are confirmed by the last one have a joint history: what that
-- one knows.
use Rattle.std.proofs.Common.{◌≡◌, ℕ, zero, suc, ◌<◌, ◌≤◌, ◌==◌, Bool, true, false, cond, List, [], ◌∷◌, length, get_or, refl, ap, ◌∙◌, sym, subst, arith}
use Rattle.std.proofs.Common.{lt-ltb, le-ltb, ltb, lt_of_not-le, Option}
use Rattle.std.specs.List.{AllByRecursion}
use native.Mathlib.Decide.{dec_le}
use Rattle.std.proofs.lemmas.List.{get_or_append_left}
use Rattle.clsm_model.specs.declared.slot.Slot.{Slot}
use Rattle.clsm_model.specs.declared.slot.Slot.TheVariants.{Nothing}
use Rattle.clsm_model.specs.declared.record.CallRecord.{CallRecord}
use Rattle.clsm_model.specs.declared.record.Deed.{Deed}
use Rattle.clsm_model.specs.declared.record.Deed.TheVariants.{Put, Remove, Batch as Group}
use Rattle.clsm_model.specs.History.{History, AreInTurn, IsBeginning, end_of, plain}
use Rattle.clsm_model.specs.Seats.{IsListedDeed, IsListedRecord, IsRightDeed, IsRightRecord, IsUncutDeed, IsUncutRecord, Rises, due_after, last_due, open_after}
use Rattle.clsm_model.proofs.Batches.{below_zero}
use Rattle.clsm_model.proofs.Histories.{Reads-same}
use Rattle.clsm_model.proofs.Rising.{last_grows}
use Rattle.clsm_model.proofs.Written.{one_write}
use Rattle.clsm_law.proofs.Records.Histories.{GoesOn, records_right-go_on}
use Rattle.clsm_words.specs.Knowing.{IsListedWithin}
use Rattle.clsm_store.specs.Headline.{HasAllSeats, IsAt, IsJointHistory, IsSeatIn, IsWholeHistory, longest_past}
use Rattle.clsm_store.specs.Meetings.{AreChained, AreConfirmed, AreDueBelow, AreMet, AreMetAt, AreOf, IsConfirmedBy, IsLast}
use Rattle.clsm_store_calls.specs.Seats.{SeatState, StoreId, known_by}
use Rattle.clsm_store.proofs.SeatPlaces.{all_at, at_all, at_get, begins_all, begins_length, each}

-- ---- one seat

-- the slots of a history go on from those of a beginning of it
begins_on : (past h : History) → IsBeginning past h → GoesOn (plain past.slots) (plain h.slots)
begins_on past h begins = record {
  plain = refl;
  longer = begins_length past h begins;
  same = λ t lt. ap (λ (slots : List Slot). get_or slots t Nothing) (sym begins.slots.1) ∙ get_or_append_left past.slots begins.slots.0 Nothing t lt;
}

-- what is right in the slots alone, and reads inside no batch, is right in the history
right_deed : (h : History) (s : ℕ) (deed : Deed) → IsRightDeed (plain h.slots) s deed → IsUncutDeed h.batches s deed → IsRightDeed h s deed
right_deed h s (Put key written) right uncut = tt
right_deed h s (Remove key) right uncut = tt
right_deed h s (Group members) right uncut = tt
right_deed h s deed right uncut = record {
  readable = record { reached = right.readable.reached; uncut = uncut };
  reads = Reads-same (plain h.slots) h s deed (λ t lt. refl) right.reads;
}

right_records : (h : History) (calls : List CallRecord) → AllByRecursion (IsRightRecord (plain h.slots)) calls
    → AllByRecursion (IsUncutRecord h.batches) calls → AllByRecursion (IsRightRecord h) calls
right_records h [] right uncut = tt
right_records h (r ∷ rs) right uncut = (right_deed h r.time r.deed right.0 uncut.0, right_records h rs right.1 uncut.1)

-- a batch that moves the due within the history is listed
listed_deed : (h : History) (due s : ℕ) (snapshot : Option ℕ) (deed : Deed) → due_after due snapshot s deed ≤ end_of h → IsListedWithin h s deed
    → IsListedDeed h.batches s deed
listed_deed h due s snapshot (Group members) le within = within le
listed_deed h due s snapshot deed le within = tt

listed_records : (h : History) (due : ℕ) (snapshot : Option ℕ) (calls : List CallRecord) → Rises due snapshot calls → last_due due snapshot calls ≤ end_of h
    → AllByRecursion (λ r. IsListedWithin h r.time r.deed) calls → AllByRecursion (IsListedRecord h.batches) calls
listed_records h due snapshot [] rises le all = tt
listed_records h due snapshot (r ∷ rs) rises le all =
    let after : ℕ = due_after due snapshot r.time r.deed in
    let open' : Option ℕ = open_after snapshot r.time r.deed in (
      listed_deed h due r.time snapshot r.deed (let grows = last_grows after open' rs rises.1 in omega arith) all.0,
      listed_records h after open' rs rises.1 le all.1,
    )

-- a confirmed seat's calls are its part of the history
seat_in : (h : History) (s : SeatState) → IsBeginning (known_by s) h → IsConfirmedBy h s → s.due ≤ end_of (known_by s) → IsSeatIn h s
seat_in h s begins confirmed reached =
    let rising = confirmed.lawful.0.rising in
    let within : s.due ≤ end_of h = let long = begins_length (known_by s) h begins in omega arith in
    record {
      begins = begins;
      part = record {
        reached = within;
        stand = confirmed.agrees.stand;
        each = λ t key written lt is. one_write s.number t 0 _ _ s.calls rising.rises (confirmed.agrees.recorded t key written lt is);
        listed = listed_records h 0 _ s.calls rising.rises (let due = rising.due_is in omega arith) confirmed.agrees.listed;
        right = right_records h s.calls (records_right-go_on (plain s.past) (plain h.slots) s.calls
            (begins_on (known_by s) h begins) confirmed.lawful.0.right) confirmed.agrees.uncut;
        rising = rising;
      };
    }

-- ---- the longest past

by_less : (P : Bool → Type 0) (a b : ℕ) → (a < b → P true) → (b ≤ a → P false) → P (ltb a b)
by_less P a b hit miss = elim (dec_le b a) [
  | yes le ↦ subst P (sym (le-ltb a b le)) (miss le)
  | no nle ↦ let lt = lt_of_not-le nle in subst P (sym (lt-ltb a b lt)) (hit lt)
]

abbrev IsInTurn : History → Type 0
IsInTurn h = AreInTurn 0 h.batches (end_of h)

-- what holds of the empty history and of what each seat knows holds of the longest
of_longest : (P : History → Type 0) (seats : List SeatState) → P (plain []) → ((i : ℕ) (s : SeatState) → IsAt seats i s → P (known_by s))
    → P (longest_past seats)
of_longest P [] none all = none
of_longest P (s ∷ ss) none all = by_less (λ b. P (cond b (known_by s) (longest_past ss))) (end_of (longest_past ss)) (end_of (known_by s))
    (λ _. all 0 s (omega arith, refl)) (λ _. of_longest P ss none (λ i t at. all (suc i) t ((let a = at.0 in omega arith), at.1)))

longest_covers : (seats : List SeatState) (i : ℕ) (s : SeatState) → IsAt seats i s → end_of (known_by s) ≤ end_of (longest_past seats)
longest_covers [] i s at = absurd (let a = at.0 in omega arith)
longest_covers (x ∷ xs) zero s at = let e : end_of (known_by x) ≡ end_of (known_by s) = ap (λ (z : SeatState). end_of (known_by z)) at.1 in
    by_less (λ b. end_of (known_by s) ≤ end_of (cond b (known_by x) (longest_past xs))) (end_of (longest_past xs)) (end_of (known_by x)) (λ _. omega arith)
    (λ le. omega arith)
longest_covers (x ∷ xs) (suc i) s at = let c = longest_covers xs i s ((let a = at.0 in omega arith), at.1) in
    by_less (λ b. end_of (known_by s) ≤ end_of (cond b (known_by x) (longest_past xs))) (end_of (longest_past xs)) (end_of (known_by x)) (λ lt. omega arith)
    (λ le. omega arith)

-- ---- all of them

has_last : (seats : List SeatState) → 0 < length seats → (s : SeatState) × IsLast seats s
has_last [] lt = absurd (omega arith)
has_last (x ∷ xs) lt = let n : ℕ = length xs in (get_or (x ∷ xs) n x, (n, omega arith, at_get (x ∷ xs) n x (omega arith)))

module _ (store : StoreId) (seats : List SeatState) (some : 0 < length seats) (chained : AreChained seats) (confirmed : AreConfirmed seats)
    (reach : (i : ℕ) (s : SeatState) → IsAt seats i s → s.due ≤ end_of (known_by s)) where
  abbrev last : SeatState
  last = (has_last seats some).0

  abbrev end : IsLast seats last
  end = (has_last seats some).1

  begins : (i : ℕ) (s : SeatState) → IsAt seats i s → IsBeginning (known_by s) (known_by last)
  begins i s at = (chained i end.0 s last (let e = end.1 in let a = at.0 in omega arith) at end.2).1

  turn : IsInTurn (known_by last)
  turn = (confirmed end.0 last last end.2 end).lawful.1

  is : longest_past seats ≡ known_by last
  is = begins_all (longest_past seats) (known_by last)
      (of_longest (λ (h : History). IsBeginning h (known_by last)) seats (record { slots = (last.past, refl); batches = sym (below_zero last.batches) }) begins)
      (longest_covers seats end.0 last end.2)
      (of_longest IsInTurn seats (omega arith) (λ i s at. (confirmed i s last at end).lawful.1))
      turn

  joint_last : IsJointHistory seats (known_by last)
  joint_last = record {
    parts = each (IsSeatIn (known_by last)) seats (λ i s at. seat_in (known_by last) s (begins i s at) (confirmed i s last at end)
        (reach i s at));
    in_turn = turn;
  }

  pub joint : IsJointHistory seats (longest_past seats)
  joint = subst (IsJointHistory seats) (sym is) joint_last

  pub whole : AreOf store seats → HasAllSeats store seats → IsWholeHistory seats (longest_past seats)
  whole of all = subst (IsWholeHistory seats) (sym is) record {
    joint = joint_last;
    theirs = λ t n key written lt e.
        let own = confirmed end.0 last last end.2 end in
        let same = at_all store seats of end.0 last end.2 in
        all n (subst (λ (z : StoreId). n < z.layout.seats) same (own.agrees.numbered t n key written lt e));
  }

pub none_joint : (seats : List SeatState) → length seats ≡ 0 → IsJointHistory seats (longest_past seats)
none_joint [] e = record { parts = λ k d lt. absurd (omega arith); in_turn = omega arith }
none_joint (x ∷ xs) e = absurd (omega arith)

pub none_whole : (seats : List SeatState) → length seats ≡ 0 → IsWholeHistory seats (longest_past seats)
none_whole [] e = record { joint = none_joint [] refl; theirs = λ t n key written lt is. absurd (omega arith) }
none_whole (x ∷ xs) e = absurd (omega arith)

module _ (t : ℕ) (old new : List SeatState) (m : AreMetAt t old new) where
  -- the seat that stood there before
  pub was : (i : ℕ) (s : SeatState) → IsAt new i s → (b : SeatState) × IsAt old i b
  was i s at = (get_or old i s, at_get old i s (let a = at.0 in let c = m.count in omega arith))

  pub still_of : (store : StoreId) → AreOf store old → AreOf store new
  still_of store of = all_at store new (λ i s at. let b = was i s at in (m.each i b.0 s b.1 at).read.same.store ∙ at_all store old of i b.0 b.1)

  pub still_all : (store : StoreId) → HasAllSeats store old → HasAllSeats store new
  still_all store all n lt = let a = all n lt in
      let now = at_get new a.0 a.1 (let x = a.2.0 in let c = m.count in omega arith) in
      (a.0, get_or new a.0 a.1, now, (m.each a.0 a.1 (get_or new a.0 a.1) a.2 now).read.same.number ∙ a.3)

  pub reach : (i : ℕ) (s : SeatState) → IsAt new i s → s.due ≤ end_of (known_by s)
  reach i s at = let b = was i s at in (m.each i b.0 s b.1 at).read.reaches

  pub are_met : AreDueBelow t old → AreMet old new
  are_met below = record {
    count = m.count;
    each = λ i j s s' other before after at. let x = m.each i s s' before after in let b = below j other at in
        record { read = x.read; due = let d = x.due in omega arith };
  }

pub nonzero : (n : ℕ) → (n == 0) ≡ false → 0 < n
nonzero zero e = absurd cc
nonzero (suc n) e = omega arith

-- no seats met nobody
pub none_met : (seats : List SeatState) → length seats ≡ 0 → AreMet seats seats
none_met [] e = record { count = refl; each = λ i j s s' other before after at. absurd (let b = before.0 in omega arith) }
none_met (x ∷ xs) e = absurd (omega arith)

-- Where no write of a key came between two times, the key has the same value at both.
use Rattle.std.proofs.Common.{◌≡◌, ℕ, zero, suc, ◌*◌, ◌<◌, ◌≤◌, ◌==◌, ◌↔◌, Bool, true, false, not, min, List, length, get_or, refl, sym, ap, ◌∙◌, subst, arith}
use Rattle.std.proofs.Common.{inl, inr, IsTrue, Option}
use Rattle.std.proofs.Common.{Some, None}
use Rattle.std.proofs.lemmas.Bool.{cases_lt, false_from_ne_true}
use Rattle.std.proofs.lemmas.List.{get_or_append_left}
use Rattle.std.proofs.lemmas.Option.{cond_some}
use Rattle.clsm_model.specs.declared.slot.Slot.{Slot}
use Rattle.clsm_model.specs.declared.slot.Slot.TheVariants.{Nothing, Wrote}
use Rattle.clsm_model.specs.declared.record.Deed.{Deed}
use Rattle.clsm_model.specs.declared.record.Deed.TheVariants.{Rmw}
use Rattle.clsm_model.specs.Right.{IsRight}
use Rattle.clsm_law.specs.OpenSteps.{IsReadBelow}
use Rattle.clsm_law.specs.declared.layout.Layout.{Layout}
use Rattle.clsm_law.specs.declared.view.View.{View}
use Rattle.clsm_model.specs.History.{History, Write, left_by, newest, or_else, plain, slot_at, value, write_of}
use mathlib.Core.List.{IsPrefix}
use Rattle.clsm_model.proofs.Histories.{value-same}
use Rattle.clsm_words.specs.declared.known.Known.{Known}
use Rattle.clsm_words.specs.Keeping.{Looks, OnlyReads}
use Rattle.clsm_words.specs.Knowing.{Sound}
use Rattle.clsm_law.proofs.Finding.Values.{newest_none}
use Rattle.clsm_memtable.specs.Writing.{Draws}
use Rattle.clsm_search.specs.declared.spans.Span.{Span}
use Rattle.clsm_search.specs.Searching.{IsNewest, is_hit, slot_in, value_in}
use Rattle.clsm_search.specs.Spans.{IsWrittenIn}
use Rattle.clsm_search.proofs.Chains.{wrote_of}
use Rattle.clsm_search.proofs.NewestWrites.{none_written}
use Rattle.clsm_store_calls.specs.declared.changing.Modified.{Modified}
use Rattle.clsm_store_calls.specs.Changing.{HasKept, IsToFill, IsWrittenFrom, deed_by}
use Rattle.clsm_store_calls.specs.Resting.{IsSettled}

its_time : (key t : ℕ) (slot : Slot) (w : Write) → write_of key t slot ≡ Some w → w.time ≡ t
its_time key t Nothing w e = absurd cc
its_time key t (Wrote seat k written) w e = let same = (cond_some (k == key) (record { time = t; value = written }) w e).1 in
    sym (ap (λ (v : Write). v.time) same)

-- the newest write below a time is below it
newest_below : (h : History) (key s : ℕ) (w : Write) → newest h key s ≡ Some w → w.time < s
newest_below h key zero w e = absurd cc
newest_below h key (suc u) w e = by (write_of key u (slot_at h u)) refl (newest_below h key u w) where
  by : (a : Option Write) → write_of key u (slot_at h u) ≡ a → (newest h key u ≡ Some w → w.time < u) → w.time < suc u
  by None is before = let b = before (sym (ap (λ (o : Option Write). or_else o (newest h key u)) is) ∙ e) in omega arith
  by (Some v) is before = let same : Some v ≡ Some w = sym (ap (λ (o : Option Write). or_else o (newest h key u)) is) ∙ e in
      let at = its_time key u (slot_at h u) w (is ∙ same) in omega arith

-- where the newest write below t is below s, it is the newest below s
newest_stays : (h : History) (key s t : ℕ) → s ≤ t → ((w : Write) → newest h key t ≡ Some w → w.time < s) → newest h key t ≡ newest h key s
newest_stays h key s zero le early = let same : 0 ≡ s = omega arith in ap (newest h key) same
newest_stays h key s (suc u) le early = elim (cases_lt u s) [
  | inl lt ↦ let same : suc u ≡ s = omega arith in ap (newest h key) same
  | inr ge ↦ by (write_of key u (slot_at h u)) refl ge (newest_stays h key s u ge)
]
  where
    by : (a : Option Write) → write_of key u (slot_at h u) ≡ a → s ≤ u
        → (((w : Write) → newest h key u ≡ Some w → w.time < s) → newest h key u ≡ newest h key s) → newest h key (suc u) ≡ newest h key s
    by None is ge before = let down = ap (λ (o : Option Write). or_else o (newest h key u)) is in down ∙ before (λ w e. early w (down ∙ e))
    by (Some v) is ge before = let at = its_time key u (slot_at h u) v is in let lt = early v (ap (λ (o : Option Write). or_else o (newest h key u)) is) in
        absurd (omega arith)

module _ (k k' : Known) (component key from until : ℕ) (looks : Looks k k') (le : from ≤ until) where
  there : newest (plain k'.past) key until ≡ newest (plain k'.past) key from → value (plain k'.past) key until ≡ value (plain k'.past) key from
  there e = ap left_by e

  same : (t : ℕ) → newest (plain k'.past) key t ≡ newest (plain k.past) key t
  same t = ap (λ (slots : List Slot). newest (plain slots) key t) looks.past

  pub unchanged_found : (t : ℕ) → IsNewest k component key until (Some t) → t < from → value (plain k'.past) key until
      ≡ value (plain k'.past) key from
  unchanged_found t is lt = there (newest_stays (plain k'.past) key from until le (λ w e.
      let found_is : Some (record { time = t; value = value_in (slot_in k t) }) ≡ Some w = sym is ∙ sym (same until) ∙ e in
      subst (λ (n : ℕ). n < from) (time_of (record { time = t; value = value_in (slot_in k t) }) w found_is) lt))
    where
      time_of : (v w : Write) → Some v ≡ Some w → v.time ≡ w.time
      time_of v w e = cc

  pub unchanged_none : component * k.layout.cells ≤ from → IsNewest k component key until None → value (plain k'.past) key until
      ≡ value (plain k'.past) key from
  unchanged_none merged is = there (newest_stays (plain k'.past) key from until le (λ w e.
      let b = newest_below (plain k.past) key (min until (component * k.layout.cells)) w (sym is ∙ sym (same until) ∙ e) in omega arith))

-- ---- a span, by its times

module _ (k k' : Known) (span : Span) (looks : Looks k k') where
  unwritten : span.from ≤ span.until → (¬ IsWrittenIn k span) → value (plain k'.past) span.key span.until ≡ value (plain k'.past) span.key span.from
  unwritten le none = ap (λ (slots : List Slot). value (plain slots) span.key span.until) looks.past
      ∙ ap left_by (newest_none (plain k.past) span.key span.from span.until le (λ t from below.
      none_written (slot_in k t) span.key t (false_from_ne_true (is_hit k.past span.key t)
      (λ hit. none (record { time = t; from = from; below = below; write = hit })))))
      ∙ sym (ap (λ (slots : List Slot). value (plain slots) span.key span.from) looks.past)

  written : IsWrittenIn k span → IsWrittenFrom k'.past span.key span.from
  written is = let wrote = wrote_of (slot_in k is.time) span.key is.write in record {
    time = is.time;
    above = is.from;
    seat = wrote.0;
    written = wrote.1;
    stands = ap (λ (slots : List Slot). get_or slots is.time Nothing) looks.past ∙ wrote.2;
  }

  -- where a look at each finds no write of its key, the key has the same value at both ends
  pub span_unchanged : (is_written : Bool) → (IsTrue is_written ↔ IsWrittenIn k span) → span.from ≤ span.until → not is_written ≡ true
      → value (plain k'.past) span.key span.until ≡ value (plain k'.past) span.key span.from
  span_unchanged true tells le none = absurd cc
  span_unchanged false tells le none = unwritten le (λ is. absurd (cc (tells.1 is)))

  -- and else a write of it stands there
  pub span_written : (is_written : Bool) → (IsTrue is_written ↔ IsWrittenIn k span) → not is_written ≡ false → IsWrittenFrom k'.past span.key span.from
  span_written true tells some = written (tells.0 refl)
  span_written false tells some = absurd cc

-- a value below a time of the past stays as the past grows
pub value_later : (a b c : List Slot) (key s : ℕ) → b ≡ a → IsPrefix b c → s ≤ length a → value (plain a) key s ≡ value (plain c) key s
value_later a b c key s e begins le = sym (value-same (plain a) (plain c) key s (λ t lt.
    ap (λ (l : List Slot). get_or l t Nothing) (sym begins.1) ∙ get_or_append_left b begins.0 Nothing t
    (let n = ap (λ (l : List Slot). length l) e in omega arith)
    ∙ ap (λ (l : List Slot). get_or l t Nothing) e))

-- what was read stays so, as long as the past does
pub read_on : (k k' : Known) (t : ℕ) (deed : Deed) → k'.past ≡ k.past → k'.view.past ≡ k.view.past → IsReadBelow (plain k.past) k.view t deed
    → IsReadBelow (plain k'.past) k'.view t deed
read_on k k' t (Rmw key old change) past same read = (
  let before = read.0 in omega arith,
  subst (λ (l : List Slot). IsRight (plain l) t (Rmw key old change)) (sym past) read.1,
)
read_on k k' t deed past same read = tt

-- where no write of the key came between, a change at the later time has read what stands below it
pub read_later : {k k' k'' : Known} {component : ℕ} (key t : ℕ) (m : Modified) → HasKept k component key m → k'.past ≡ k.past → OnlyReads k' k''
    → value (plain k''.past) key t ≡ value (plain k''.past) key m.read.time → Sound k'' → t ≤ length k''.past
    → IsReadBelow (plain k''.past) k''.view t (deed_by key m)
read_later {k} {k'} {k''} key t m kept past reads unchanged sound settled =
    let old = kept.is ∙ value_later k.past k'.past k''.past key m.read.time past reads.seat.past.slots kept.settled ∙ sym unchanged in
    (let long = sound.length_is in omega arith, record { readable = record { reached = settled; uncut = tt }; reads = old })

-- ---- a drawn time

-- what tells that a hold and a read go on
abbrev held : View → View → Type 0
held v w = (w.mode ≡ v.mode) × (w.pinned ≡ v.pinned) × (w.held ≡ v.held) × (w.snapshot ≡ v.snapshot)

held_by : (v w : View) (after : View) → w ≡ after → held v after → held v w
held_by v w after is h = subst (held v) (sym is) h

-- drawn, and found unchanged until then
module _ (a b c : Known) (component key t : ℕ) (m : Modified) (kept : HasKept a component key m) (draws : Draws a b t) (reads : OnlyReads b c) where
  mode_drawn : held a.view c.view
  mode_drawn = held_by a.view c.view _ reads.view (held_by a.view b.view _ draws.view (refl, refl, refl, refl))

  pub to_fill : Sound c → t ≤ length c.past → m.read.time ≤ t → value (plain c.past) key t ≡ value (plain c.past) key m.read.time
      → IsToFill c component key m t
  to_fill sound settled later unchanged = record {
    read = record {
      shared = mode_drawn.0 ∙ kept.pinned.shared;
      pinned = mode_drawn.1 ∙ kept.pinned.pinned;
      held = mode_drawn.2 ∙ kept.pinned.held;
      settled = subst IsSettled (sym mode_drawn.3) kept.pinned.settled;
      merged =
          let cells = ap (λ (z : Layout). component * z.cells) (reads.seat.layout ∙ draws.place.seat.layout) in
          let before = kept.pinned.merged in
          let same = ap (λ (v : View). v.reached) draws.view in
          let more = reads.reached in
          omega arith;
      due =
          let one = ap (λ (v : View). v.due) draws.view in
          let two = ap (λ (v : View). v.due) reads.view in
          let above = draws.due in
          omega arith;
      later = later;
      writes = kept.writes;
      reads = read_later key t m kept draws.place.past reads unchanged sound settled;
    };
    limit = λ none. draws.looked (sym (ap (λ (v : View). v.hold_limit) reads.view) ∙ none);
    drawn = ap (λ (v : View). v.drawn) reads.view ∙ ap (λ (v : View). v.drawn) draws.view;
    unlinked = ap (λ (v : View). v.linked) reads.view ∙ ap (λ (v : View). v.linked) draws.view;
    out = ap (λ (v : View). v.inserted) reads.view ∙ ap (λ (v : View). v.inserted) draws.view;
  }

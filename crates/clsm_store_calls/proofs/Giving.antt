-- Why a read-modify-write gives up a time: a write of the key that it found.
use Rattle.std.proofs.Common.{◌≡◌, ℕ, zero, suc, ◌≤◌, ◌==◌, ◌++◌, ◌⊎◌, List, [], append-nil, append_assoc, drop, length, max, take, refl, sym, subst}
use Rattle.std.proofs.Common.{ap, ◌∙◌, arith, inl, inr}
use Rattle.std.proofs.Common.{false, Option, Some, None}
use Rattle.std.specs.Fn.{iterate}
use Rattle.std.proofs.lemmas.Bool.{eqb-true}
use Rattle.std.proofs.lemmas.List.{length-take, take-append-drop}
use Rattle.std.proofs.lemmas.Option.{cond_some}
use mathlib.Core.List.{IsPrefix}
use Rattle.clsm_model.specs.declared.slot.Slot.{Slot}
use Rattle.clsm_model.specs.declared.slot.Slot.TheVariants.{Nothing, Wrote}
use Rattle.clsm_model.proofs.Batches.{prefix_length}
use Rattle.clsm_model.specs.History.{History, Write, newest, or_else, plain, slot_at, write_of}
use Rattle.clsm_law.specs.Views.{next_word}
use Rattle.clsm_law.specs.Relation.{first_of}
use Rattle.clsm_words.specs.declared.known.Known.{Known}
use Rattle.clsm_words.specs.Keeping.{Looks}
use Rattle.clsm_search.specs.Searching.{IsNewest, slot_in, value_in}
use Rattle.clsm_store_calls.specs.declared.changing.ChangeAttempt.{ChangeAttempt}
use Rattle.clsm_store_calls.specs.declared.changing.ChangeAttempt.TheVariants.{Done, Full, Raced, Outdated, Overtaken}
use Rattle.clsm_store_calls.specs.declared.changing.ChangeProgress.TheVariants.{Unread}
use Rattle.clsm_store_calls.specs.Seats.{CountsUpTo}
use Rattle.clsm_store_calls.specs.Resting.{Still}
use Rattle.clsm_store_calls.specs.Changing.{GaveUp, GivesUpFor, IsWrittenFrom, IsWrittenSince, Spared, SparedBy, is_last, progress_of, writes_from}
use Rattle.clsm_store_calls.proofs.Counting.{counts_more, counts_none, counts_on, prefix_take, writes_more, writes_on}
use Rattle.clsm_store_calls.proofs.Rest.{still_trans}

-- the slot that is a write of the key
is_wrote : (key t : ℕ) (slot : Slot) (w : Write) → write_of key t slot ≡ Some w → (seat : ℕ) × ((w.time ≡ t) × (slot ≡ Wrote seat key w.value))
is_wrote key t Nothing w e = absurd cc
is_wrote key t (Wrote seat k written) w e =
    let both = cond_some (k == key) (record { time = t; value = written }) w e in (
      seat,
      (
        sym (ap (λ (v : Write). v.time) both.1),
        ap (λ (n : ℕ). Wrote seat n written) (eqb-true k key both.0)
            ∙ ap (λ (v : Write). Wrote seat key v.value) both.1,
      ),
    )

-- the newest write of the key stands at its time
newest_stands : (h : History) (key s : ℕ) (w : Write) → newest h key s ≡ Some w → (seat : ℕ) × (slot_at h w.time ≡ Wrote seat key w.value)
newest_stands h key zero w e = absurd cc
newest_stands h key (suc u) w e = by (write_of key u (slot_at h u)) refl (newest_stands h key u w) where
  by : (a : Option Write) → write_of key u (slot_at h u) ≡ a → (newest h key u ≡ Some w → (seat : ℕ) × (slot_at h w.time ≡ Wrote seat key w.value))
      → (seat : ℕ) × (slot_at h w.time ≡ Wrote seat key w.value)
  by None is before = before (sym (ap (λ (o : Option Write). or_else o (newest h key u)) is) ∙ e)
  by (Some v) is before =
      let same : Some v ≡ Some w = sym (ap (λ (o : Option Write). or_else o (newest h key u)) is) ∙ e in
      let wrote = is_wrote key u (slot_at h u) w (is ∙ same) in
      (wrote.0, ap (slot_at h) wrote.1.0 ∙ wrote.1.1)

pub written_by : (slots : List Slot) (key s from : ℕ) (w : Write) → newest (plain slots) key s ≡ Some w → from ≤ w.time → IsWrittenFrom slots key from
written_by slots key s from w e above = let stands = newest_stands (plain slots) key s w e in
    record { time = w.time; above = above; seat = stands.0; written = w.value; stands = stands.1 }

-- what a search found, where it is not before the time
pub written_found : (k k' : Known) (component key from until : ℕ) (looks : Looks k k') (t : ℕ) → IsNewest k component key until (Some t)
    → from ≤ t → IsWrittenFrom k'.past key from
written_found k k' component key from until looks t is above =
    written_by k'.past key until from (record { time = t; value = value_in (slot_in k t) })
    (ap (λ (slots : List Slot). newest (plain slots) key until) looks.past ∙ is) above

-- ---- a hold of the lock, from its beginning o

-- the first look of the hold stays
abbrev pub KeepsFirst : Known → Known → Type 0
KeepsFirst old new = (first : ℕ) → old.view.hold_first ≡ Some first → new.view.hold_first ≡ Some first

pub first_stays : (a b : Known) → b.view.hold_first ≡ a.view.hold_first → KeepsFirst a b
first_stays a b same first is = same ∙ is

pub first_looked : (a b : Known) (t : ℕ) → b.view.hold_first ≡ first_of a.view.hold_first t → KeepsFirst a b
first_looked a b t e first is = e ∙ ap (λ (o : Option ℕ). first_of o t) is

-- what stands from a time on stands from an earlier one on
earlier : (slots : List Slot) (key from below : ℕ) → below ≤ from → IsWrittenFrom slots key from → IsWrittenFrom slots key below
earlier slots key from below le is = record {
  time = is.time;
  above = let x = is.above in omega arith;
  seat = is.seat;
  written = is.written;
  stands = is.stands;
}

-- the time that it gave up is counted so, or as one that a reader had cancelled
pub gave_once : (a b c : Known) → b.view.gave_up ≡ a.view.gave_up
    → ((c.view.gave_up ≡ next_word b.view.gave_up) × (c.view.overtaken ≡ b.view.overtaken))
    ⊎ ((c.view.gave_up ≡ b.view.gave_up) × (c.view.overtaken ≡ next_word b.view.overtaken))
    → (c.view.gave_up ≡ next_word a.view.gave_up) ⊎ (c.view.gave_up ≡ a.view.gave_up)
gave_once a b c same (inl own) = inl (own.0 ∙ ap next_word same)
gave_once a b c same (inr lost) = inr (lost.0 ∙ same)

-- what stayed is a beginning
pub same_begins : (a b : List Slot) → b ≡ a → IsPrefix a b
same_begins a b same = ([], append-nil a ∙ sym same)

-- the first slots of a beginning are the first ones of the whole
take_begins : (a b : List Slot) (n : ℕ) → IsPrefix a b → IsPrefix (take n a) b
take_begins a b n begins = (
  drop n a ++ begins.0,
  sym (append_assoc (take n a) (drop n a) begins.0) ∙ ap (λ (l : List Slot). l ++ begins.0) (take-append-drop n a) ∙ begins.1,
)

-- it read the key: for the first time in the hold, if there was no look yet
pub spares_read : (a b : Known) (key t : ℕ) → Still a b → b.view.hold_first ≡ first_of a.view.hold_first t → b.view.gave_up ≡ a.view.gave_up
    → a.view.due ≤ t → length a.past ≤ t → t ≤ length b.past → (o : Known) → Spared o a key Unread → Still o b × GivesUpFor o b key t
spares_read a b key t still first gave due known settled o so_far =
    (still_trans o a b so_far.0 still, by a.view.hold_first first so_far.1)
  where
    by : (f : Option ℕ) → b.view.hold_first ≡ first_of f t → GaveUp o a key f → GivesUpFor o b key t
    by None e none = record {
      first = t;
      looked = e;
      due = let same = so_far.0.due in omega arith;
      known = let more = prefix_length o.past a.past so_far.0.keeps.past.slots in omega arith;
      reached = settled;
      until = omega arith;
      counts = counts_none _ o.view.gave_up b.view.gave_up (gave ∙ none);
    }
    by (Some f) e (due', known', within, h) = record {
      first = f;
      looked = e;
      due = due';
      known = known';
      reached = let more = prefix_length a.past b.past still.keeps.past.slots in omega arith;
      until = omega arith;
      counts = counts_on (writes_from a.past key f) (writes_from (take t b.past) key f) o.view.gave_up a.view.gave_up b.view.gave_up
          (writes_on a.past (take t b.past) key f (prefix_take a.past b.past t still.keeps.past.slots known)) h gave;
    }

-- behind a read at the time r, whose value is kept
module _ (a b : Known) (key r : ℕ) (keeps : KeepsFirst a b) where
  -- what was spared below it, seen from a longer past
  counts_below : (o : Known) (later : List Slot) → IsPrefix (take r a.past) later → b.view.gave_up ≡ a.view.gave_up → (h : GivesUpFor o a key r)
      → CountsUpTo (writes_from later key h.first) o.view.gave_up b.view.gave_up
  counts_below o later begins gave h =
      counts_on (writes_from (take r a.past) key h.first) (writes_from later key h.first) o.view.gave_up a.view.gave_up b.view.gave_up
      (writes_on (take r a.past) later key h.first begins) h.counts gave

  short : length (take r a.past) ≤ r
  short = let long = length-take r a.past in omega arith

  -- it is answered, or goes on, at a time from there on, and gave up nothing more
  pub spares_until : IsPrefix a.past b.past → b.view.gave_up ≡ a.view.gave_up → (last : ℕ) → r ≤ last → (o : Known) → GivesUpFor o a key r
      → GivesUpFor o b key last
  spares_until on gave last le o h = record {
    first = h.first;
    looked = keeps h.first h.looked;
    due = h.due;
    known = h.known;
    reached = let within = h.reached in let more = prefix_length a.past b.past on in omega arith;
    until = let until = h.until in omega arith;
    counts = counts_below o (take last b.past)
        (prefix_take (take r a.past) b.past last (take_begins a.past b.past r on) (let few = short in omega arith)) gave h;
  }

  pub spares_ended : IsPrefix a.past b.past → b.view.gave_up ≡ a.view.gave_up → (last : ℕ) → r ≤ last → (o : Known) → Still o a × GivesUpFor o a key r
      → GivesUpFor o b key last
  spares_ended on gave last le o so_far = spares_until on gave last le o so_far.1

  module _ (still : Still a b) where
    pub spares_raced : b.view.gave_up ≡ a.view.gave_up → (o : Known) → Still o a × GivesUpFor o a key r → Still o b × GivesUpFor o b key r
    spares_raced gave o so_far = (still_trans o a b so_far.0 still, spares_until still.keeps.past.slots gave r (omega arith) o so_far.1)

    gave_for : (o : Known) (h : GivesUpFor o a key r) → CountsUpTo (writes_from b.past key h.first) o.view.gave_up b.view.gave_up
        → GaveUp o b key b.view.hold_first
    gave_for o h counts = subst (GaveUp o b key) (sym (keeps h.first h.looked)) (
      h.due,
      h.known,
      let within = h.reached in let more = prefix_length a.past b.past still.keeps.past.slots in omega arith,
      counts,
    )

    -- it lost its time to a reader
    pub spares_overtaken : b.view.gave_up ≡ a.view.gave_up → (o : Known) → Still o a × GivesUpFor o a key r → Spared o b key Unread
    spares_overtaken gave o so_far = (
      still_trans o a b so_far.0 still,
      gave_for o so_far.1 (counts_below o b.past (take_begins a.past b.past r still.keeps.past.slots) gave so_far.1),
    )

    -- it gave its time up for a write of the key
    module _ (is : IsWrittenFrom b.past key r) where
      counts_given : (o : Known) (h : GivesUpFor o a key r) → (b.view.gave_up ≡ next_word a.view.gave_up) ⊎ (b.view.gave_up ≡ a.view.gave_up)
          → CountsUpTo (writes_from b.past key h.first) o.view.gave_up b.view.gave_up
      counts_given o h (inl more) =
          let above = is.above in
          let until = h.until in
          let few = short in
          counts_more (writes_from (take r a.past) key h.first) (writes_from b.past key h.first) o.view.gave_up a.view.gave_up b.view.gave_up
          (writes_more (take r a.past) b.past key h.first is.time is.seat is.written (take_begins a.past b.past r still.keeps.past.slots)
          (omega arith) (omega arith) is.stands) h.counts more
      counts_given o h (inr same) = counts_below o b.past (take_begins a.past b.past r still.keeps.past.slots) same h

      pub spares_outdated : (b.view.gave_up ≡ next_word a.view.gave_up) ⊎ (b.view.gave_up ≡ a.view.gave_up) → (o : Known)
          → Still o a × GivesUpFor o a key r → Spared o b key Unread × IsWrittenSince o b key
      spares_outdated gave o so_far = (
        (still_trans o a b so_far.0 still, gave_for o so_far.1 (counts_given o so_far.1 gave)),
        earlier b.past key r (max o.view.due (length o.past))
            (let due = so_far.1.due in let known = so_far.1.known in let until = so_far.1.until in omega arith) is,
      )

-- ---- one try after another

-- a try that is lost
pub spared_again : (o k : Known) (key : ℕ) (attempt : ChangeAttempt) → is_last attempt ≡ false → SparedBy o k key attempt
    → Spared o k key (progress_of attempt)
spared_again o k key (Done rmw) lost spared = absurd cc
spared_again o k key (Full t) lost spared = absurd cc
spared_again o k key (Raced progress) lost spared = spared
spared_again o k key Outdated lost spared = spared.0
spared_again o k key Overtaken lost spared = spared

-- parts before and behind the tries that give up nothing
pub gives_around : (a c d f : Known) (key last : ℕ) → c.past ≡ a.past → c.view.due ≡ a.view.due → c.view.gave_up ≡ a.view.gave_up → f.past ≡ d.past
    → f.view.gave_up ≡ d.view.gave_up → f.view.hold_first ≡ d.view.hold_first → GivesUpFor c d key last → GivesUpFor a f key last
gives_around a c d f key last before due gave behind same first h = record {
  first = h.first;
  looked = first ∙ h.looked;
  due = let e = h.due in omega arith;
  known = let e = h.known in let long = ap (λ (l : List Slot). length l) before in omega arith;
  reached = let e = h.reached in let long = ap (λ (l : List Slot). length l) behind in omega arith;
  until = h.until;
  counts = record {
    times = h.counts.times;
    counted = same ∙ h.counts.counted ∙ ap (iterate next_word h.counts.times) gave;
    within = subst (λ (l : List Slot). h.counts.times ≤ writes_from (take last l) key h.first) (sym behind) h.counts.within;
  };
}

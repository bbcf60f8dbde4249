-- Writes that were refused because there was no room, and tried again.
use Rattle.std.proofs.Common.{◌≡◌, ◌+◌, ◌-◌, ◌*◌, ◌/◌, ◌%◌, ◌^◌, min, ◌<◌, ◌≤◌, ◌⊎◌, inl, inr, ℕ, zero, suc, max, List, [], ◌∷◌, ◌++◌, length, take, drop, Option, Result, Ok, Err, refl, sym}
use Rattle.std.proofs.Common.{ap, ◌∙◌, subst, arith}
use Rattle.std.proofs.lemmas.Grind.{div_ceil_times}
use Rattle.std.proofs.lemmas.List.{length-take-le, take-append-drop}
use Rattle.std.specs.Fn.{iterate}
use Rattle.std.specs.Result.{IsErrAnd}
use Rattle.clsm_model.specs.declared.record.CallRecord.{CallRecord}
use Rattle.clsm_model.specs.declared.record.Deed.{Deed}
use Rattle.clsm_model.specs.declared.record.Deed.TheVariants.{Batch as Group}
use Rattle.clsm_model.specs.declared.slot.Slot.{Slot}
use Rattle.clsm_model.specs.Right.{Member}
use Rattle.clsm_model.specs.Seats.{FitsDeed, IsNext, due_after, open_after}
use Rattle.clsm_model.proofs.Batches.{begins_self, begins_trans, prefix_length}
use Rattle.clsm_law.specs.Relation.{call_of}
use Rattle.clsm_law.specs.Views.{next_word}
use Rattle.clsm_store_calls.specs.Batching.{CountsAlone, CountsBatch, IsNoBatch, IsNoRoom, IsRefusedBatch}
use Rattle.clsm_store_calls.specs.Seats.{Answers, GivesUpForWrites, IsFull, IsSameSeat, Refuses, SeatState, StoreId, known_by, writes_beside}
use Rattle.clsm_store_calls.specs.Tally.{CancelsNone, Tally}
use Rattle.clsm_store_calls.proofs.Beside.{beside_apart}
use Rattle.clsm_store_calls.proofs.Counting.{counts_both, once_more}
use Rattle.clsm_store_calls.specs.declared.refusal.BatchError.{BatchError}
use Rattle.clsm_store_calls.specs.declared.refusal.BatchError.TheVariants as errors
use Rattle.clsm_store.specs.declared.play.answer.Answer.{Answer}
use Rattle.clsm_store.specs.declared.play.call.Call.{Call}
use Rattle.clsm_session.specs.Promises.{WaitsToPlay}
use Rattle.clsm_session.specs.Waiting.{CountsTries, EndsAt, GivesUpBetween, GivesUpOver, HasEntered, IsFullAtLast, IsNoRoomAtLast, IsReason, RefusesCall}
use Rattle.clsm_session.specs.declared.refusal.Refused.{Refused}
use Rattle.clsm_session.specs.declared.refusal.Refused.TheVariants.{RunFull, Worn}
use Rattle.clsm_session.specs.declared.refusal.BatchRefused.{BatchRefused}

pub same_trans : (a b c : SeatState) → IsSameSeat a b → IsSameSeat b c → IsSameSeat a c
same_trans a b c h k = record {
  store = k.store ∙ h.store;
  number = k.number ∙ h.number;
  longer = begins_trans (known_by a) (known_by b) (known_by c) h.longer k.longer;
}

pub refuses_self : (a : SeatState) → Refuses a a
refuses_self a = record {
  same = record { store = refl; number = refl; longer = begins_self (known_by a) };
  calls = refl;
  due = refl;
  snapshot = refl;
}

pub refuses_trans : (a b c : SeatState) → Refuses a b → Refuses b c → Refuses a c
refuses_trans a b c h k = record {
  same = same_trans a b c h.same k.same;
  calls = k.calls ∙ h.calls;
  due = k.due ∙ h.due;
  snapshot = k.snapshot ∙ h.snapshot;
}

-- a call that is answered after refusals is answered
pub answers_after : (a b c : SeatState) (t : ℕ) (deed : Deed) → Refuses a b → Answers b c t deed → Answers a c t deed
answers_after a b c t deed h k = record {
  same = same_trans a b c h.same k.same;
  next = subst (λ (due : ℕ). IsNext due a.snapshot t deed) h.due (subst (λ (snapshot : Option ℕ). IsNext b.due snapshot t deed) h.snapshot k.next);
  calls =
      k.calls ∙ ap (λ (l : List CallRecord). l ++ call_of b.number t deed ∷ []) h.calls
      ∙ ap (λ (n : ℕ). a.calls ++ call_of n t deed ∷ []) h.same.number;
  due = k.due ∙ ap (λ (due : ℕ). due_after due b.snapshot t deed) h.due ∙ ap (λ (snapshot : Option ℕ). due_after a.due snapshot t deed) h.snapshot;
  snapshot = k.snapshot ∙ ap (λ (snapshot : Option ℕ). open_after snapshot t deed) h.snapshot;
}

-- so many holds of the lock
abbrev pub Holds : ℕ → Tally → Tally → Type 0
Holds times old new = new.entries ≡ iterate next_word times old.entries

-- and one more
pub holds_more : (times : ℕ) (a b c : Tally) → Holds times a b → c.entries ≡ next_word b.entries → Holds (times + 1) a c
holds_more times a b c h e =
    let more : suc times ≡ times + 1 = omega arith in
    e ∙ ap next_word h ∙ sym (once_more times a.entries) ∙ ap (λ (n : ℕ). iterate next_word n a.entries) more

has_entered : (times : ℕ) (a b c : Tally) → times < 2 ^ 64 - 1 → Holds times a b → c.entries ≡ next_word b.entries → HasEntered a c
has_entered times a b c few h e = record { times = times + 1; some = omega arith; few = omega arith; counted = holds_more times a b c h e }

pub full_after : (a b c : SeatState) (t times cells : ℕ) (reason : Refused) → times < 2 ^ 64 - 1 → Holds times a.tally b.tally → Refuses a b
    → cells ≡ a.store.layout.cells → IsReason cells t reason → IsFull b c t → IsFullAtLast a c reason
full_after a b c t times cells reason few holds h same right k = record {
  refused = refuses_trans a b c h k.refused;
  entered = has_entered times a.tally b.tally c.tally few holds k.entered;
  time = t;
  limit = k.limit;
  clock = k.clock;
  right = subst (λ (n : ℕ). IsReason n t reason) same right;
}

pub no_room_after : (a b c : SeatState) (t members times cells : ℕ) (reason : Refused) → times < 2 ^ 64 - 1 → Holds times a.tally b.tally → Refuses a b
    → cells ≡ a.store.layout.cells → IsReason cells t reason → IsNoRoom b c t members → IsNoRoomAtLast a c members reason
no_room_after a b c t members times cells reason few holds h same right k = record {
  refused = refuses_trans a b c h k.refused;
  entered = has_entered times a.tally b.tally c.tally few holds k.entered;
  time = t;
  clock = k.clock;
  limit = k.limit;
  looked = k.looked;
  short = k.short;
  right = subst (λ (n : ℕ). IsReason n t reason) same right;
}

-- the end of the epoch that is full at a time, as far as a word reaches
abbrev pub EndsWithin : ℕ → ℕ → ℕ → Type 0
EndsWithin cells time limit = (end : ℕ) × EndsAt cells time end × (limit ≡ min end (2 ^ 64 - 1))

pub ends_within : (cells time epochs limit : ℕ) → 1 ≤ cells → epochs ≡ time / cells + min 1 (time % cells) → limit ≡ min (epochs * cells) (2 ^ 64 - 1)
    → EndsWithin cells time limit
ends_within cells time epochs limit some e found = let bounds = div_ceil_times time cells (omega arith) in let same = ap (λ (n : ℕ). n * cells) e in (
  epochs * cells,
  record { epochs = epochs; whole = refl; reached = let b = bounds.0 in omega arith; least = let b = bounds.1 in omega arith },
  found,
)

-- the reason, by the end of the next epoch
pub is_worn : (cells time limit next : ℕ) → EndsWithin cells time limit → next ≡ min (limit + cells) (2 ^ 64 - 1) → 2 ^ 62 < next
    → IsReason cells time Worn
is_worn cells time limit next (end, at, e) f late = (end, at, omega arith)

pub is_run_full : (cells time limit next : ℕ) → EndsWithin cells time limit → next ≡ min (limit + cells) (2 ^ 64 - 1) → next ≤ 2 ^ 62
    → IsReason cells time RunFull
is_run_full cells time limit next (end, at, e) f early = (end, at, omega arith)

pub cancels_self : (a : Tally) → CancelsNone a a
cancels_self a = record { own = refl; others = refl; hasty = refl }

pub cancels_trans : (a b c : Tally) → CancelsNone a b → CancelsNone b c → CancelsNone a c
cancels_trans a b c h k = record { own = k.own ∙ h.own; others = k.others ∙ h.others; hasty = k.hasty ∙ h.hasty }

-- behind a batch that entered the lock, too
pub batch_cancels : (a b c : Tally) → CancelsNone a b → CountsAlone (record b { busy = c.busy }) c → CancelsNone a c
batch_cancels a b c h counts = cancels_trans a b c h (record {
  own = ap (λ (t : Tally). t.gave_up) counts;
  others = ap (λ (t : Tally). t.cancelled) counts;
  hasty = ap (λ (t : Tally). t.hasty) counts;
})

-- and behind one for which there was no room
pub full_cancels : (a b c : Tally) (e : BatchError) (t : ℕ) → e ≡ errors.Full t → CancelsNone a b → CountsBatch b c (Err e) → CancelsNone a c
full_cancels a b c e t is h counts = batch_cancels a b c h (subst (λ (e : BatchError). CountsBatch b c (Err e)) is counts)

-- why it was refused, where that is this error
pub refused_as : (a b : SeatState) (members : List Member) (e e' : BatchError) → e ≡ e' → IsRefusedBatch a b members e → IsRefusedBatch a b members e'
refused_as a b members e e' is refused = subst (λ (e : BatchError). IsRefusedBatch a b members e) is refused

-- so often, as a sum
words_on : (n x : ℕ) → iterate next_word (suc n) x ≡ (x + suc n) % 2 ^ 64
words_on zero x = refl
words_on (suc n) x = let e = once_more (suc n) x in let h = words_on n x in let s = ap next_word h in omega arith

-- one hold more than so many is one hold only if there was none before
once_alone : (n x : ℕ) → n < 2 ^ 64 - 1 → iterate next_word (n + 1) x ≡ next_word x → n ≡ 0
once_alone zero x few same = refl
once_alone (suc n) x few same = let e : suc (suc n) ≡ suc n + 1 = omega arith in
    let w = words_on (suc n) x in let same' = ap (λ (k : ℕ). iterate next_word k x) e in omega arith

-- writes from a time on stand also from an earlier one on
beside_earlier : (a : List Slot) (number key first first' last : ℕ) → first ≤ first' → first' ≤ length a → first' ≤ last
    → writes_beside a number key first' last ≤ writes_beside a number key first last
beside_earlier a number key first first' last le within until =
    let n = length-take-le first' a within in
    let more = beside_apart (take first' a) a number key first 0 first' last (drop first' a, take-append-drop first' a) (omega arith) (omega arith) until in
    omega arith

-- the least time from which a call of this seat gives up times
abbrev pub seen : SeatState → ℕ
seen a = max a.due (length a.past)

-- times that are given up in the tries so far: none, or so many as these times allow
abbrev pub GaveUp : SeatState → SeatState → ℕ → Type 0
GaveUp a b key = (b.tally.gave_up ≡ a.tally.gave_up) ⊎ ((last : ℕ) × GivesUpBetween (seen a) last a b key)

-- and in one try more
pub spared_next : (a b c : SeatState) (key last : ℕ) → Refuses a b → IsSameSeat b c → GaveUp a b key → GivesUpForWrites b c key last
    → GivesUpBetween (seen a) last a c key
spared_next a b c key last h same (inl none) g = let due = g.due in let before = h.due in
    let known = g.known in let more = prefix_length a.past b.past h.same.longer.slots in
    let reached = g.reached in let until = g.until in
    let early : seen a ≤ g.first = omega arith in record {
      reached = omega arith;
      until = omega arith;
      counts = record {
        times = g.counts.times;
        counted = g.counts.counted ∙ ap (iterate next_word g.counts.times) none;
        within = let within = subst (λ (n : ℕ). g.counts.times ≤ writes_beside c.past n key g.first last) h.same.number g.counts.within in
            let fewer = beside_earlier c.past a.number key (seen a) g.first last early reached until in omega arith;
      };
    }
spared_next a b c key last h same (inr (before, o)) g = let more = prefix_length b.past c.past same.longer.slots in let on = g.known in
    let within = o.reached in let until = g.until in record {
      reached = omega arith;
      until = omega arith;
      counts = counts_both (writes_beside b.past a.number key (seen a) before) (writes_beside c.past a.number key g.first last)
          (writes_beside c.past a.number key (seen a) last) a.tally.gave_up b.tally.gave_up c.tally.gave_up
          (beside_apart b.past c.past a.number key (seen a) before g.first last same.longer.slots o.reached g.known g.until) o.counts
          (record {
            times = g.counts.times;
            counted = g.counts.counted;
            within = subst (λ (n : ℕ). g.counts.times ≤ writes_beside c.past n key g.first last) h.same.number g.counts.within;
          });
    }

-- and in all of them, where so many found the epoch full before: none, if that was the only hold
pub spared_over : (a b c : SeatState) (key last times : ℕ) → times < 2 ^ 64 - 1 → (times ≡ 0 → b ≡ a) → Holds times a.tally b.tally
    → c.tally.entries ≡ next_word b.tally.entries → Refuses a b → IsSameSeat b c → GaveUp a b key → GivesUpForWrites b c key last
    → GivesUpOver a c key last
spared_over a b c key last times few alone holds entered h same gave g = record {
  once = λ one. let all = holds_more times a.tally b.tally c.tally holds entered in
      subst (λ (s : SeatState). GivesUpForWrites s c key last) (alone (once_alone times a.tally.entries few (sym all ∙ one))) g;
  all = spared_next a b c key last h same gave g;
}

-- the result is this refusal
pub is_refusal : {A E : Type 0} (r : Result A E) (e : E) → IsErrAnd r (λ x. x ≡ e) → r ≡ Err e
is_refusal (Ok _) e is = absurd is
is_refusal (Err x) e is = ap Err is

-- what is a batch is not refused as none
is_batch : (cells : ℕ) (members : List Member) (error : BatchError) → FitsDeed cells (Group members) → IsNoBatch cells members error → ⊥
is_batch cells members (errors.Full t) fits why = why
is_batch cells members errors.Empty fits why = fits.0 why
is_batch cells members errors.TooLong fits why = let few = fits.1 in omega (arith, few, why)
is_batch cells members errors.Keep fits why = why.2 fits.2

-- so it was not refused for room before
pub no_batch_after : (a b c : SeatState) (members : List Member) (error : BatchError) → Refuses a b → (b ≡ a) ⊎ FitsDeed a.store.layout.cells (Group members)
    → c ≡ b → IsNoBatch b.store.layout.cells members error → (c ≡ a) × IsNoBatch a.store.layout.cells members error
no_batch_after a b c members error h (inl same) e why = (
  e ∙ same,
  subst (λ (s : SeatState). IsNoBatch s.store.layout.cells members error) same why,
)
no_batch_after a b c members error h (inr fits) e why =
    absurd (is_batch a.store.layout.cells members error fits
    (subst (λ (store : StoreId). IsNoBatch store.layout.cells members error) h.same.store why))

-- a call that is played is refused as its method
pub refused_play : (call made : Call) (old new : SeatState) (refused : BatchRefused) (r : Result Answer BatchRefused) → call ≡ made
    → IsErrAnd r (λ e. e ≡ refused) → CountsTries made old new (Err refused) → IsSameSeat old new → RefusesCall made old new refused
    → WaitsToPlay call old new r
refused_play call made old new refused r same is counts seat refuses =
    subst (λ (c : Call). WaitsToPlay c old new r) (sym same)
    (subst (WaitsToPlay made old new) (sym (is_refusal r refused is))
    (record { plays = tt; counts = counts; clock = tt; waits = tt; memory = tt; same = seat; refused = refuses }))

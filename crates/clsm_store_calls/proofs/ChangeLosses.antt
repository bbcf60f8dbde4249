-- What tries to change a key count, one after another.
use Rattle.std.proofs.Common.{◌≡◌, ◌∙◌, ◌+◌, ◌<◌, ◌⊎◌, ℕ, suc, ap, arith, false, inl, inr, refl, subst, sym, true, Result, Ok, Err}
use Rattle.std.specs.Fn.{iterate}
use Rattle.clsm_law.specs.Views.{next_word}
use Rattle.clsm_store_calls.specs.declared.got.Rmw.{Rmw as Answered}
use Rattle.clsm_store_calls.specs.declared.changing.ChangeAttempt.{ChangeAttempt}
use Rattle.clsm_store_calls.specs.declared.changing.ChangeAttempt.TheVariants.{Done, Full, Raced, Outdated, Overtaken}
use Rattle.clsm_store_calls.specs.declared.refusal.TryPutError.{TryPutError}
use Rattle.clsm_store_calls.specs.declared.refusal.TryPutError.TheVariants.{Full as Refused, Busy, Raced as Outrun, Overtaken as Cancelled}
use Rattle.clsm_store_calls.specs.Changing.{CountsChange, CountsChangeInHold, CountsChanges, CountsOneChange, is_last}
use Rattle.clsm_store_calls.specs.Tally.{CountsLosses, HasRead, LosesAtLast, LosesNoTime, LosesTime, OnlyLosesChanges, Tally, after_changes}
use Rattle.clsm_store_calls.specs.Tally.{looked}
use Rattle.clsm_store_calls.proofs.Counting.{once_more}

-- ---- tries

-- so many tries were lost
abbrev pub LosesChanges : ℕ → Tally → Tally → Type 0
LosesChanges tries old new = CountsLosses (λ raced overtaken gave_up. raced + overtaken + gave_up ≡ tries) old new

pub changes_none : (t : Tally) → LosesChanges 0 t t
changes_none t = record { raced = 0; overtaken = 0; gave_up = 0; may = refl; counts = refl }

module _ (tries : ℕ) (a b c : Tally) (h : LosesChanges tries a b) where
  on_read : HasRead b c → c ≡ after_changes a c h.raced h.overtaken h.gave_up
  on_read k = k ∙ ap (λ (t : Tally). record (looked t c) { cancelled = c.cancelled }) h.counts

  on_raced : c ≡ record (looked b c) { raced = next_word b.raced; cancelled = c.cancelled } → c ≡ after_changes a c (suc h.raced) h.overtaken h.gave_up
  on_raced k = k ∙ ap (λ (t : Tally). record (looked t c) { raced = next_word t.raced; cancelled = c.cancelled }) h.counts
      ∙ ap (λ (n : ℕ). record (after_changes a c 0 h.overtaken h.gave_up) { raced = n }) (sym (once_more h.raced a.raced))

  on_overtaken : c ≡ record (looked b c) { overtaken = next_word b.overtaken; cancelled = c.cancelled }
      → c ≡ after_changes a c h.raced (suc h.overtaken) h.gave_up
  on_overtaken k = k ∙ ap (λ (t : Tally). record (looked t c) { overtaken = next_word t.overtaken; cancelled = c.cancelled }) h.counts
      ∙ ap (λ (n : ℕ). record (after_changes a c h.raced 0 h.gave_up) { overtaken = n }) (sym (once_more h.overtaken a.overtaken))

  -- its time is lost, so many times of either kind
  on_time : (overtaken gave_up : ℕ) → c ≡ record (looked b c) { overtaken = c.overtaken; gave_up = c.gave_up; cancelled = c.cancelled }
      → c.overtaken ≡ iterate next_word overtaken a.overtaken → c.gave_up ≡ iterate next_word gave_up a.gave_up
      → c ≡ after_changes a c h.raced overtaken gave_up
  on_time overtaken gave_up k over gave =
      k ∙ ap (λ (t : Tally). record (looked t c) { overtaken = c.overtaken; gave_up = c.gave_up; cancelled = c.cancelled }) h.counts
      ∙ (λ i. record (after_changes a c h.raced 0 0) { overtaken = over i; gave_up = gave i })

  over_before : b.overtaken ≡ iterate next_word h.overtaken a.overtaken
  over_before = ap (λ (t : Tally). t.overtaken) h.counts

  gave_before : b.gave_up ≡ iterate next_word h.gave_up a.gave_up
  gave_before = ap (λ (t : Tally). t.gave_up) h.counts

  -- a try more that lost its time
  outdated : CountsOneChange b c Outdated
      → CountsLosses (λ raced overtaken gave_up. (raced + overtaken + gave_up ≡ tries + 1) × (0 < overtaken + gave_up)) a c
  outdated (inl own, k) = record {
    raced = h.raced;
    overtaken = h.overtaken;
    gave_up = suc h.gave_up;
    may = (let n = h.may in omega arith, omega arith);
    counts = on_time h.overtaken (suc h.gave_up) k (own.1 ∙ over_before)
        (own.0 ∙ ap next_word gave_before ∙ sym (once_more h.gave_up a.gave_up));
  }
  outdated (inr lost, k) = record {
    raced = h.raced;
    overtaken = suc h.overtaken;
    gave_up = h.gave_up;
    may = (let n = h.may in omega arith, omega arith);
    counts = on_time (suc h.overtaken) h.gave_up k (lost.1 ∙ ap next_word over_before ∙ sym (once_more h.overtaken a.overtaken))
        (lost.0 ∙ gave_before);
  }

  -- one more that is lost
  pub changes_more : (attempt : ChangeAttempt) → is_last attempt ≡ false → CountsOneChange b c attempt → LosesChanges (tries + 1) a c
  changes_more (Done rmw) lost k = absurd cc
  changes_more (Full t) lost k = absurd cc
  changes_more (Raced progress) lost k = record {
    raced = suc h.raced;
    overtaken = h.overtaken;
    gave_up = h.gave_up;
    may = let n = h.may in omega arith;
    counts = on_raced k;
  }
  changes_more Outdated lost k = let one = outdated k in
      record { raced = one.raced; overtaken = one.overtaken; gave_up = one.gave_up; may = one.may.0; counts = one.counts }
  changes_more Overtaken lost k = record {
    raced = h.raced;
    overtaken = suc h.overtaken;
    gave_up = h.gave_up;
    may = let n = h.may in omega arith;
    counts = on_overtaken k;
  }

  -- the last of so many, unless it is answered
  pub changes_last : (most : ℕ) (attempt : ChangeAttempt) → tries < most → (is_last attempt ≡ true) ⊎ (tries + 1 ≡ most) → CountsOneChange b c attempt
      → CountsChanges most a c attempt
  changes_last most (Done rmw) few last k = record {
    raced = h.raced;
    overtaken = h.overtaken;
    gave_up = h.gave_up;
    may = let n = h.may in omega arith;
    counts = on_read k;
  }
  changes_last most (Full t) few last k = record {
    raced = h.raced;
    overtaken = h.overtaken;
    gave_up = h.gave_up;
    may = let n = h.may in omega arith;
    counts = on_read k;
  }
  changes_last most (Raced progress) few (inl answered) k = absurd cc
  changes_last most (Raced progress) few (inr last) k = record {
    raced = suc h.raced;
    overtaken = h.overtaken;
    gave_up = h.gave_up;
    may = (let n = h.may in omega arith, omega arith);
    counts = on_raced k;
  }
  changes_last most Outdated few (inl answered) k = absurd cc
  changes_last most Outdated few (inr last) k = let one = outdated k in record {
    raced = one.raced;
    overtaken = one.overtaken;
    gave_up = one.gave_up;
    may = (one.may.0 ∙ last, one.may.1);
    counts = one.counts;
  }
  changes_last most Overtaken few (inl answered) k = absurd cc
  changes_last most Overtaken few (inr last) k = record {
    raced = h.raced;
    overtaken = suc h.overtaken;
    gave_up = h.gave_up;
    may = (let n = h.may in omega arith, omega arith);
    counts = on_overtaken k;
  }

-- ---- a call that waits

only : (a b : Tally) (raced overtaken gave_up : ℕ) → b ≡ after_changes a b raced overtaken gave_up → OnlyLosesChanges a b
only a b raced overtaken gave_up is = subst (λ (t : Tally). t
    ≡ record (looked a t) { raced = t.raced; overtaken = t.overtaken; gave_up = t.gave_up; cancelled = t.cancelled }) (sym is) refl

pub only_changes : (tries : ℕ) (a b : Tally) (attempt : ChangeAttempt) → CountsChanges tries a b attempt → OnlyLosesChanges a b
only_changes tries a b (Done rmw) k = only a b k.raced k.overtaken k.gave_up k.counts
only_changes tries a b (Full t) k = only a b k.raced k.overtaken k.gave_up k.counts
only_changes tries a b (Raced progress) k = only a b k.raced k.overtaken k.gave_up k.counts
only_changes tries a b Outdated k = only a b k.raced k.overtaken k.gave_up k.counts
only_changes tries a b Overtaken k = only a b k.raced k.overtaken k.gave_up k.counts

pub only_changes_trans : (a b c : Tally) → OnlyLosesChanges a b → OnlyLosesChanges b c → OnlyLosesChanges a c
only_changes_trans a b c h k =
    k ∙ ap (λ (t : Tally). record (looked t c) { raced = c.raced; overtaken = c.overtaken; gave_up = c.gave_up; cancelled = c.cancelled }) h

-- ---- the whole call

-- behind a read, with another reason
module _ (tries : ℕ) (P Q : Type 0) (a b c : Tally) (read : HasRead a b) (more : P → Q) where
  losses_later : {May : ℕ → ℕ → ℕ → Type 0} → CountsLosses May b c → CountsLosses May a c
  losses_later {May} h = record {
    raced = h.raced;
    overtaken = h.overtaken;
    gave_up = h.gave_up;
    may = h.may;
    counts = h.counts ∙ ap (λ (t : Tally). after_changes t c h.raced h.overtaken h.gave_up) read;
  }

  at_last_later : LosesAtLast tries b c → LosesAtLast tries a c
  at_last_later h = record {
    raced = h.raced;
    overtaken = h.overtaken;
    gave_up = h.gave_up;
    all = h.all;
    last = h.last;
    counts = h.counts
        ∙ ap (λ (t : Tally). record (after_changes t c h.raced h.overtaken h.gave_up) { overtaken = c.overtaken; gave_up = c.gave_up }) read;
    time = time h.time;
  } where
    gave : iterate next_word h.gave_up b.gave_up ≡ iterate next_word h.gave_up a.gave_up
    gave = ap (λ (t : Tally). iterate next_word h.gave_up t.gave_up) read

    over : iterate next_word h.overtaken b.overtaken ≡ iterate next_word h.overtaken a.overtaken
    over = ap (λ (t : Tally). iterate next_word h.overtaken t.overtaken) read

    time : LosesNoTime (after_changes b c h.raced h.overtaken h.gave_up) c ⊎ LosesTime (after_changes b c h.raced h.overtaken h.gave_up) c
        → LosesNoTime (after_changes a c h.raced h.overtaken h.gave_up) c ⊎ LosesTime (after_changes a c h.raced h.overtaken h.gave_up) c
    time (inl none) = inl (none.0 ∙ gave, none.1 ∙ over)
    time (inr (inl own)) = inr (inl (own.0 ∙ ap next_word gave, own.1 ∙ over))
    time (inr (inr lost)) = inr (inr (lost.0 ∙ gave, lost.1 ∙ ap next_word over))

  pub counts_later : (answer : Result Answered TryPutError) → CountsChangeInHold tries P b c answer → CountsChangeInHold tries Q a c answer
  counts_later (Ok rmw) h = losses_later h
  counts_later (Err (Refused t)) h = losses_later h
  counts_later (Err Busy) h = absurd h
  counts_later (Err Outrun) (inl raced) = inl (at_last_later raced)
  counts_later (Err Outrun) (inr (lost, written)) = inr (losses_later lost, more written)
  counts_later (Err Cancelled) h = losses_later h

-- where its hold did not answer that the lock was not entered
pub counts_whole : (tries : ℕ) (P : Type 0) (a f : Tally) (answer : Result Answered TryPutError)
    → CountsChangeInHold tries P (record a { entries = next_word a.entries }) f answer → CountsChange tries P a f answer
counts_whole tries P a f (Ok rmw) h = h
counts_whole tries P a f (Err (Refused t)) h = h
counts_whole tries P a f (Err Busy) h = absurd h
counts_whole tries P a f (Err Outrun) h = h
counts_whole tries P a f (Err Cancelled) h = h

-- it took the lock no more
pub entries_in_hold : (tries : ℕ) (P : Type 0) (a f : Tally) (answer : Result Answered TryPutError) → CountsChangeInHold tries P a f answer
    → f.entries ≡ a.entries
entries_in_hold tries P a f (Ok rmw) h = ap (λ (t : Tally). t.entries) h.counts
entries_in_hold tries P a f (Err (Refused t)) h = ap (λ (t : Tally). t.entries) h.counts
entries_in_hold tries P a f (Err Busy) h = absurd h
entries_in_hold tries P a f (Err Outrun) (inl raced) = ap (λ (t : Tally). t.entries) raced.counts
entries_in_hold tries P a f (Err Outrun) (inr (lost, written)) = ap (λ (t : Tally). t.entries) lost.counts
entries_in_hold tries P a f (Err Cancelled) h = ap (λ (t : Tally). t.entries) h.counts

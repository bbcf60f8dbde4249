-- What a seat counts, and what calls make of its counts.
use Rattle.std.specs.Prelude.{◌≡◌, ℕ, ◌+◌, ◌<◌, ◌⊎◌, Option, Result, Ok, Err}
use Rattle.std.specs.Fn.{iterate}
use Rattle.clsm_law.specs.declared.view.View.{View}
use Rattle.clsm_law.specs.Views.{next_word}
use Rattle.clsm_words.specs.declared.known.Known.{Known}
use Rattle.clsm_store_calls.specs.declared.refusal.TryPutError.{TryPutError}
use Rattle.clsm_store_calls.specs.declared.refusal.TryPutError.TheVariants.{Full, Busy, Raced, Overtaken}

-- Each modulo 2^64: its entries into the lock; the tries that it lost there, at draws and links,
-- and to readers that overtook it; the times of its own that it gave up, those of others that it
-- cancelled, and those among these for which it had not waited as its patience says; and its looks
-- at the clock and at the limit while it neither held the lock nor read. And the limit that it
-- looked at last since it entered the lock, and the clock as it looked at it first and last in its
-- last hold
pub record Tally : Type 0 where
  pub entries : ℕ
  pub busy : ℕ
  pub raced : ℕ
  pub overtaken : ℕ
  pub gave_up : ℕ
  pub cancelled : ℕ
  pub hasty : ℕ
  pub clock_looks : ℕ
  pub limit_looks : ℕ
  pub limit : Option ℕ
  pub first : Option ℕ
  pub clock : Option ℕ

-- what the view counts
abbrev pub counted : View → Tally
counted = λ v. record {
  entries = v.entries;
  busy = v.busy;
  raced = v.raced;
  overtaken = v.overtaken;
  gave_up = v.gave_up;
  cancelled = v.cancelled;
  hasty = v.hasty;
  clock_looks = v.clock_looks;
  limit_looks = v.limit_looks;
  limit = v.hold_limit;
  first = v.hold_first;
  clock = v.hold_clock;
}

-- the call took no lock, lost no try, and gave up no time; it may have cancelled times of others,
-- each after as many looks as its patience says
abbrev pub TakesNoLock : Tally → Tally → Type 0
TakesNoLock old new = new ≡ record old { cancelled = new.cancelled }

-- the call took the lock once, and cancelled no time of others before it had waited for it
pub record TakesLockOnce (old new : Tally) : Type 0 where
  pub entries : new.entries ≡ next_word old.entries
  pub hasty : new.hasty ≡ old.hasty

-- the call cancelled no time: it gave up none of its own, and cancelled none of others
pub record CancelsNone (old new : Tally) : Type 0 where
  pub own : new.gave_up ≡ old.gave_up
  pub others : new.cancelled ≡ old.cancelled
  pub hasty : new.hasty ≡ old.hasty

-- what the seat at the words counts
abbrev pub tally_of : Known → Tally
tally_of k = counted k.view

-- ---- tries

-- the counts as they were, with what it looked at last in a hold of the lock
abbrev pub looked : Tally → Tally → Tally
looked old new = record old { limit = new.limit; first = new.first; clock = new.clock }

-- it read in a hold of the lock: it may have cancelled times of others, each after as many looks as
-- its patience says
abbrev pub HasRead : Tally → Tally → Type 0
HasRead old new = new ≡ record (looked old new) { cancelled = new.cancelled }

-- it lost tries, and counted nothing else
abbrev pub OnlyLoses : Tally → Tally → Type 0
OnlyLoses old new = new ≡ record (looked old new) { raced = new.raced; overtaken = new.overtaken }

-- the counts after so many exchanges that it lost to other seats, and so many times of its own that
-- it lost to readers
abbrev pub after_losses : Tally → Tally → ℕ → ℕ → Tally
after_losses old new raced overtaken =
    record (looked old new) { raced = iterate next_word raced old.raced; overtaken = iterate next_word overtaken old.overtaken }

-- it lost fewer tries than these
pub record LosesFewer (tries : ℕ) (old new : Tally) : Type 0 where
  pub raced : ℕ
  pub overtaken : ℕ
  pub fewer : raced + overtaken < tries
  pub counts : new ≡ after_losses old new raced overtaken

-- it lost all these tries, the last one to a reader
pub record IsOvertaken (tries : ℕ) (old new : Tally) : Type 0 where
  pub raced : ℕ
  pub overtaken : ℕ
  pub all : raced + overtaken ≡ tries
  pub last : 0 < overtaken
  pub counts : new ≡ after_losses old new raced overtaken

-- it lost all of them, the last one to another seat
pub record LosesToSeats (tries : ℕ) (old new : Tally) : Type 0 where
  pub raced : ℕ
  pub overtaken : ℕ
  pub all : raced + overtaken ≡ tries
  pub last : 0 < raced
  pub counts : new ≡ after_losses old new raced overtaken

-- the time that it had drawn is lost: it gave that up, or a reader had cancelled it first
abbrev pub LosesTime : Tally → Tally → Type 0
LosesTime old new =
    ((new.gave_up ≡ next_word old.gave_up) × (new.overtaken ≡ old.overtaken))
    ⊎ ((new.gave_up ≡ old.gave_up) × (new.overtaken ≡ next_word old.overtaken))

-- it had drawn no time that it could lose
abbrev pub LosesNoTime : Tally → Tally → Type 0
LosesNoTime old new = (new.gave_up ≡ old.gave_up) × (new.overtaken ≡ old.overtaken)

-- and then, where it had drawn a time, it gave that up, unless a reader had cancelled it first
pub record IsRaced (tries : ℕ) (old new : Tally) : Type 0 where
  pub raced : ℕ
  pub overtaken : ℕ
  pub all : raced + overtaken ≡ tries
  pub last : 0 < raced
  pub counts : new ≡ record (after_losses old new raced overtaken) { overtaken = new.overtaken; gave_up = new.gave_up }
  pub time : LosesNoTime (after_losses old new raced overtaken) new ⊎ LosesTime (after_losses old new raced overtaken) new

-- what at most so many tries in a hold of the lock count: each that is lost, and no more of them
-- than these
abbrev pub CountsInHold : ℕ → Tally → Tally → Result ℕ TryPutError → Type 0
CountsInHold tries old new (Ok t) = LosesFewer tries old new
CountsInHold tries old new (Err (Full t)) = LosesFewer tries old new
CountsInHold tries old new (Err Busy) = ⊥
CountsInHold tries old new (Err Raced) = IsRaced tries old new
CountsInHold tries old new (Err Overtaken) = IsOvertaken tries old new

-- what a call counts that makes at most so many tries: with `Busy` that alone, else the one time
-- that it entered the lock, and what came of its tries there
abbrev pub CountsTry : ℕ → Tally → Tally → Result ℕ TryPutError → Type 0
CountsTry tries old new (Err Busy) = new ≡ record old { busy = next_word old.busy }
CountsTry tries old new answer = CountsInHold tries (record old { entries = next_word old.entries }) new answer

-- ---- read-modify-writes

-- the counts after so many exchanges that a change lost to other seats, so many times of its own
-- that it lost to others that cancelled them, and so many that it gave up; its reads may have
-- cancelled times of others, each after as many looks as its patience says
abbrev pub after_changes : Tally → Tally → ℕ → ℕ → ℕ → Tally
after_changes old new raced overtaken gave_up =
    record (after_losses old new raced overtaken) { gave_up = iterate next_word gave_up old.gave_up; cancelled = new.cancelled }

-- it lost exchanges and times, and counted nothing else but the times of others that it cancelled
abbrev pub OnlyLosesChanges : Tally → Tally → Type 0
OnlyLosesChanges old new =
    new ≡ record (looked old new) { raced = new.raced; overtaken = new.overtaken; gave_up = new.gave_up; cancelled = new.cancelled }

-- it lost exchanges and times, so many of each as may be
pub record CountsLosses (May : ℕ → ℕ → ℕ → Type 0) (old new : Tally) : Type 0 where
  pub raced : ℕ
  pub overtaken : ℕ
  pub gave_up : ℕ
  pub may : May raced overtaken gave_up
  pub counts : new ≡ after_changes old new raced overtaken gave_up

-- fewer than so many tries
abbrev pub LosesFewerChanges : ℕ → Tally → Tally → Type 0
LosesFewerChanges tries old new = CountsLosses (λ raced overtaken gave_up. raced + overtaken + gave_up < tries) old new

-- so many, and an exchange with the last one
abbrev pub LosesAtExchange : ℕ → Tally → Tally → Type 0
LosesAtExchange tries old new = CountsLosses (λ raced overtaken gave_up. (raced + overtaken + gave_up ≡ tries) × (0 < raced)) old new

-- so many, and its time with the last one
abbrev pub LosesWithTime : ℕ → Tally → Tally → Type 0
LosesWithTime tries old new = CountsLosses (λ raced overtaken gave_up. (raced + overtaken + gave_up ≡ tries) × (0 < overtaken + gave_up)) old new

-- so many, and the last one to a reader
abbrev pub LosesToReader : ℕ → Tally → Tally → Type 0
LosesToReader tries old new = CountsLosses (λ raced overtaken gave_up. (raced + overtaken + gave_up ≡ tries) × (0 < overtaken)) old new

-- so many, and an exchange with the last one; and then, where it had drawn a time, it gave that up,
-- unless a reader had cancelled it first
pub record LosesAtLast (tries : ℕ) (old new : Tally) : Type 0 where
  pub raced : ℕ
  pub overtaken : ℕ
  pub gave_up : ℕ
  pub all : raced + overtaken + gave_up ≡ tries
  pub last : 0 < raced
  pub counts : new ≡ record (after_changes old new raced overtaken gave_up) { overtaken = new.overtaken; gave_up = new.gave_up }
  pub time : LosesNoTime (after_changes old new raced overtaken gave_up) new ⊎ LosesTime (after_changes old new raced overtaken gave_up) new

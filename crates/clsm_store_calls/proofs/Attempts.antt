-- Tries to change a key, one after another.
use Rattle.std.proofs.Common.{◌≡◌, ℕ, List, false, refl, Option}
use Rattle.clsm_model.specs.declared.slot.Change.{Change}
use Rattle.clsm_model.specs.declared.slot.Change.TheVariants.{Keep, Set, Remove}
use Rattle.clsm_model.specs.declared.record.Deed.TheVariants.{Rmw}
use Rattle.clsm_words.specs.declared.known.Known.{Known}
use Rattle.clsm_words.specs.declared.words.WordTable.{WordTable}
use Rattle.clsm_words.specs.Seats.{RawState}
use Rattle.clsm_store_calls.specs.declared.got.Rmw.{Rmw as Answered}
use Rattle.clsm_store_calls.specs.declared.changing.ChangeAttempt.{ChangeAttempt}
use Rattle.clsm_store_calls.specs.declared.changing.ChangeAttempt.TheVariants.{Done, Full, Raced, Outdated, Overtaken}
use Rattle.clsm_store_calls.specs.declared.changing.ChangeProgress.{ChangeProgress}
use Rattle.clsm_store_calls.specs.declared.changing.ChangeProgress.TheVariants.{Unread, Read, Drawn}
use Rattle.clsm_store_calls.specs.Changing.{Does, HasComeSoFar, IsAnsweredBy, IsAskedBy, LeavesPinned, TriesChange, is_last, progress_of}
use Rattle.clsm_store_calls.specs.Resting.{Still}
use Rattle.clsm_store_calls.proofs.Rest.{full_later, records_later, still_trans}

-- a change behind calls that changed nothing
pub does_later : (a b c : Known) (component key t : ℕ) (o : Option (List ℕ)) (change : Change) → Still a b → Does change b c component key t o
    → Does change a c component key t o
does_later a b c component key t o Keep h does = (still_trans a b c h does.0, does.1)
does_later a b c component key t o (Set words) h does = records_later a b c t (Rmw key o (Set words)) h does
does_later a b c component key t o Remove h does = records_later a b c t (Rmw key o Remove) h does

-- tries behind calls that changed nothing
pub tries_behind : (a b c : Known) (component key : ℕ) (attempt : ChangeAttempt) → Still a b → TriesChange b c component key attempt
    → TriesChange a c component key attempt
tries_behind a b c component key (Done rmw) still tries = does_later a b c component key rmw.time rmw.old rmw.change still tries
tries_behind a b c component key (Full t) still tries = full_later a b c t still tries
tries_behind a b c component key (Raced progress) still tries = still_trans a b c still tries
tries_behind a b c component key Outdated still tries = still_trans a b c still tries
tries_behind a b c component key Overtaken still tries = still_trans a b c still tries

-- ---- a try that is lost

-- it is neither answered nor refused
pub is_lost : (attempt : ChangeAttempt) → ((rmw : Answered) → attempt ≡ Done rmw → ⊥) → ((t : ℕ) → attempt ≡ Full t → ⊥) → is_last attempt ≡ false
is_lost (Done rmw) done full = absurd (done rmw refl)
is_lost (Full t) done full = absurd (full t refl)
is_lost (Raced progress) done full = refl
is_lost Outdated done full = refl
is_lost Overtaken done full = refl

-- it makes no call
pub change_still : (a b : Known) (component key : ℕ) (attempt : ChangeAttempt) → is_last attempt ≡ false → TriesChange a b component key attempt → Still a b
change_still a b component key (Done rmw) lost tries = absurd cc
change_still a b component key (Full t) lost tries = absurd cc
change_still a b component key (Raced progress) lost tries = tries
change_still a b component key Outdated lost tries = tries
change_still a b component key Overtaken lost tries = tries

-- where it lost an exchange
pub comes_on : (words : WordTable) (seat : RawState) (component key : ℕ) (progress : ChangeProgress) → LeavesPinned words seat component key (Raced progress)
    → HasComeSoFar words seat component key progress
comes_on words seat component key Unread leaves = absurd leaves
comes_on words seat component key (Read modified) leaves = leaves
comes_on words seat component key (Drawn drawn) leaves = leaves

-- and the change may go on
pub comes_again : (words : WordTable) (seat : RawState) (component key : ℕ) (attempt : ChangeAttempt) → is_last attempt ≡ false
    → LeavesPinned words seat component key attempt → HasComeSoFar words seat component key (progress_of attempt)
comes_again words seat component key (Done rmw) lost leaves = absurd cc
comes_again words seat component key (Full t) lost leaves = absurd cc
comes_again words seat component key (Raced progress) lost leaves = comes_on words seat component key progress leaves
comes_again words seat component key Outdated lost leaves = leaves
comes_again words seat component key Overtaken lost leaves = leaves

-- with the answer of the function that is kept
pub asked_again : (post : Option (List ℕ) → Change → Type 0) (attempt : ChangeAttempt) → is_last attempt ≡ false → IsAnsweredBy post attempt
    → IsAskedBy post (progress_of attempt)
asked_again post (Done rmw) lost answered = absurd cc
asked_again post (Full t) lost answered = absurd cc
asked_again post (Raced progress) lost answered = answered
asked_again post Outdated lost answered = tt
asked_again post Overtaken lost answered = tt

-- What an open step of the merger never takes back: decided slots stay, and the history grows.
use Rattle.std.proofs.Common.{◌≡◌, ℕ, ◌+◌, ◌-◌, ◌<◌, ◌≤◌, true, List, length, refl, ◌∙◌, arith, Option, Some, None, length-append, zero, suc, ◌≢◌, []}
use Rattle.std.proofs.Common.{◌∷◌, ◌++◌}
use Rattle.std.specs.Prelude.{replicate}
use Rattle.std.proofs.Math.Seq.{get_or-append_right}
use Rattle.std.proofs.lemmas.List.{length-replicate, get_or-replicate, get_or_append_left}
use Rattle.clsm_model.specs.declared.slot.Slot.{Slot}
use Rattle.clsm_model.specs.declared.slot.Slot.TheVariants.{Nothing, Wrote}
use Rattle.clsm_law.specs.declared.word.Word.TheVariants.{Limit}
use Rattle.clsm_law.specs.declared.step.Step.{Step}
use Rattle.clsm_law.specs.declared.step.Step.TheVariants.{ExtendClock}
use Rattle.clsm_law.specs.Merging.{epoch_end, passed_over}
use Rattle.clsm_law.specs.Worlds.{outcome_at}
use Rattle.clsm_law.proofs.Cases.{by_bool}
use Rattle.clsm_law.proofs.Frames.{slot_below}
use Rattle.clsm_law.proofs.Setting.{Ground, slots', OpensTo}
use Rattle.clsm_law.proofs.Phases.{clean_frozen}

-- a slot below the end stays, and one behind it up to the time t came to nothing
pub passed_before : (slots : List (Option Slot)) (t u : ℕ) → u < length slots → outcome_at (passed_over slots t) u ≡ outcome_at slots u
passed_before slots t u lt = get_or_append_left slots (replicate (t - length slots) (Some Nothing)) None u lt

pub passed_behind : (slots : List (Option Slot)) (t u : ℕ) → length slots ≤ u → u < t → outcome_at (passed_over slots t) u ≡ Some Nothing
passed_behind slots t u le lt = get_or-append_right slots (replicate (t - length slots) (Some Nothing)) u None le
    ∙ get_or-replicate (t - length slots) (u - length slots) (Some Nothing) None (omega arith)

-- so the length is t, where it was not longer
pub length_over : (slots : List (Option Slot)) (t : ℕ) → length slots ≤ t → length (passed_over slots t) ≡ t
length_over slots t le = let a : length (passed_over slots t) ≡ length slots + length (replicate (t - length slots) (Some Nothing)) =
    length-append slots (replicate (t - length slots) (Some Nothing)) in
    let b : length (replicate (t - length slots) (Some Nothing)) ≡ t - length slots = length-replicate (t - length slots) (Some Nothing) in omega arith

-- a decided slot stays where it is
stays_over : (slots : List (Option Slot)) (t u : ℕ) (b : Slot) → outcome_at slots u ≡ Some b → outcome_at (passed_over slots t) u ≡ Some b
stays_over slots t u b e = passed_before slots t u (slot_below slots u (λ none. absurd (cc (none, e)))) ∙ e

-- times that came to nothing are no writes
none_written : (n u i key : ℕ) (written : Option (List ℕ)) → outcome_at (replicate n (Some Nothing)) u ≢ Some (Wrote i key written)
none_written zero u i key written e = absurd cc
none_written (suc n) zero i key written e = absurd cc
none_written (suc n) (suc u) i key written e = none_written n u i key written e

-- so a write after them stood before them
pub written_before : (slots : List (Option Slot)) (n u i key : ℕ) (written : Option (List ℕ)) → outcome_at (slots ++ replicate n (Some Nothing)) u
    ≡ Some (Wrote i key written) → outcome_at slots u ≡ Some (Wrote i key written)
written_before [] n u i key written e = absurd (none_written n u i key written e)
written_before (a ∷ slots) n zero i key written e = e
written_before (a ∷ slots) n (suc u) i key written e = written_before slots n u i key written e

-- what is decided stays
pub slots_stay' : (g : Ground) (step : Step) → OpensTo g step → (u : ℕ) (b : Slot) → outcome_at g.slots u ≡ Some b → outcome_at (slots' g step) u ≡ Some b
slots_stay' g ExtendClock o = stays_over g.slots (epoch_end g.z g.merger)
slots_stay' g step o = λ u b e. e

-- and so does the length, or it grows to the end of the epoch
pub longer' : (g : Ground) (step : Step) → length g.slots ≤ length (slots' g step)
longer' g ExtendClock = let l : length (slots' g ExtendClock) ≡ length g.slots + length
    (replicate (epoch_end g.z g.merger - length g.slots) (Some Nothing)) =
    length-append g.slots (replicate (epoch_end g.z g.merger - length g.slots) (Some Nothing)) in omega arith
longer' g step = omega arith

-- while the merger holds the lock the clock is at most at the end of the epoch
pub clock_held : (g : Ground) → g.merger.exclusive ≡ true → length g.slots ≤ epoch_end g.z g.merger
clock_held g e = by_bool (λ b. g.merger.limit_extended ≡ b → length g.slots ≤ epoch_end g.z g.merger) g.merger.limit_extended
    (λ _ f. let a = g.law.merger.at_end (g.law.merger.limit_after f) in omega arith)
    (λ _ f. let b = g.law.bounded in let l = g.law.limit in let c = clean_frozen g.merger.phase (g.law.merger.clean e) in
    let k : g.memory Limit ≡ epoch_end g.z g.merger = l ∙ rw (c, f) refl in omega arith) refl

-- the length after the clock is moved
pub length_passed : (g : Ground) → OpensTo g ExtendClock → length (slots' g ExtendClock) ≡ epoch_end g.z g.merger
length_passed g o = length_over g.slots (epoch_end g.z g.merger) (clock_held g o.0)

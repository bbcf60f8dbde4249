-- The runs hold only times of their places.
use Rattle.std.proofs.Common.{◌≡◌, ◌≢◌, ℕ, ◌+◌, ◌-◌, ◌*◌, ◌%◌, ◌<◌, ◌≤◌, true, false, List, [], ◌∷◌, refl, sym, ◌∙◌, arith, subst, ⊎_elim}
use Rattle.std.proofs.lemmas.Bool.{cases_eq}
use Rattle.std.specs.List.{AllByRecursion}
use Rattle.clsm_model.specs.declared.slot.Slot.{Slot}
use Rattle.clsm_levels.specs.declared.entry.Entry.{Entry}
use Rattle.clsm_levels.specs.declared.place.Place.{Place}
use Rattle.clsm_levels.specs.declared.place.Place.TheVariants.{LevelZero, LevelOne}
use Rattle.clsm_levels.specs.Entry.{entries_of, AreBelow}
use Rattle.clsm_levels.specs.Run.{all_of}
use Rattle.clsm_levels.specs.Merge.{kept, merged, wanted}
use Rattle.clsm_levels.specs.Place.{places, target, runs_at, WritesRun, IsWithin, AreWithin, first_epoch, end_epoch}
use Rattle.clsm_levels.proofs.Every.{every-append, every_weaker, every_both}
use Rattle.clsm_levels.proofs.Histories.{entries_from, entries_below}
use Rattle.clsm_levels.proofs.Merges.{every-merged}
use Rattle.clsm_levels.proofs.Keeps.{every-kept}
use Rattle.clsm_levels.proofs.Placed.{places_next, staying_none, staying_all, target_one, target_zero, target_free}
use Rattle.clsm_levels.proofs.Turns.{wanted_one, wanted_zero}

-- a merge into level 0 leaves the epochs of the other places
same_epochs : (m : ℕ) → (m % 4 ≡ 3 → ⊥) → (place : Place) → (first_epoch (m + 1) place ≡ first_epoch m place) × (end_epoch (m + 1) place ≡ end_epoch m place)
same_epochs m ne (LevelZero i) = (omega arith, omega arith)
same_epochs m ne (LevelOne i) = (refl, omega arith)

same_within : (n m : ℕ) (place : Place) (run : List Entry) → (m % 4 ≡ 3 → ⊥) → IsWithin n m place run → IsWithin n (m + 1) place run
same_within n m place run ne within =
    let same = same_epochs m ne place in
    subst (λ (first : ℕ). AllByRecursion (λ e. (first * n ≤ e.time) × (e.time < end_epoch (m + 1) place * n)) run) (sym same.0)
    (subst (λ (end : ℕ). AllByRecursion (λ e. (first_epoch m place * n ≤ e.time) × (e.time < end * n)) run) (sym same.1) within)

-- the runs of m + 1 hold only times of their places, where those of m do and the target holds what
-- is wanted
pub within_next : (slots : List Slot) (held : Place → List Entry) (m n floor : ℕ) → held (target m)
    ≡ wanted m floor (entries_of slots (m * n) ((m + 1) * n)) (runs_at held (places m)) → AreBelow (m * n) (all_of (runs_at held (places m)))
    → AreWithin n m held → AreWithin n (m + 1) held
within_next slots held m n floor made older within =
    let epoch = entries_of slots (m * n) ((m + 1) * n) in
    let runs = runs_at held (places m) in
    let longer : m * n ≤ (m + 1) * n = grind arith in
    let each : Place → Type 0 = λ place. IsWithin n (m + 1) place (held place) in
    ⊎_elim
    (λ (e : m % 4 ≡ 3).
    let end : (m + 1) - (m + 1) % 4 ≡ m + 1 = omega arith in
    let all : AllByRecursion (λ x. x.time < (m + 1) * n) (all_of (epoch ∷ runs)) =
    every-append (λ x. x.time < (m + 1) * n) epoch (all_of runs) (entries_below slots (m * n) ((m + 1) * n))
    (every_weaker (λ x. x.time < m * n) (λ x. x.time < (m + 1) * n) (λ x l. omega arith) (all_of runs) older) in
    let P : Entry → Type 0 = λ x. (0 * n ≤ x.time) × (x.time < ((m + 1) - (m + 1) % 4) * n) in
    let made_all : AllByRecursion P (kept floor true (merged (all_of (epoch ∷ runs)))) =
    every-kept P floor true (merged (all_of (epoch ∷ runs))) (every-merged P (all_of (epoch ∷ runs))
    (every_weaker (λ x. x.time < (m + 1) * n) P (λ x l. (omega arith, subst (λ (c : ℕ). x.time < c * n) (sym end) l)) (all_of (epoch ∷ runs)) all)) in
    let new : each (target m) = subst (λ (place : Place). IsWithin n (m + 1) place (held (target m))) (sym (target_one m e))
    (subst (AllByRecursion P) (sym (made ∙ wanted_one m floor epoch runs e)) made_all) in
    subst (AllByRecursion each) (sym (places_next m)) (new, subst (AllByRecursion each) (sym (staying_none m e)) tt))
    (λ (ne : m % 4 ≡ 3 → ⊥).
    let first : (m + 1) - (m + 1) % 4 + m % 4 ≡ m = omega arith in
    let P : Entry → Type 0 = λ x. (((m + 1) - (m + 1) % 4 + m % 4) * n ≤ x.time) × (x.time < ((m + 1) - (m + 1) % 4 + m % 4 + 1) * n) in
    let all : AllByRecursion P epoch = every_weaker (λ x. (m * n ≤ x.time) × (x.time < (m + 1) * n)) P
    (λ x both. subst (λ (c : ℕ). (c * n ≤ x.time) × (x.time < (c + 1) * n)) (sym first) both) epoch
    (every_both (λ x. m * n ≤ x.time) (λ x. x.time < (m + 1) * n) epoch (entries_from slots (m * n) ((m + 1) * n))
    (entries_below slots (m * n) ((m + 1) * n))) in
    let made_all : AllByRecursion P (kept floor false (merged epoch)) = every-kept P floor false (merged epoch) (every-merged P epoch all) in
    let new : each (target m) = subst (λ (place : Place). IsWithin n (m + 1) place (held (target m))) (sym (target_zero m ne))
    (subst (AllByRecursion P) (sym (made ∙ wanted_zero m floor epoch runs ne)) made_all) in
    let old : AllByRecursion each (places m) = every_weaker (λ place. IsWithin n m place (held place)) each
    (λ place w. same_within n m place (held place) ne w) (places m) within in
    subst (AllByRecursion each) (sym (places_next m)) (new, subst (AllByRecursion each) (sym (staying_all m ne)) old))
    (cases_eq (m % 4) 3)

-- readers of m keep theirs
pub within_stay : (held held' : Place → List Entry) (m n : ℕ) (run : List Entry) → WritesRun held held' (target m) run → AreWithin n m held
    → AreWithin n m held'
within_stay held held' m n run w within =
    every_weaker (λ (place : Place). (place ≢ target m) × IsWithin n m place (held place)) (λ place. IsWithin n m place (held' place))
    (λ place both. subst (IsWithin n m place) (sym (w.others place both.0)) both.1) (places m)
    (every_both (λ (place : Place). place ≢ target m) (λ place. IsWithin n m place (held place)) (places m) (target_free m) within)

-- before the first merge nothing is held
pub within_start : (held : Place → List Entry) (n : ℕ) → held (LevelOne 0) ≡ [] → AreWithin n 0 held
within_start held n none = (subst (IsWithin n 0 (LevelOne 0)) (sym none) tt, tt)

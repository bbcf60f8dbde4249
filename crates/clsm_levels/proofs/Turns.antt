-- A whole merge, in its places.
use Rattle.std.proofs.Common.{◌≡◌, ℕ, ◌+◌, ◌*◌, ◌%◌, ◌≤◌, Bool, true, false, cond, List, [], ◌∷◌, length, refl, sym, ap, ◌∙◌, arith, subst, ⊎_elim}
use Rattle.std.proofs.lemmas.Bool.{eq-eqb, ne_eqb, cases_eq}
use Rattle.clsm_model.specs.History.{History}
use Rattle.clsm_model.specs.declared.slot.Slot.{Slot}
use Rattle.clsm_levels.specs.declared.entry.Entry.{Entry}
use Rattle.clsm_levels.specs.declared.place.Place.{Place}
use Rattle.clsm_levels.specs.Entry.{entries_of}
use Rattle.clsm_levels.specs.Run.{all_of}
use Rattle.clsm_levels.specs.Merge.{kept, merged, wanted}
use Rattle.clsm_levels.specs.Content.{IsContent}
use Rattle.clsm_levels.specs.Place.{places, target, staying, IsFree, runs_at, WritesRun}
use Rattle.clsm_levels.specs.Rule.{MakesNext}
use Rattle.clsm_levels.proofs.Histories.{length-entries_of}
use Rattle.clsm_levels.proofs.Merges.{length-merged}
use Rattle.clsm_levels.proofs.Keeps.{length-kept}
use Rattle.clsm_levels.proofs.Contents.{content_level_zero, content_level_one}
use Rattle.clsm_levels.proofs.Placed.{places_next, staying_none, staying_all, target_free, target_free_before}

-- ---- which runs are where

-- a write elsewhere changes none of these runs
pub runs_same : (held held' : Place → List Entry) (place : Place) (run : List Entry) (ps : List Place) → WritesRun held held' place run → IsFree place ps
    → runs_at held' ps ≡ runs_at held ps
runs_same held held' place run [] w free = refl
runs_same held held' place run (p ∷ ps) w free =
    let here : held' p ≡ held p = w.others p free.0 in
    let rest : runs_at held' ps ≡ runs_at held ps = runs_same held held' place run ps w free.1 in
    cc (here, rest)

-- readers of m see what they saw
pub runs_stay : (held held' : Place → List Entry) (m : ℕ) (run : List Entry) → WritesRun held held' (target m) run → runs_at held' (places m)
    ≡ runs_at held (places m)
runs_stay held held' m run w = runs_same held held' (target m) run (places m) w (target_free m)

-- and readers of the component before it too, but where m + 1 is the first after a merge into level
-- 1
pub runs_stay_before : (held held' : Place → List Entry) (m : ℕ) (run : List Entry) → ((m + 1) % 4 ≡ 0 → ⊥) → WritesRun held held' (target (m + 1)) run
    → runs_at held' (places m) ≡ runs_at held (places m)
runs_stay_before held held' m run first w = runs_same held held' (target (m + 1)) run (places m) w (target_free_before m first)

-- readers of m + 1 search the place that was written, and then what stays
runs_next : (held : Place → List Entry) (m : ℕ) → runs_at held (places (m + 1)) ≡ held (target m) ∷ runs_at held (staying m)
runs_next held m = ap (runs_at held) (places_next m)

pub wanted_one : (m floor : ℕ) (epoch : List Entry) (runs : List (List Entry)) → m % 4 ≡ 3 → wanted m floor epoch runs
    ≡ kept floor true (merged (all_of (epoch ∷ runs)))
wanted_one m floor epoch runs e = ap (λ (b : Bool). cond b (kept floor true (merged (all_of (epoch ∷ runs)))) (kept floor false (merged epoch)))
    (eq-eqb (m % 4) 3 e)

pub wanted_zero : (m floor : ℕ) (epoch : List Entry) (runs : List (List Entry)) → (m % 4 ≡ 3 → ⊥) → wanted m floor epoch runs ≡ kept floor false (merged epoch)
wanted_zero m floor epoch runs ne = ap (λ (b : Bool). cond b (kept floor true (merged (all_of (epoch ∷ runs)))) (kept floor false (merged epoch)))
    (ne_eqb (m % 4) 3 ne)

-- ---- the turn from m to m + 1

module _ (h : History) (held : Place → List Entry) (m n f floor : ℕ) where
  longer : m * n ≤ (m + 1) * n
  longer = grind arith

  -- where the target holds what is wanted of the epoch and of the runs of m, the runs of m + 1 are
  -- a content up to the epoch's end
  pub turn_in_place : held (target m) ≡ wanted m floor (entries_of h.slots (m * n) ((m + 1) * n)) (runs_at held (places m)) → f ≤ floor → f ≤ m * n
      → IsContent h (runs_at held (places m)) f (m * n) → IsContent h (runs_at held (places (m + 1))) floor ((m + 1) * n)
  turn_in_place made up low c =
      let epoch = entries_of h.slots (m * n) ((m + 1) * n) in
      let runs = runs_at held (places m) in
      ⊎_elim
      (λ (e : m % 4 ≡ 3).
      let is : runs_at held (places (m + 1)) ≡ kept floor true (merged (all_of (epoch ∷ runs))) ∷ [] = runs_next held m
      ∙ ap (λ (ps : List Place). held (target m) ∷ runs_at held ps) (staying_none m e)
      ∙ ap (λ (r : List Entry). r ∷ []) (made ∙ wanted_one m floor epoch runs e) in
      subst (λ (l : List (List Entry)). IsContent h l floor ((m + 1) * n)) (sym is) (content_level_one h runs f floor (m * n) ((m + 1) * n) low longer up c))
      (λ (ne : m % 4 ≡ 3 → ⊥).
      let is : runs_at held (places (m + 1)) ≡ kept floor false (merged epoch) ∷ runs = runs_next held m
      ∙ ap (λ (ps : List Place). held (target m) ∷ runs_at held ps) (staying_all m ne)
      ∙ ap (λ (r : List Entry). r ∷ runs) (made ∙ wanted_zero m floor epoch runs ne) in
      subst (λ (l : List (List Entry)). IsContent h l floor ((m + 1) * n)) (sym is) (content_level_zero h runs f floor (m * n) ((m + 1) * n) low longer up c))
      (cases_eq (m % 4) 3)

-- a merge writes what is wanted into its target: the runs of m + 1 are then a content up to the
-- epoch's end
pub turn : (h : History) (held held' : Place → List Entry) (m n f floor : ℕ)
    → WritesRun held held' (target m) (wanted m floor (entries_of h.slots (m * n) ((m + 1) * n)) (runs_at held (places m))) → f ≤ floor → f ≤ m * n
    → IsContent h (runs_at held (places m)) f (m * n) → IsContent h (runs_at held' (places (m + 1))) floor ((m + 1) * n)
turn h held held' m n f floor w up low c =
    let epoch = entries_of h.slots (m * n) ((m + 1) * n) in
    let stay : runs_at held' (places m) ≡ runs_at held (places m) = runs_stay held held' m _ w in
    turn_in_place h held' m n f floor (w.written ∙ ap (wanted m floor epoch) (sym stay)) up low
    (subst (λ (l : List (List Entry)). IsContent h l f (m * n)) (sym stay) c)

-- so what is wanted makes the next component
pub wanted_makes_next : (m floor : ℕ) (epoch : List Entry) (runs : List (List Entry)) → MakesNext m floor epoch runs (wanted m floor epoch runs)
wanted_makes_next m floor epoch runs h held held' n f new old w up low c =
    turn h held held' m n f floor (subst (WritesRun held held' (target m))
    (ap (λ (es : List Entry). wanted m floor es runs) new ∙ ap (wanted m floor (entries_of h.slots (m * n) ((m + 1) * n))) old) w) up low c

-- ---- level 0 is never full

-- a merge into level 0 writes no more entries than the epoch has
pub length-wanted : (m floor : ℕ) (epoch : List Entry) (runs : List (List Entry)) → (m % 4 ≡ 3 → ⊥) → length (wanted m floor epoch runs) ≤ length epoch
length-wanted m floor epoch runs ne = omega (arith, ap length (wanted_zero m floor epoch runs ne), length-kept floor false (merged epoch), length-merged epoch)

-- so no more than it has times
pub at_most_n : (slots : List Slot) (m n floor : ℕ) (runs : List (List Entry)) → (m % 4 ≡ 3 → ⊥)
    → length (wanted m floor (entries_of slots (m * n) ((m + 1) * n)) runs) ≤ n
at_most_n slots m n floor runs ne =
    let epoch = entries_of slots (m * n) ((m + 1) * n) in
    let size : (m + 1) * n ≡ m * n + n = grind arith in
    omega (arith, length-wanted m floor epoch runs ne, length-entries_of slots (m * n) ((m + 1) * n))

-- How the clauses on runs are kept.
use Rattle.std.proofs.Common.{◌≡◌, ◌≢◌, ℕ, zero, suc, ◌+◌, ◌-◌, ◌*◌, ◌/◌, ◌%◌, ◌<◌, ◌≤◌, ◌==◌, ◌⊎◌, ◌&&◌, ◌||◌, not, set, ⊎_elim, Bool, true, false, cond}
use Rattle.std.proofs.Common.{nat_lt, List, [], ◌∷◌, ◌++◌, map, slice_index_or, sym, refl, ap, ◌∙◌, subst, arith, inl, inr, Option, Some, None, unwrap_or}
use Rattle.std.specs.List.{AllByRecursion}
use Rattle.std.proofs.lemmas.Bool.{lt-ltb, le-ltb, eq-eqb, cases_lt, cases_eq}
use Rattle.std.proofs.lemmas.Bool.{ltb-true, eqb-true}
use Rattle.clsm_model.specs.declared.slot.Slot.{Slot}
use Rattle.clsm_model.specs.declared.slot.Slot.TheVariants.{Nothing}
use Rattle.clsm_model.specs.History.{History}
use Rattle.clsm_levels.specs.declared.entry.Entry.{Entry}
use Rattle.clsm_levels.specs.declared.place.Place.{Place}
use Rattle.clsm_levels.specs.declared.place.Place.TheVariants.{LevelOne}
use Rattle.clsm_levels.specs.Content.{IsContent, AgreeBelow}
use Rattle.clsm_levels.specs.Place.{places, target, level_zero_places, IsWithin}
use Rattle.clsm_levels.proofs.Contents.{content_agree}
use Rattle.clsm_levels.proofs.Turns.{turn_in_place}
use Rattle.clsm_levels.proofs.Placed.{target_one, target_zero}
use Rattle.clsm_levels.proofs.Withins.{within_next}
use Rattle.clsm_law.specs.declared.layout.Layout.{Layout}
use Rattle.clsm_law.specs.declared.word.Word.{Word}
use Rattle.clsm_law.specs.declared.word.Word.TheVariants.{Pin, Snap, Count, Entry as EntryWord}
use Rattle.clsm_law.specs.Merging.{IsRunWord, place_of, is_retired, is_clean, is_all_quiet, reader_at, reader_by, merger_looked}
use Rattle.clsm_law.specs.declared.step.Step.{Step}
use Rattle.clsm_law.specs.declared.step.Step.TheVariants.{Look, LeaveExclusive, WriteRun, ClearState, Publish}
use Rattle.clsm_law.specs.declared.merger.MergerView.{MergerView}
use Rattle.clsm_law.specs.declared.merger.Reader.{Reader}
use Rattle.clsm_law.specs.declared.merger.Phase.{Phase}
use Rattle.clsm_law.specs.declared.merger.Phase.TheVariants.{Clean, Frozen, Retired}
use Rattle.clsm_law.specs.Memory.{Memory, room_of, put}
use Rattle.clsm_law.specs.Places.{number_of, is_named, entry_in, entries_from, entries_in, held_at}
use Rattle.clsm_law.specs.Worlds.{outcome_at, settled, history_of, runs_of, passes_from, is_length, is_ended, is_canonical, are_canonical}
use Rattle.clsm_law.specs.Law.{AreRuns, is_held_back}
use Rattle.clsm_law.proofs.Frames.{put_other, put_same, some_of}
use Rattle.clsm_law.proofs.Setting.{facts, Setting, Ground, x, M, S, Opens, OpensTo, memory', slots', merger'}
use Rattle.clsm_law.proofs.Cases.{by_bool}
use Rattle.clsm_law.proofs.Windows.{all_quiet_stays}
use Rattle.clsm_law.proofs.Growth.{slots_stay}
use Rattle.clsm_law.proofs.GrowthMerger.{slots_stay'}
use Rattle.clsm_law.proofs.Phases.{frozen_not_retired}

-- ---- histories that agree below a time

pub settled_at : (slots : List (Option Slot)) (t : ℕ) → slice_index_or (settled slots) t Nothing ≡ unwrap_or (outcome_at slots t) Nothing
settled_at [] t = refl
settled_at (s ∷ ss) zero = refl
settled_at (s ∷ ss) (suc t) = settled_at ss t

-- where all slots below a are decided, and decided slots stay
pub agree_below : (slots slots' : List (Option Slot)) (a : ℕ) → ((t : ℕ) → t < a → outcome_at slots t ≢ None)
    → ((u : ℕ) (b : Slot) → outcome_at slots u ≡ Some b → outcome_at slots' u ≡ Some b) → AgreeBelow a (history_of slots) (history_of slots')
agree_below slots slots' a decided stay t lt =
    let d = some_of (outcome_at slots t) (decided t lt) in
    settled_at slots' t ∙ ap (λ (o : Option Slot). unwrap_or o Nothing) (stay t d.0 d.1 ∙ sym d.1) ∙ sym (settled_at slots t)

-- ---- memories with the same words in a place hold the same there

-- the place's words are the same
pub record SamePlace (memory memory' : Memory) (p : ℕ) : Type 0 where
  pub count : memory' (Count p) ≡ memory (Count p)
  pub words : (e i : ℕ) → memory' (EntryWord p e i) ≡ memory (EntryWord p e i)

-- an entry with the same words is the same
pub entry_same : (memory memory' : Memory) (p e : ℕ) → ((i : ℕ) → memory' (EntryWord p e i) ≡ memory (EntryWord p e i)) → entry_in memory' p e
    ≡ entry_in memory p e
entry_same memory memory' p e same = rw (same 0, same 1, same 2, same 3, same 4, same 5, same 6, same 7, same 8, same 9, same 10) refl

entries_same : (memory memory' : Memory) (p e n : ℕ) → SamePlace memory memory' p → entries_from memory' p e n ≡ entries_from memory p e n
entries_same memory memory' p e zero s = refl
entries_same memory memory' p e (suc n) s = let a = entry_same memory memory' p e (s.words e) in let b = entries_same memory memory' p (e + 1) n s in cc (a, b)

pub place_same : (memory memory' : Memory) (p : ℕ) → SamePlace memory memory' p → entries_in memory' p ≡ entries_in memory p
place_same memory memory' p s = ap (entries_from memory' p 0) s.count ∙ entries_same memory memory' p 0 (memory (Count p)) s

-- the test is the same on each number
passes_same : (test test' : ℕ → Bool) (a n : ℕ) → ((k : ℕ) → test' k ≡ test k) → passes_from test' a n ≡ passes_from test a n
passes_same test test' a zero h = refl
passes_same test test' a (suc n) h = let b = passes_same test test' (a + 1) n h in rw (h a) (ap (λ (c : Bool). test a && c) b)

ended_same : (memory memory' : Memory) (p e : ℕ) → ((i : ℕ) → memory' (EntryWord p e i) ≡ memory (EntryWord p e i)) → is_ended memory' p e ≡ is_ended memory p e
ended_same memory memory' p e same = passes_same (λ j. nat_lt j (memory (EntryWord p e 2)) || memory (EntryWord p e (3 + j)) == 0)
    (λ j. nat_lt j (memory' (EntryWord p e 2)) || memory' (EntryWord p e (3 + j)) == 0) 0 8 (λ j. rw (same 2, same (3 + j)) refl)

and_same : (a b c d : Bool) → c ≡ a → d ≡ b → (c && d) ≡ (a && b)
and_same a b c d e f = ap (λ (k : Bool). k && d) e ∙ ap (λ (k : Bool). a && k) f

length_same : (a b c d : ℕ) → c ≡ a → d ≡ b → is_length c d ≡ is_length a b
length_same a b c d e f = ap (λ (k : ℕ). is_length k d) e ∙ ap (is_length a) f

pub entry_canonical : (memory memory' : Memory) (p e : ℕ) → ((i : ℕ) → memory' (EntryWord p e i) ≡ memory (EntryWord p e i)) → is_canonical memory' p e
    ≡ is_canonical memory p e
entry_canonical memory memory' p e same = and_same (is_length (memory (EntryWord p e 1)) (memory (EntryWord p e 2))) (is_ended memory p e)
    (is_length (memory' (EntryWord p e 1)) (memory' (EntryWord p e 2))) (is_ended memory' p e)
    (length_same (memory (EntryWord p e 1)) (memory (EntryWord p e 2)) (memory' (EntryWord p e 1)) (memory' (EntryWord p e 2)) (same 1) (same 2))
    (ended_same memory memory' p e same)

pub canonical_same : (memory memory' : Memory) (p : ℕ) → SamePlace memory memory' p → are_canonical memory' p ≡ are_canonical memory p
canonical_same memory memory' p s = ap (passes_from (is_canonical memory' p) 0) s.count
    ∙ passes_same (is_canonical memory p) (is_canonical memory' p) 0 (memory (Count p)) (λ e. entry_canonical memory memory' p e (s.words e))

-- ---- the places that a component names

-- m mod 4 places of level 0, and one of level 1
named_zero : (j q n : ℕ) → n ≤ j → j < 4
    → AllByRecursion (λ place. cond (nat_lt (number_of place) 3) (nat_lt (number_of place) j) (number_of place == 3 + q) ≡ true) (level_zero_places n)
named_zero j q zero le lt = tt
named_zero j q (suc n) le lt = (rw (lt-ltb n 3 (omega arith), lt-ltb n j (omega arith)) refl, named_zero j q n (omega arith) lt)

append_all : {A : Type 0} (P : A → Type 0) (xs : List A) (y : A) → AllByRecursion P xs → P y → AllByRecursion P (xs ++ y ∷ [])
append_all P [] y a b = (b, tt)
append_all P (x ∷ xs) y a b = (a.0, append_all P xs y a.1 b)

pub all_named : (m : ℕ) → AllByRecursion (λ place. is_named m (number_of place) ≡ true) (places m)
all_named m = append_all (λ (place : Place). is_named m (number_of place) ≡ true) (level_zero_places (m % 4)) (LevelOne (m / 4 % 2))
    (named_zero (m % 4) (m / 4 % 2) (m % 4) (omega arith) (omega arith))
    (rw (le-ltb (3 + m / 4 % 2) 3 (omega arith), eq-eqb (3 + m / 4 % 2) (3 + m / 4 % 2) refl) refl)

map_same : {A B : Type 0} (f f' : A → B) (xs : List A) → AllByRecursion (λ a. f' a ≡ f a) xs → map f' xs ≡ map f xs
map_same f f' [] h = refl
map_same f f' (x ∷ xs) h = let a = h.0 in let b = map_same f f' xs h.1 in cc (a, b)

all_from : {A : Type 0} (P Q : A → Type 0) (xs : List A) → ((a : A) → P a → Q a) → AllByRecursion P xs → AllByRecursion Q xs
all_from P Q [] f h = tt
all_from P Q (x ∷ xs) f h = (f x h.0, all_from P Q xs f h.1)

all_both : {A : Type 0} (P Q : A → Type 0) (xs : List A) → AllByRecursion P xs → AllByRecursion Q xs → AllByRecursion (λ a. P a × Q a) xs
all_both P Q [] h k = tt
all_both P Q (x ∷ xs) h k = ((h.0, k.0), all_both P Q xs h.1 k.1)

-- ---- the runs of a component stay, where its places do
module _ (memory memory' : Memory) (component : ℕ) (same : (p : ℕ) → is_named component p ≡ true → SamePlace memory memory' p) where
  held_same : AllByRecursion (λ place. held_at memory' place ≡ held_at memory place) (places component)
  held_same = all_from (λ (place : Place). is_named component (number_of place) ≡ true) (λ place. held_at memory' place ≡ held_at memory place)
      (places component) (λ place e. place_same memory memory' (number_of place) (same (number_of place) e)) (all_named component)

  pub runs_same : runs_of memory' component ≡ runs_of memory component
  runs_same = map_same (held_at memory) (held_at memory') (places component) held_same

-- and so does the history below its end
module _ (z : Layout) (memory memory' : Memory) (h h' : History) (component floor : ℕ) (agree : AgreeBelow (component * z.cells) h h')
    (same : (p : ℕ) → is_named component p ≡ true → SamePlace memory memory' p) where
  pub runs_stay : AreRuns z memory h component floor → AreRuns z memory' h' component floor
  runs_stay r = record {
    content = subst (λ (runs : List (List Entry)). IsContent h' runs floor (component * z.cells)) (sym (runs_same memory memory' component same))
        (content_agree h h' (runs_of memory component) floor (component * z.cells) agree r.content);
    within = all_from (λ (place : Place). (held_at memory' place ≡ held_at memory place) × IsWithin z.cells component place (held_at memory place))
        (λ place. IsWithin z.cells component place (held_at memory' place)) (places component)
        (λ place both. subst (IsWithin z.cells component place) (sym both.0) both.1)
        (all_both (λ (place : Place). held_at memory' place ≡ held_at memory place) (λ place. IsWithin z.cells component place (held_at memory place))
        (places component) (held_same memory memory' component same) r.within);
    counts = λ p e. let c = r.counts p e in let s = (same p e).count in omega arith;
    canonical = λ p e. canonical_same memory memory' p (same p e) ∙ r.canonical p e;
  }

-- ---- a caller's step writes no run
pub seat_same : (s : Setting) (step : Step) → Opens s step → (p : ℕ) → SamePlace s.memory (M s step) p
seat_same s (Look word) o p = record { count = (λ k. put_same s.memory word k (Count p)); words = λ e i. (λ k. put_same s.memory word k (EntryWord p e i)) }
seat_same s step o p = record { count = refl; words = λ e i. refl }

seat_agree : (s : Setting) (step : Step) → Opens s step → (a : ℕ) → a ≤ s.merger.merged * s.z.cells → AgreeBelow a (history_of s.slots) (history_of (S s step))
seat_agree s step o a le = agree_below s.slots (S s step) a (λ t lt. s.law.merged_decided t (omega arith)) (slots_stay s step o)

pub runs_kept : (s : Setting) (step : Step) → Opens s step → AreRuns s.z (M s step) (history_of (S s step)) s.merger.merged s.merger.merged_floor
runs_kept s step o = runs_stay s.z s.memory (M s step) (history_of s.slots) (history_of (S s step)) s.merger.merged s.merger.merged_floor
    (seat_agree s step o (s.merger.merged * s.z.cells) (omega arith)) (λ p e. seat_same s step o p) s.law.runs

lower : (m n : ℕ) → (m - 1) * n ≤ m * n
lower m n = grind arith

pub former_runs_kept : (s : Setting) (step : Step) → Opens s step → is_held_back s.merger ≡ true
    → AreRuns s.z (M s step) (history_of (S s step)) (s.merger.merged - 1) s.merger.former_floor
former_runs_kept s step o back = runs_stay s.z s.memory (M s step) (history_of s.slots) (history_of (S s step)) (s.merger.merged - 1) s.merger.former_floor
    (seat_agree s step o ((s.merger.merged - 1) * s.z.cells) (lower s.merger.merged s.z.cells)) (λ p e. seat_same s step o p) (s.law.former_runs back)

-- ---- the merger writes only places that no reader of the newest component searches
apart_places : (m p q : ℕ) → is_named m p ≡ true → is_named m q ≡ false → p ≢ q
apart_places m p q named free e = absurd (let f : is_named m q ≡ true = subst (λ (k : ℕ). is_named m k ≡ true) e named in cc)

written_same : (memory : Memory) (word : Word) (y m p : ℕ) → IsRunWord word → is_named m (place_of word) ≡ false → is_named m p ≡ true
    → SamePlace memory (put memory word y) p
written_same memory (Count q) y m p r free named = record {
  count = put_other memory (Count q) (Count p) y (λ e. apart_places m p q named free cc);
  words = λ e i. refl;
}
written_same memory (EntryWord q e i) y m p r free named = record {
  count = refl;
  words = λ f j. put_other memory (EntryWord q e i) (EntryWord p f j) y (λ e. apart_places m p q named free cc);
}
written_same memory word y m p r free named = absurd r

pub merger_same : (g : Ground) (step : Step) → OpensTo g step → (p : ℕ) → is_named g.merger.merged p ≡ true → SamePlace g.memory (memory' g step) p
merger_same g (Look word) o p e = record { count = (λ k. put_same g.memory word k (Count p)); words = λ e i. (λ k. put_same g.memory word k (EntryWord p e i)) }
merger_same g (WriteRun word y) o p e = written_same g.memory word y g.merger.merged p o.1 o.3 e
merger_same g step o p e = record { count = refl; words = λ e i. refl }

merger_agree : (g : Ground) (step : Step) → OpensTo g step → (a : ℕ) → a ≤ g.merger.merged * g.z.cells
    → AgreeBelow a (history_of g.slots) (history_of (slots' g step))
merger_agree g step o a le = agree_below g.slots (slots' g step) a (λ t lt. g.law.merged_decided t (omega arith)) (slots_stay' g step o)

stay' : (g : Ground) (step : Step) → OpensTo g step → AreRuns g.z (memory' g step) (history_of (slots' g step)) g.merger.merged g.merger.merged_floor
stay' g step o = runs_stay g.z g.memory (memory' g step) (history_of g.slots) (history_of (slots' g step)) g.merger.merged g.merger.merged_floor
    (merger_agree g step o (g.merger.merged * g.z.cells) (omega arith)) (merger_same g step o) g.law.runs

-- m + 1 names the place that was written, and places that m names
named_next : (m p : ℕ) → is_named (m + 1) p ≡ true → (p ≡ number_of (target m)) ⊎ (is_named m p ≡ true)
named_next m p e = elim (cases_lt p 3) [
  | inl low ↦ let below : nat_lt p ((m + 1) % 4) ≡ true = subst (λ (b : Bool). cond b (nat_lt p ((m + 1) % 4)) (p == 3 + (m + 1) / 4 % 2) ≡ true)
      (lt-ltb p 3 low) e in
      let lt : p < (m + 1) % 4 = ltb-true p ((m + 1) % 4) below in
      elim (cases_eq (m % 4) 3) [
        | inl three ↦ absurd (omega arith)
        | inr ne ↦ elim (cases_lt p (m % 4)) [
          | inl named ↦ inr (rw (lt-ltb p 3 low) (lt-ltb p (m % 4) named))
          | inr last ↦ let is : p ≡ m % 4 = omega arith in inl (is ∙ sym (ap number_of (target_zero m ne)))
        ]
      ]
  | inr high ↦ let equal : (p == 3 + (m + 1) / 4 % 2) ≡ true = subst (λ (b : Bool). cond b (nat_lt p ((m + 1) % 4)) (p == 3 + (m + 1) / 4 % 2) ≡ true)
      (le-ltb p 3 high) e in
      let is : p ≡ 3 + (m + 1) / 4 % 2 = eqb-true p (3 + (m + 1) / 4 % 2) equal in
      elim (cases_eq (m % 4) 3) [
        | inl three ↦ let q : (m + 1) / 4 ≡ m / 4 + 1 = omega arith in inl (is ∙ ap (λ (k : ℕ). 3 + k % 2) q ∙ sym (ap number_of (target_one m three)))
        | inr ne ↦ let q : (m + 1) / 4 ≡ m / 4 = omega arith in inr (rw (le-ltb p 3 high) (eq-eqb p (3 + m / 4 % 2) (is ∙ ap (λ (k : ℕ). 3 + k % 2) q)))
      ]
]

-- what was published is a content up to the epoch's end
published : (g : Ground) → OpensTo g Publish → AreRuns g.z g.memory (history_of g.slots) (g.merger.merged + 1) g.merger.floor
published g o = record {
  content = turn_in_place (history_of g.slots) (held_at g.memory) g.merger.merged g.z.cells g.merger.merged_floor g.merger.floor o.2 g.law.floors.merged
      g.law.floors.below_merged g.law.runs.content;
  within = within_next (settled g.slots) (held_at g.memory) g.merger.merged g.z.cells g.merger.floor o.2 g.law.runs.content.older g.law.runs.within;
  counts = counts;
  canonical = canonical;
}
  where
    counts : (p : ℕ) → is_named (g.merger.merged + 1) p ≡ true → g.memory (Count p) ≤ room_of g.z p
    counts p e = ⊎_elim (λ (here : p ≡ number_of (target g.merger.merged)). subst (λ (k : ℕ). g.memory (Count k) ≤ room_of g.z k) (sym here) o.1)
        (λ (old : is_named g.merger.merged p ≡ true). g.law.runs.counts p old) (named_next g.merger.merged p e)

    canonical : (p : ℕ) → is_named (g.merger.merged + 1) p ≡ true → are_canonical g.memory p ≡ true
    canonical p e = ⊎_elim (λ (here : p ≡ number_of (target g.merger.merged)). subst (λ (k : ℕ). are_canonical g.memory k ≡ true) (sym here) o.3)
        (λ (old : is_named g.merger.merged p ≡ true). g.law.runs.canonical p old) (named_next g.merger.merged p e)

-- a look leaves the number of merges and their floors
looked_merged : (z : Layout) (m : MergerView) (word : Word) (x : ℕ) → (merger_looked z m word x).merged ≡ m.merged
looked_merged z m (Snap i) x = refl
looked_merged z m (Pin i) x = refl
looked_merged z m word x = refl

looked_floor : (z : Layout) (m : MergerView) (word : Word) (x : ℕ) → (merger_looked z m word x).merged_floor ≡ m.merged_floor
looked_floor z m (Snap i) x = refl
looked_floor z m (Pin i) x = refl
looked_floor z m word x = refl

looked_former : (z : Layout) (m : MergerView) (word : Word) (x : ℕ) → (merger_looked z m word x).former_floor ≡ m.former_floor
looked_former z m (Snap i) x = refl
looked_former z m (Pin i) x = refl
looked_former z m word x = refl

pub runs_merged : (g : Ground) (step : Step) → OpensTo g step → AreRuns g.z (memory' g step) (history_of (slots' g step)) (merger' g step).merged
    (merger' g step).merged_floor
runs_merged g Publish o = runs_stay g.z g.memory (memory' g Publish) (history_of g.slots) (history_of g.slots) (g.merger.merged + 1) g.merger.floor
    (λ t lt. refl) (λ p e. record { count = refl; words = λ e i. refl }) (published g o)
runs_merged g (Look word) o = let m' = merger_looked g.z g.merger word (g.memory word) in
    subst (λ (k : ℕ). AreRuns g.z (memory' g (Look word)) (history_of g.slots) k m'.merged_floor) (sym (looked_merged g.z g.merger word (g.memory word)))
    (subst (λ (k : ℕ). AreRuns g.z (memory' g (Look word)) (history_of g.slots) g.merger.merged k) (sym (looked_floor g.z g.merger word (g.memory word)))
    (stay' g (Look word) o))
runs_merged g step o = stay' g step o

-- ---- the runs of the component before

-- no look brings readers back
quiet_before : (readers : List Reader) (i x : ℕ) → not (is_all_quiet (set readers i (reader_by (reader_at readers i) x))) ≡ true
    → not (is_all_quiet readers) ≡ true
quiet_before readers i x e = by_bool (λ b. is_all_quiet readers ≡ b → not b ≡ true) (is_all_quiet readers)
    (λ _ q. absurd (let stays = all_quiet_stays readers i x q in cc (stays, e))) (λ _ _. refl) refl

back_before : (p : Phase) (readers : List Reader) (i x : ℕ)
    → (is_retired p && not (is_all_quiet (cond (is_retired p) (set readers i (reader_by (reader_at readers i) x)) readers))) ≡ true
    → (is_retired p && not (is_all_quiet readers)) ≡ true
back_before Clean readers i x e = e
back_before Frozen readers i x e = e
back_before Retired readers i x e = quiet_before readers i x e

looked_back : (z : Layout) (m : MergerView) (word : Word) (x : ℕ) → is_held_back (merger_looked z m word x) ≡ true → is_held_back m ≡ true
looked_back z m (Snap i) x e = e
looked_back z m (Pin i) x e = back_before m.phase m.readers i x e
looked_back z m word x e = e

first_true : (a b : Bool) → (a && b) ≡ true → a ≡ true
first_true true b e = refl
first_true false b e = e

second_true : (a b : Bool) → (a && b) ≡ true → b ≡ true
second_true true b e = e
second_true false b e = absurd cc

not_left : (extended : Bool) (p : Phase) → is_clean p ≡ true → is_retired (cond extended Frozen p) ≡ true → ⊥
not_left true p e f = absurd cc
not_left false Clean e f = absurd cc
not_left false Frozen e f = absurd cc
not_left false Retired e f = absurd cc

pub all_same : (g : Ground) (step : Step) → OpensTo g step → is_retired g.merger.phase ≡ true → (p : ℕ) → SamePlace g.memory (memory' g step) p
all_same g (Look word) o r p = record { count = (λ k. put_same g.memory word k (Count p)); words = λ e i. (λ k. put_same g.memory word k (EntryWord p e i)) }
all_same g (WriteRun word y) o r p = absurd (frozen_not_retired g.merger.phase o.0 r)
all_same g step o r p = record { count = refl; words = λ e i. refl }

former' : (g : Ground) (step : Step) → OpensTo g step → is_held_back g.merger ≡ true
    → AreRuns g.z (memory' g step) (history_of (slots' g step)) (g.merger.merged - 1) g.merger.former_floor
former' g step o back = runs_stay g.z g.memory (memory' g step) (history_of g.slots) (history_of (slots' g step))
    (g.merger.merged - 1) g.merger.former_floor (merger_agree g step o ((g.merger.merged - 1) * g.z.cells) (lower g.merger.merged g.z.cells))
    (λ p e. all_same g step o (first_true (is_retired g.merger.phase) (not (is_all_quiet g.merger.readers)) back) p) (g.law.former_runs back)

pub former_runs_merged : (g : Ground) (step : Step) → OpensTo g step → is_held_back (merger' g step) ≡ true
    → AreRuns g.z (memory' g step) (history_of (slots' g step)) ((merger' g step).merged - 1) (merger' g step).former_floor
former_runs_merged g (Look word) o back = let m' = merger_looked g.z g.merger word (g.memory word) in
    subst (λ (k : ℕ). AreRuns g.z (memory' g (Look word)) (history_of g.slots) (k - 1) m'.former_floor) (sym (looked_merged g.z g.merger word (g.memory word)))
    (subst (λ (k : ℕ). AreRuns g.z (memory' g (Look word)) (history_of g.slots) (g.merger.merged - 1) k)
    (sym (looked_former g.z g.merger word (g.memory word))) (former' g (Look word) o (looked_back g.z g.merger word (g.memory word) back)))
former_runs_merged g Publish o back = let one : g.merger.merged + 1 - 1 ≡ g.merger.merged = omega arith in
    subst (λ (k : ℕ). AreRuns g.z (memory' g Publish) (history_of g.slots) k g.merger.merged_floor) (sym one) (stay' g Publish o)
former_runs_merged g LeaveExclusive o back =
    absurd (not_left g.merger.limit_extended g.merger.phase (g.law.merger.clean o.0)
    (first_true (is_retired (cond g.merger.limit_extended Frozen g.merger.phase)) (not (is_all_quiet g.merger.readers)) back))
former_runs_merged g (ClearState cell) o back =
    absurd (let loud = second_true (is_retired (cond ((facts g).last cell) Clean g.merger.phase)) (not (is_all_quiet g.merger.readers)) back in
    let quiet = o.1 in let e = ap not quiet in cc (loud, e))
former_runs_merged g step o back = former' g step o back

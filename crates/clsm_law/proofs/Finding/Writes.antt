-- What the cells of a lawful world hold are the history's writes, and the newest of those in a
-- chain.
use Rattle.std.proofs.Common.{◌≡◌, ℕ, ◌<◌, ◌≤◌, ◌==◌, ◌&&◌, Bool, true, false, cond, nat_lt, List, [], ◌∷◌, length, take, sym, refl, ap, ◌∙◌}
use Rattle.std.proofs.Common.{subst, arith, inl, inr, ⊎_elim, Option, Some, None, eq-eqb, ne_eqb}
use Rattle.std.specs.Prelude.{slice_index}
use Rattle.std.proofs.lemmas.Bool.{cases_lt, lt-ltb, le-ltb}
use Rattle.std.proofs.lemmas.List.{length-take-le, get_or-take, ext_get_or}
use Rattle.std.proofs.lemmas.Option.{cond_some}
use Rattle.clsm_model.specs.declared.slot.Slot.{Slot}
use Rattle.clsm_model.specs.declared.slot.Slot.TheVariants.{Nothing, Wrote}
use Rattle.clsm_model.specs.History.{Write, write_of}
use Rattle.clsm_law.specs.declared.layout.Layout.{Layout}
use Rattle.clsm_law.specs.declared.word.Word.TheVariants.{Cell, State}
use Rattle.clsm_law.specs.declared.word.Part.TheVariants.{Key, Length, Value}
use Rattle.clsm_law.specs.Memory.{Memory, cell_of}
use Rattle.clsm_law.specs.Views.{IsShort, length_of, state_of}
use Rattle.clsm_law.specs.Law.{In, Shows}
use Rattle.clsm_law.specs.Reading.{cell_value_words, cell_value, is_written, write_at, later, newest_among}
use Rattle.clsm_law.proofs.Records.Histories.{settle, at_most_eight}
use Rattle.clsm_law.proofs.Cases.{below}

-- ---- the value that a cell holds

-- a word of a cell
word_at : (memory : Memory) (c j : ℕ) → j < 8 → slice_index (cell_value_words memory c) j ≡ memory (Cell c (Value j))
word_at memory c = below (λ j. slice_index (cell_value_words memory c) j ≡ memory (Cell c (Value j))) 8
    (refl, (refl, (refl, (refl, (refl, (refl, (refl, (refl, tt))))))))

-- a cell whose first words are these holds them
words_shown : (memory : Memory) (c : ℕ) (l : List ℕ) → length l ≤ 8 → ((j : ℕ) → j < length l → memory (Cell c (Value j)) ≡ slice_index l j)
    → take (length l) (cell_value_words memory c) ≡ l
words_shown memory c l le same =
    let long = length-take-le (length l) (cell_value_words memory c) le in
    ext_get_or 0 (take (length l) (cell_value_words memory c)) l long (λ j lt.
    let below : j < length l = omega arith in
    get_or-take (length l) (cell_value_words memory c) j 0 below ∙ word_at memory c j (omega arith) ∙ same j below)

-- the cell of a write of at most eight words holds its value
value_shown : (memory : Memory) (c i key : ℕ) (written : Option (List ℕ)) → length_of written ≤ 8 → Shows memory c (Some (Wrote i key written))
    → cell_value memory c ≡ written
value_shown memory c i key None le h = ap (λ b. cond b None (Some (take (memory (Cell c Length)) (cell_value_words memory c))))
    (eq-eqb (memory (State c)) 3 h.0)
value_shown memory c i key (Some words) le h = ap (λ b. cond b None (Some (take (memory (Cell c Length)) (cell_value_words memory c))))
    (ne_eqb (memory (State c)) 3 (let two = h.0 in λ e. omega arith))
    ∙ ap (λ (n : ℕ). Some (take n (cell_value_words memory c))) h.2
    ∙ ap (λ (l : List ℕ). Some l) (words_shown memory c words le h.3)

-- the cell of a write is set or removed
written_shown : (memory : Memory) (c : ℕ) (written : Option (List ℕ)) → memory (State c) ≡ state_of written → is_written memory c ≡ true
written_shown memory c None e = rw e refl
written_shown memory c (Some words) e = rw e refl

-- ---- the write that a cell holds

-- a test of three, of which the second passes, or fails
test_passed : (b w k : Bool) (x : Option Write) → w ≡ true → cond (b && w && k) x None ≡ cond b (cond k x None) None
test_passed true w k x e = rw e refl
test_passed false w k x e = refl

test_failed : (b w k : Bool) (x : Option Write) → w ≡ false → cond (b && w && k) x None ≡ cond b None None
test_failed true w k x e = rw e refl
test_failed false w k x e = refl

-- the write found in the cell of a shown time is the history's, where the time is below s
pub write_shown : (z : Layout) (memory : Memory) (key s t : ℕ) (slot : Option Slot)
    → ((i k : ℕ) (written : Option (List ℕ)) → slot ≡ Some (Wrote i k written) → IsShort written) → Shows memory (cell_of z t) slot
    → write_at z memory key s t ≡ cond (nat_lt t s) (write_of key t (settle slot)) None
write_shown z memory key s t None short h = test_failed (nat_lt t s) (is_written memory (cell_of z t)) (memory (Cell (cell_of z t) Key) == key) _ (rw h refl)
write_shown z memory key s t (Some Nothing) short h = test_failed (nat_lt t s) (is_written memory (cell_of z t)) (memory (Cell (cell_of z t) Key) == key) _
    (rw h refl)
write_shown z memory key s t (Some (Wrote i k written)) short h = let c = cell_of z t in
    test_passed (nat_lt t s) (is_written memory c) (memory (Cell c Key) == key) _ (written_shown memory c written h.0)
    ∙ ap (λ (j : ℕ). cond (nat_lt t s) (cond (j == key) (Some (record { time = t; value = cell_value memory c })) None) None) h.1
    ∙ ap (λ (v : Option (List ℕ)). cond (nat_lt t s) (cond (k == key) (Some (record { time = t; value = v })) None) None)
    (value_shown memory c i k written (at_most_eight written (short i k written refl)) h)

-- ---- the newest among the cells of some times

-- the write, if there is one, is that of one of the times, and no later one of them has a write
abbrev pub IsNewestOf : (ℕ → Option Write) → List ℕ → Option Write → Type 0
IsNewestOf hit ts None = (t : ℕ) → In t ts → hit t ≡ None
IsNewestOf hit ts (Some w) = In w.time ts × (hit w.time ≡ Some w) × ((t : ℕ) → In t ts → w.time < t → hit t ≡ None)

module _ (hit : ℕ → Option Write) (timed : (t : ℕ) (w : Write) → hit t ≡ Some w → w.time ≡ t) where
  newest_with : (t : ℕ) (ts : List ℕ) (a r : Option Write) → hit t ≡ a → IsNewestOf hit ts r → IsNewestOf hit (t ∷ ts) (later a r)
  newest_with t ts None None e rest = λ u i. ⊎_elim (λ (here : t ≡ u). subst (λ (k : ℕ). hit k ≡ None) here e) (λ (there : In u ts). rest u there) i
  newest_with t ts None (Some w) e rest =
      (inr rest.0, rest.1, λ u i lt. ⊎_elim (λ (here : t ≡ u). subst (λ (k : ℕ). hit k ≡ None) here e) (λ (there : In u ts). rest.2 u there lt) i)
  newest_with t ts (Some a) None e rest = let at = timed t a e in (
    inl (sym at),
    subst (λ (k : ℕ). hit k ≡ Some a) (sym at) e,
    λ u i lt. ⊎_elim (λ (here : t ≡ u). absurd (omega arith))
        (λ (there : In u ts). rest u there) i,
  )
  newest_with t ts (Some a) (Some b) e rest = let at = timed t a e in ⊎_elim
      (λ (lt : a.time < b.time). subst (IsNewestOf hit (t ∷ ts)) (ap (λ c. cond c (Some b) (Some a)) (sym (lt-ltb a.time b.time lt)))
      (inr rest.0, rest.1, λ u i later. ⊎_elim (λ (here : t ≡ u). absurd (omega arith)) (λ (there : In u ts). rest.2 u there later) i))
      (λ (le : b.time ≤ a.time). subst (IsNewestOf hit (t ∷ ts)) (ap (λ c. cond c (Some b) (Some a)) (sym (le-ltb a.time b.time le))) (
        inl (sym at),
        subst (λ (k : ℕ). hit k ≡ Some a) (sym at) e,
        λ u i later. ⊎_elim (λ (here : t ≡ u). absurd (omega arith))
            (λ (there : In u ts). rest.2 u there (omega arith)) i,
      ))
      (cases_lt a.time b.time)

-- the write found at a time has that time
write_time : (z : Layout) (memory : Memory) (key s t : ℕ) (w : Write) → write_at z memory key s t ≡ Some w → w.time ≡ t
write_time z memory key s t w e = let same = (cond_some _ (record { time = t; value = cell_value memory (cell_of z t) }) w e).1 in
    sym (ap (λ (v : Write). v.time) same)

pub newest_among_is : (z : Layout) (memory : Memory) (key s : ℕ) (ts : List ℕ) → IsNewestOf (write_at z memory key s) ts (newest_among z memory ts key s)
newest_among_is z memory key s [] = λ t i. absurd i
newest_among_is z memory key s (t ∷ ts) = newest_with (write_at z memory key s) (write_time z memory key s) t ts (write_at z memory key s t)
    (newest_among z memory ts key s) refl (newest_among_is z memory key s ts)

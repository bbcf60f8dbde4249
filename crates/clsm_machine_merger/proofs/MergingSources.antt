-- The sources of a merge are what their numbers have.
use Rattle.std.proofs.Common.{◌≡◌, ℕ, zero, suc, ◌+◌, ◌-◌, ◌*◌, ◌/◌, ◌%◌, ◌<◌, ◌≤◌, ◌==◌, Bool, true, false, cond, nat_lt, List, [], ◌∷◌, ◌++◌, drop}
use Rattle.std.proofs.Common.{length, get_or, map, refl, sym, ◌∙◌, ap, subst, arith, ⊎_elim, Option, Some, None, unwrap_or, append-nil}
use Rattle.std.proofs.lemmas.Bool.{lt-ltb, le-ltb, cases_lt}
use Rattle.std.proofs.lemmas.List.{at_drop_more, at_drop_all}
use Rattle.std.proofs.lemmas.List.Elements.{Contains-append_left, Contains-append_right, Contains-append_cases}
use Rattle.std.specs.List.{Contains}
use Rattle.clsm_model.specs.declared.slot.Slot.{Slot}
use Rattle.clsm_model.specs.declared.slot.Slot.TheVariants.{Nothing, Wrote}
use Rattle.clsm_levels.specs.declared.entry.Entry.{Entry}
use Rattle.clsm_levels.specs.declared.place.Place.TheVariants.{LevelOne}
use Rattle.clsm_levels.specs.Entry.{entry_of, entries_of}
use Rattle.clsm_levels.specs.Merge.{is_to_level_one}
use Rattle.clsm_levels.specs.Place.{level_zero_places}
use Rattle.clsm_levels.specs.Run.{all_of}
use Rattle.clsm_levels.proofs.Every.{contains_cases, contains_here, contains_none}
use Rattle.clsm_levels.proofs.Histories.{entries_more, entries_none}
use Rattle.clsm_law.specs.declared.layout.Layout.{Layout}
use Rattle.clsm_law.specs.declared.word.Word.TheVariants.{Count}
use Rattle.clsm_law.specs.declared.merger.MergerView.{MergerView}
use Rattle.clsm_law.specs.Memory.{Memory}
use Rattle.clsm_law.specs.Layout.{memory}
use Rattle.clsm_law.specs.Places.{entry_in, entries_from, held_at}
use Rattle.clsm_law.specs.Worlds.{outcome_at, settled, epoch_of, runs_of}
use Rattle.clsm_law.specs.Deciding.{entry_of_slot, search_order, searched_count, searched_total, searched_entry, source_count, source_at, sources_of}
use Rattle.clsm_machine_merger.proofs.MergingNumbers.{IsNumbered, either_at, numbered_none, numbered-append, numbered_as, entry_from, numbered-entries_from}

-- ---- the places one after the other

pub searched_total-drop : (memory : Memory) (component : ℕ) (ps : List ℕ) (i : ℕ) → i < length ps → searched_total memory component (drop i ps)
    ≡ searched_count memory component (get_or ps i 0) + searched_total memory component (drop (i + 1) ps)
unfolding searched_total
searched_total-drop memory component ps i lt = at_drop_more (searched_total memory component) ps i 0 lt

pub searched_total-all : (memory : Memory) (component : ℕ) (ps : List ℕ) (i : ℕ) → length ps ≤ i → searched_total memory component (drop i ps) ≡ 0
unfolding searched_total
searched_total-all memory component ps i le = at_drop_all (searched_total memory component) ps i le

searched_entry-drop : (memory : Memory) (component : ℕ) (ps : List ℕ) (i number : ℕ) → i < length ps → searched_entry memory component (drop i ps) number
    ≡ cond (nat_lt number (searched_count memory component (get_or ps i 0))) (Some (entry_in memory (get_or ps i 0) number))
    (searched_entry memory component (drop (i + 1) ps) (number - searched_count memory component (get_or ps i 0)))
unfolding searched_entry
searched_entry-drop memory component ps i number lt = at_drop_more (λ (qs : List ℕ). searched_entry memory component qs number) ps i 0 lt

-- a number below the count of the next place is one of its entries
pub searched_entry-here : (memory : Memory) (component : ℕ) (ps : List ℕ) (i number count : ℕ) → i < length ps → count
    ≡ searched_count memory component (get_or ps i 0) → number < count → searched_entry memory component (drop i ps) number
    ≡ Some (entry_in memory (get_or ps i 0) number)
searched_entry-here memory component ps i number count lt is below = searched_entry-drop memory component ps i number lt
    ∙ ap (λ (b : Bool). cond b (Some (entry_in memory (get_or ps i 0) number))
    (searched_entry memory component (drop (i + 1) ps) (number - searched_count memory component (get_or ps i 0))))
    (lt-ltb number (searched_count memory component (get_or ps i 0)) (omega arith))

-- any other is one of the places behind it
pub searched_entry-later : (memory : Memory) (component : ℕ) (ps : List ℕ) (i number count : ℕ) → i < length ps → count
    ≡ searched_count memory component (get_or ps i 0) → count ≤ number → searched_entry memory component (drop i ps) number
    ≡ searched_entry memory component (drop (i + 1) ps) (number - count)
searched_entry-later memory component ps i number count lt is above = searched_entry-drop memory component ps i number lt
    ∙ ap (λ (b : Bool). cond b (Some (entry_in memory (get_or ps i 0) number))
    (searched_entry memory component (drop (i + 1) ps) (number - searched_count memory component (get_or ps i 0))))
    (le-ltb number (searched_count memory component (get_or ps i 0)) (omega arith))
    ∙ ap (λ (n : ℕ). searched_entry memory component (drop (i + 1) ps) (number - n)) (sym is)

pub searched_entry-all : (memory : Memory) (component : ℕ) (ps : List ℕ) (i number : ℕ) → length ps ≤ i → searched_entry memory component (drop i ps) number
    ≡ None
unfolding searched_entry
searched_entry-all memory component ps i number le = at_drop_all (λ (qs : List ℕ). searched_entry memory component qs number) ps i le

-- the entries of the places, of each as many as counted
gathered : Memory → (ℕ → ℕ) → List ℕ → List Entry
gathered memory count [] = []
gathered memory count (p ∷ ps) = entries_from memory p 0 (count p) ++ gathered memory count ps

numbered-gathered : (memory : Memory) (component : ℕ) (ps : List ℕ) → IsNumbered (gathered memory (searched_count memory component) ps)
    (searched_total memory component ps) (searched_entry memory component ps)
unfolding gathered searched_total searched_entry
numbered-gathered memory component [] = numbered_none (λ k. None)
numbered-gathered memory component (p ∷ ps) = numbered-append (entries_from memory p 0 (searched_count memory component p))
    (gathered memory (searched_count memory component) ps) (searched_count memory component p) (searched_total memory component ps)
    (λ k. Some (entry_in memory p k)) (searched_entry memory component ps)
    (numbered_as _ _ (entry_from memory p 0) (λ k. Some (entry_in memory p k))
    (λ k lt. let same : 0 + k ≡ k = omega arith in ap (λ (j : ℕ). Some (entry_in memory p j)) same)
    (numbered-entries_from memory p 0 (searched_count memory component p))) (numbered-gathered memory component ps)

-- the place is named where there are j places of level 0, and the one of level 1 is q
abbrev named_by : ℕ → ℕ → ℕ → Bool
named_by j q p = cond (nat_lt p 3) (nat_lt p j) (p == 3 + q)

gathered_by : (memory : Memory) (j q : ℕ) → j < 4 → q < 2 → gathered memory (λ p. cond (named_by j q p) (memory (Count p)) 0) search_order
    ≡ all_of (map (held_at memory) (level_zero_places j ++ LevelOne q ∷ []))
unfolding gathered
gathered_by memory zero zero lj lq = refl
gathered_by memory zero (suc zero) lj lq = refl
gathered_by memory (suc zero) zero lj lq = refl
gathered_by memory (suc zero) (suc zero) lj lq = refl
gathered_by memory (suc (suc zero)) zero lj lq = refl
gathered_by memory (suc (suc zero)) (suc zero) lj lq = refl
gathered_by memory (suc (suc (suc zero))) zero lj lq = refl
gathered_by memory (suc (suc (suc zero))) (suc zero) lj lq = refl
gathered_by memory j (suc (suc q)) lj lq = absurd (omega arith)
gathered_by memory (suc (suc (suc (suc j)))) q lj lq = absurd (omega arith)

-- in the order of the search these are the runs of the component
gathered_runs : (memory : Memory) (component : ℕ) → gathered memory (searched_count memory component) search_order ≡ all_of (runs_of memory component)
gathered_runs memory component = gathered_by memory (component % 4) (component / 4 % 2) (omega arith) (omega arith)

pub numbered-runs : (memory : Memory) (component : ℕ) → IsNumbered (all_of (runs_of memory component)) (searched_total memory component search_order)
    (searched_entry memory component search_order)
numbered-runs memory component =
    subst (λ (es : List Entry). IsNumbered es (searched_total memory component search_order) (searched_entry memory component search_order))
    (gathered_runs memory component) (numbered-gathered memory component search_order)

-- ---- the times of the epoch

slot-settled : (slots : List (Option Slot)) (t : ℕ) → get_or (settled slots) t Nothing ≡ unwrap_or (outcome_at slots t) Nothing
slot-settled [] t = refl
slot-settled (s ∷ ss) zero = refl
slot-settled (s ∷ ss) (suc t) = slot-settled ss t

has_entry : (t : ℕ) (s : Option Slot) (e : Entry) → Contains (entry_of t (unwrap_or s Nothing)) e → entry_of_slot t s ≡ Some e
has_entry t None e c = absurd (contains_none e c)
has_entry t (Some Nothing) e c = absurd (contains_none e c)
has_entry t (Some (Wrote seat key written)) e c = ⊎_elim (λ (here : record { key = key; time = t; value = written } ≡ e). ap Some here)
    (λ (none : Contains [] e). absurd (contains_none e none)) (contains_cases _ e [] c)

entry_has : (t : ℕ) (s : Option Slot) (e : Entry) → entry_of_slot t s ≡ Some e → Contains (entry_of t (unwrap_or s Nothing)) e
entry_has t None e is = absurd (cc is)
entry_has t (Some Nothing) e is = absurd (cc is)
entry_has t (Some (Wrote seat key written)) e is = let same : record { key = key; time = t; value = written } ≡ e = cc is in
    subst (Contains (record { key = key; time = t; value = written } ∷ [])) same (contains_here _ [])

abbrev epoch_entry : List (Option Slot) → ℕ → ℕ → Option Entry
epoch_entry slots a k = entry_of_slot (a + k) (outcome_at slots (a + k))

-- the writes of n times from a on
numbered-times : (slots : List (Option Slot)) (a n : ℕ) → IsNumbered (entries_of (settled slots) a (a + n)) n (epoch_entry slots a)
numbered-times slots a zero = subst (λ (es : List Entry). IsNumbered es 0 (epoch_entry slots a))
    (sym (entries_none (settled slots) a (a + 0) (omega arith))) (numbered_none (epoch_entry slots a))
numbered-times slots a (suc n) =
    let rest = numbered-times slots a n in
    let last : List Entry = entry_of (a + n) (unwrap_or (outcome_at slots (a + n)) Nothing) in
    let next : a + suc n ≡ suc (a + n) = omega arith in
    let all : entries_of (settled slots) a (a + suc n) ≡ last ++ entries_of (settled slots) a (a + n) = ap (entries_of (settled slots) a) next
    ∙ entries_more (settled slots) a (a + n) (omega arith) ∙ ap (λ (s : Slot). entry_of (a + n) s ++ entries_of (settled slots) a (a + n))
    (slot-settled slots (a + n)) in
    subst (λ (es : List Entry). IsNumbered es (suc n) (epoch_entry slots a)) (sym all) (record {
      number_of = λ e c. ⊎_elim
          (λ (here : Contains last e). (n, omega arith, has_entry (a + n) (outcome_at slots (a + n)) e here))
          (λ (later : Contains (entries_of (settled slots) a (a + n)) e). let found = rest.number_of e later in let lt : found.0 < n = found.1 in
          (found.0, omega arith, found.2))
          (Contains-append_cases last (entries_of (settled slots) a (a + n)) e c);
      contains_at = λ k e lt is. ⊎_elim
          (λ (below : k < n). Contains-append_right last (entries_of (settled slots) a (a + n)) e (rest.contains_at k e below is))
          (λ (above : n ≤ k). let same : k ≡ n = omega arith in Contains-append_left last (entries_of (settled slots) a (a + n)) e
          (entry_has (a + n) (outcome_at slots (a + n)) e (subst (λ (j : ℕ). epoch_entry slots a j ≡ Some e) same is)))
          (cases_lt k n);
    })

-- ---- all sources

numbered-epoch : (z : Layout) (slots : List (Option Slot)) (epoch : ℕ) → IsNumbered (epoch_of z slots epoch) z.cells (epoch_entry slots (epoch * z.cells))
numbered-epoch z slots epoch = let end : epoch * z.cells + z.cells ≡ (epoch + 1) * z.cells = omega arith in
    subst (λ (b : ℕ). IsNumbered (entries_of (settled slots) (epoch * z.cells) b) z.cells (epoch_entry slots (epoch * z.cells))) end
    (numbered-times slots (epoch * z.cells) z.cells)

-- where all runs are merged, their entries stand behind the epoch's
numbered_by_level : (one : Bool) (epoch runs : List Entry) (n k : ℕ) (f g : ℕ → Option Entry) → IsNumbered epoch n f → IsNumbered runs k g
    → IsNumbered (cond one (epoch ++ runs) epoch) (n + cond one k 0) (either_at n f g)
numbered_by_level true epoch runs n k f g first second = numbered-append epoch runs n k f g first second
numbered_by_level false epoch runs n k f g first second = subst (λ (es : List Entry). IsNumbered es (n + 0) (either_at n f g)) (append-nil epoch)
    (numbered-append epoch [] n 0 f g first (numbered_none g))

pub numbered-sources : (z : Layout) (words : List ℕ) (m : MergerView) (slots : List (Option Slot))
    → IsNumbered (sources_of z words m slots) (source_count z words m) (source_at z words m slots)
unfolding sources_of source_count source_at
numbered-sources z words m slots =
    let all = memory z words in
    numbered_by_level (is_to_level_one m.merged) (epoch_of z slots m.merged) (all_of (runs_of all m.merged)) z.cells
    (searched_total all m.merged search_order) (epoch_entry slots (m.merged * z.cells)) (searched_entry all m.merged search_order)
    (numbered-epoch z slots m.merged) (numbered-runs all m.merged)

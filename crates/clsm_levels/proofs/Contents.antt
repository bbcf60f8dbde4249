-- A merge makes a content of a content, and a content stays one.
use Rattle.std.proofs.Common.{◌≡◌, ℕ, ◌<◌, ◌≤◌, zero, suc, true, false, List, [], ◌∷◌, ◌++◌, refl, sym, ap, ◌∙◌, arith, subst, append-nil}
use Rattle.std.specs.List.{AllByRecursion}
use Rattle.clsm_model.specs.History.{History, slot_at, write_of, newest, value, or_else, left_by}
use Rattle.clsm_model.specs.declared.slot.Slot.{Slot}
use Rattle.clsm_levels.specs.declared.entry.Entry.{Entry}
use Rattle.clsm_levels.specs.Entry.{entries_of, TimesFallByKey, IsWriteOf}
use Rattle.clsm_levels.specs.Run.{IsRun, all_of}
use Rattle.clsm_levels.specs.Merge.{merged, kept}
use Rattle.clsm_levels.specs.Content.{IsContent, AgreeBelow}
use Rattle.clsm_levels.proofs.Every.{every-append, every_weaker, every_both}
use Rattle.clsm_levels.proofs.Histories.{entries_from, entries_below, entries_fall, entries_written}
use Rattle.clsm_levels.proofs.Merges.{every-merged}
use Rattle.clsm_levels.proofs.Orders.{times_fall-of_key, times_fall-run, times_fall_by_key-append, run-merged}
use Rattle.clsm_levels.proofs.Keeps.{every-kept, run-kept}
use Rattle.clsm_levels.proofs.Exactness.{exact_level_zero, exact_level_one}

-- the writes between two times, by rising key, are a run
pub run-entries : (slots : List Slot) (a b : ℕ) → IsRun (merged (entries_of slots a b))
run-entries slots a b = run-merged (entries_of slots a b) (times_fall-of_key (entries_of slots a b) (entries_fall slots a b))

-- the entries of an epoch and of the runs before it fall in each key
pub falls_with_epoch : (h : History) (runs : List (List Entry)) (f a b : ℕ) → IsContent h runs f a → TimesFallByKey (all_of (entries_of h.slots a b ∷ runs))
falls_with_epoch h runs f a b c = times_fall_by_key-append a (entries_of h.slots a b) (all_of runs)
    (times_fall-of_key (entries_of h.slots a b) (entries_fall h.slots a b)) c.falls (entries_from h.slots a b) c.older

-- a merge into level 0
pub content_level_zero : (h : History) (runs : List (List Entry)) (f0 f a b : ℕ) → f0 ≤ a → a ≤ b → f0 ≤ f → IsContent h runs f0 a
    → IsContent h (kept f false (merged (entries_of h.slots a b)) ∷ runs) f b
content_level_zero h runs f0 f a b fa ab ff c =
    let epoch = entries_of h.slots a b in
    let run = kept f false (merged epoch) in
    let falls : TimesFallByKey epoch = times_fall-of_key epoch (entries_fall h.slots a b) in
    let order : IsRun run = run-kept f false (merged epoch) (run-entries h.slots a b) in
    let each : (P : Entry → Type 0) → AllByRecursion P epoch → AllByRecursion P run = λ P all. every-kept P f false (merged epoch) (every-merged P epoch all) in
    record {
      exact = exact_level_zero h runs f0 f a b fa ab ff falls c.older c.exact;
      order = (order, c.order);
      falls = times_fall_by_key-append a run (all_of runs) (times_fall-run run order) c.falls (each (λ e. a ≤ e.time) (entries_from h.slots a b)) c.older;
      older = every-append (λ e. e.time < b) run (all_of runs) (each (λ e. e.time < b) (entries_below h.slots a b))
          (every_weaker (λ e. e.time < a) (λ e. e.time < b) (λ e l. omega arith) (all_of runs) c.older);
      writes = every-append (IsWriteOf h) run (all_of runs) (each (IsWriteOf h) (entries_written h a b)) c.writes;
    }

-- a merge of all runs into level 1
pub content_level_one : (h : History) (runs : List (List Entry)) (f0 f a b : ℕ) → f0 ≤ a → a ≤ b → f0 ≤ f → IsContent h runs f0 a
    → IsContent h (kept f true (merged (all_of (entries_of h.slots a b ∷ runs))) ∷ []) f b
content_level_one h runs f0 f a b fa ab ff c =
    let epoch = entries_of h.slots a b in
    let all : List Entry = all_of (epoch ∷ runs) in
    let run = kept f true (merged all) in
    let falls : TimesFallByKey all = falls_with_epoch h runs f0 a b c in
    let order : IsRun run = run-kept f true (merged all) (run-merged all falls) in
    let each : (P : Entry → Type 0) → AllByRecursion P epoch → AllByRecursion P (all_of runs) → AllByRecursion P (run ++ []) =
    λ P new old. subst (AllByRecursion P) (sym (append-nil run)) (every-kept P f true (merged all)
    (every-merged P all (every-append P epoch (all_of runs) new old))) in
    record {
      exact = exact_level_one h runs f0 f a b fa ab ff falls c.older c.exact;
      order = (order, tt);
      falls = subst TimesFallByKey (sym (append-nil run)) (times_fall-run run order);
      older = each (λ e. e.time < b) (entries_below h.slots a b) (every_weaker (λ e. e.time < a) (λ e. e.time < b) (λ e l. omega arith) (all_of runs) c.older);
      writes = each (IsWriteOf h) (entries_written h a b) c.writes;
    }

-- ---- a content stays one

newest_agree : (h h' : History) (k a s : ℕ) → AgreeBelow a h h' → s ≤ a → newest h' k s ≡ newest h k s
newest_agree h h' k a zero agree le = refl
newest_agree h h' k a (suc t) agree le = ap (λ (slot : Slot). or_else (write_of k t slot) (newest h' k t)) (agree t (omega arith))
    ∙ ap (or_else (write_of k t (slot_at h t))) (newest_agree h h' k a t agree (omega arith))

-- histories with the same slots below a have the same values up to a
pub value_agree : (h h' : History) (k a s : ℕ) → AgreeBelow a h h' → s ≤ a → value h' k s ≡ value h k s
value_agree h h' k a s agree le = ap left_by (newest_agree h h' k a s agree le)

-- what is a content of one is one of the other
pub content_agree : (h h' : History) (runs : List (List Entry)) (f a : ℕ) → AgreeBelow a h h' → IsContent h runs f a → IsContent h' runs f a
content_agree h h' runs f a agree c = record {
  exact = λ k s fs sa. c.exact k s fs sa ∙ sym (value_agree h h' k a s agree sa);
  order = c.order;
  falls = c.falls;
  older = c.older;
  writes = every_weaker (λ e. (e.time < a) × IsWriteOf h e) (IsWriteOf h') (λ e both. let was = both.1 in (was.0, agree e.time both.0 ∙ was.1))
      (all_of runs) (every_both (λ e. e.time < a) (IsWriteOf h) (all_of runs) c.older c.writes);
}

-- a content is one from each greater floor
pub content_floor : (h : History) (runs : List (List Entry)) (f g a : ℕ) → f ≤ g → IsContent h runs f a → IsContent h runs g a
content_floor h runs f g a le c = record {
  exact = λ k s gs sa. c.exact k s (omega arith) sa;
  order = c.order;
  falls = c.falls;
  older = c.older;
  writes = c.writes;
}

-- before the first write an empty run is the content of each history
pub content_start : (h : History) → IsContent h ([] ∷ []) 0 0
content_start h = record {
  exact = λ k s low high. let none : s ≡ 0 = omega arith in rw none refl;
  order = (tt, tt);
  falls = λ k. tt;
  older = tt;
  writes = tt;
}

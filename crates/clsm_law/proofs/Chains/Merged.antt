-- How a step of the merger keeps the clauses of the chains.
use Rattle.std.proofs.Common.{◌≡◌, ◌≢◌, ℕ, ◌+◌, ◌-◌, ◌*◌, ◌<◌, ◌≤◌, ◌==◌, Bool, true, false, cond, List, [], length, sym, refl, ap, ◌∙◌, subst, arith, inl}
use Rattle.std.proofs.Common.{inr, Option, Some}
use borrow.Author.Tests.{eqb-true}
use Rattle.std.proofs.lemmas.Bool.{cases_lt}
use Rattle.std.proofs.lemmas.Nat.{mod_below}
use Rattle.clsm_law.specs.declared.view.View.{View}
use Rattle.clsm_model.specs.declared.slot.Slot.TheVariants.{Wrote}
use Rattle.clsm_law.specs.declared.word.Word.TheVariants.{Limit, Pin, Head, Cell, Count, Entry}
use Rattle.clsm_law.specs.declared.word.Part.TheVariants.{Key}
use Rattle.clsm_law.specs.declared.step.Step.{Step}
use Rattle.clsm_law.specs.declared.step.Step.TheVariants.{LeaveExclusive, Look, WriteRun, ClearHead, ClearState, Publish, ExtendClock}
use Rattle.clsm_law.specs.declared.merger.Phase.{Phase}
use Rattle.clsm_law.specs.declared.merger.Phase.TheVariants.{Clean, Frozen, Retired}
use Rattle.clsm_law.specs.Memory.{Memory, cell_of, region_of}
use Rattle.clsm_law.specs.Merging.{is_clean, is_frozen, is_retired, is_all_quiet, retired_region, epoch_end}
use Rattle.clsm_law.specs.Worlds.{outcome_at}
use Rattle.clsm_law.specs.Law.{each, In, Distinct, IsChain, AreChained, AreIn, AreOnce, AreStanding, AreLinked, AreLoose}
use Rattle.clsm_law.specs.Law.{first_live, first_shown}
use Rattle.clsm_law.proofs.Cases.{by_bool}
use Rattle.clsm_law.proofs.Frames.{keep1, slot_below}
use Rattle.clsm_law.proofs.Clock.Times.{region_of_epoch, region_below}
use Rattle.clsm_law.proofs.Setting.{Ground, facts, memory', merger', slots', chains', OpensTo, merger_looked_same, drawn_shown}
use Rattle.clsm_law.proofs.GrowthMerger.{longer', length_passed, passed_before, passed_behind}
use Rattle.clsm_law.proofs.Passes.{passes_at}
use Rattle.clsm_law.proofs.Windows.{shown_rises}
use Rattle.clsm_law.proofs.Chains.Facts.{by_line, chain_same, none_behind_zero, in_emptied, stays_emptied, in_as}
use Rattle.clsm_law.proofs.Phases.{retired_frozen, retired_clean}

-- ---- the epochs of a world whose merger cleans
module _ (g : Ground) (retired : is_retired g.merger.phase ≡ true) where
  -- no freeze is half done, so the limit ends the epoch
  pub limit_retired : g.memory Limit ≡ epoch_end g.z g.merger
  limit_retired = by_bool (λ b. g.merger.limit_extended ≡ b → g.memory Limit ≡ epoch_end g.z g.merger) g.merger.limit_extended
      (λ _ e. let clean = g.law.merger.clean (g.law.merger.extends (g.law.merger.limit_after e)) in absurd (let f = retired_clean g.merger.phase retired in cc))
      (λ _ e. g.law.limit ∙ rw (retired_frozen g.merger.phase retired, e) refl) refl

  -- a drawn time of the current epoch lies in the other region
  pub current_region : (t : ℕ) → g.merger.merged * g.z.cells ≤ t → t < length g.slots → region_of g.z (cell_of g.z t) ≢ retired_region g.merger
  current_region t from until e = let a = limit_retired in let b = g.law.bounded in let r = region_of_epoch g.z g.merger.merged t from (omega arith) in
      omega arith

  -- a live time of the epoch before lies in the retired one
  pub former_region : (t : ℕ) → first_live g.z g.merger ≤ t → t < g.merger.merged * g.z.cells → region_of g.z (cell_of g.z t) ≡ retired_region g.merger
  former_region t from until =
      let some = g.law.merger.some_merged retired in
      let first : first_live g.z g.merger ≡ (g.merger.merged - 1) * g.z.cells = rw retired refl in
      let before : g.merger.merged - 1 + 1 ≡ g.merger.merged = omega arith in
      let turn : (g.merger.merged - 1 + 1) * g.z.cells ≡ g.merger.merged * g.z.cells = ap (λ (k : ℕ). k * g.z.cells) before in
      let r = region_of_epoch g.z (g.merger.merged - 1) t (omega arith) (omega arith) in omega arith

  -- once all are quiet only the current epoch is shown
  pub quiet_shown : is_all_quiet g.merger.readers ≡ true → first_shown g.z g.merger ≡ g.merger.merged * g.z.cells
  quiet_shown quiet = rw (retired, quiet) refl

-- ---- the words lead along the chains
pub chained_merged : (g : Ground) (step : Step) → OpensTo g step → AreChained g.z (memory' g step) (chains' g step)
chained_merged g (Look c) o = keep1 (λ (m : Memory). AreChained g.z m g.chains) (merger_looked_same g c) g.law.chained
chained_merged g (WriteRun (Count p) y) o = λ r k a b. chain_same g.z g.memory (memory' g (WriteRun (Count p) y)) (g.memory (Head r k)) (g.chains r k)
    (λ t i. refl) (g.law.chained r k a b)
chained_merged g (WriteRun (Entry p e i) y) o = λ r k a b. chain_same g.z g.memory (memory' g (WriteRun (Entry p e i) y)) (g.memory (Head r k))
    (g.chains r k) (λ t i. refl) (g.law.chained r k a b)
chained_merged g (WriteRun word y) o = absurd o.1
chained_merged g (ClearHead region chain) o =
    λ r k a b. by_line (λ t. IsChain g.z (memory' g (ClearHead region chain)) (cond t 0 (g.memory (Head r k))) (cond t [] (g.chains r k))) r k region chain
    (λ _ _. refl) (λ _. chain_same g.z g.memory (memory' g (ClearHead region chain)) (g.memory (Head r k)) (g.chains r k) (λ t i. refl) (g.law.chained r k a b))
chained_merged g step o = λ r k a b. chain_same g.z g.memory (memory' g step) (g.memory (Head r k)) (g.chains r k) (λ t i. refl) (g.law.chained r k a b)

-- ---- a chain holds drawn times of its region and its chain
-- where the heads of the retired region are 0 no time of the epoch before stands in a chain
headless_from : (g : Ground) (cell : ℕ) → OpensTo g (ClearState cell) → (r k t : ℕ) → In t (g.chains r k) → g.merger.merged * g.z.cells ≤ t
headless_from g cell o r k t i =
    let l = g.law.lies r k t i in
    elim (cases_lt t (g.merger.merged * g.z.cells)) [
      | inl lt ↦
          let there : r ≡ retired_region g.merger = sym l.region ∙ former_region g o.0 t l.live lt in
          let inside : k < g.z.chains = let a = mod_below (g.memory (Cell (cell_of g.z t) Key)) g.z.chains (let s = g.sound.2.0 in omega arith) in let b =
          l.chain in omega arith in
          let empty : g.memory (Head r k) ≡ 0 = eqb-true (g.memory (Head r k)) 0
          (subst (λ (q : ℕ). (g.memory (Head q k) == 0) ≡ true) (sym there)
          (passes_at (λ chain. g.memory (Head (retired_region g.merger) chain) == 0) 0 g.z.chains k o.4 (omega arith) (omega arith))) in
          absurd (none_behind_zero g.z g.memory (g.memory (Head r k)) t (g.chains r k)
          (g.law.chained r k (let a = region_below g.z (cell_of g.z t) in let b = l.region in omega arith) inside) empty i)
      | inr le ↦ le
    ]

-- at a clean or frozen phase the current epoch is the first that lives
pub clean_live : (n merged : ℕ) (p : Phase) (b : Bool) → is_clean p ≡ true → cond (is_retired (cond b Frozen p)) ((merged - 1) * n) (merged * n)
    ≡ cond (is_retired p) ((merged - 1) * n) (merged * n)
clean_live n merged Clean true e = refl
clean_live n merged Clean false e = refl
clean_live n merged Frozen b e = absurd cc
clean_live n merged Retired b e = absurd cc

pub frozen_live : (n merged : ℕ) (p : Phase) → is_frozen p ≡ true → (merged + 1 - 1) * n ≡ cond (is_retired p) ((merged - 1) * n) (merged * n)
frozen_live n merged Clean e = absurd cc
frozen_live n merged Frozen e = let f : merged + 1 - 1 ≡ merged = omega arith in ap (λ (k : ℕ). k * n) f
frozen_live n merged Retired e = absurd cc

-- no time in a chain falls out of the window
pub in_window : (g : Ground) (step : Step) → OpensTo g step → (r k t : ℕ) → In t (g.chains r k) → first_live g.z (merger' g step) ≤ t
in_window g LeaveExclusive o = λ r k t i. let a = clean_live g.z.cells g.merger.merged g.merger.phase g.merger.limit_extended (g.law.merger.clean o.0) in
    let l = (g.law.lies r k t i).live in omega arith
in_window g (Look (Pin p)) o = λ r k t i. (g.law.lies r k t i).live
in_window g (Look word) o = λ r k t i. (g.law.lies r k t i).live
in_window g (ClearState cell) o = λ r k t i. elim ((facts g).last cell) as
    (λ b. first_live g.z (record g.merger { phase = cond b Clean g.merger.phase }) ≤ t) [
      | true ↦ headless_from g cell o r k t i
      | false ↦ (g.law.lies r k t i).live
    ]
in_window g Publish o = λ r k t i. let a = frozen_live g.z.cells g.merger.merged g.merger.phase o.0 in let l = (g.law.lies r k t i).live in omega arith
in_window g step o = λ r k t i. (g.law.lies r k t i).live

lies_as : (g : Ground) (step : Step) → OpensTo g step → ((c : ℕ) → memory' g step (Cell c Key) ≡ g.memory (Cell c Key))
    → AreIn g.z (memory' g step) (first_live g.z (merger' g step)) (length (slots' g step)) g.chains
lies_as g step o same r k t i = in_as g.z g.memory (memory' g step) _ _ _ _ r k t (g.law.lies r k t i) (in_window g step o r k t i) (longer' g step)
    (same (cell_of g.z t))

pub lies_merged : (g : Ground) (step : Step) → OpensTo g step → AreIn g.z (memory' g step) (first_live g.z (merger' g step)) (length (slots' g step))
    (chains' g step)
lies_merged g (Look c) o = lies_as g (Look c) o (λ k j. merger_looked_same g c j (Cell k Key))
lies_merged g (WriteRun (Count p) y) o = lies_as g (WriteRun (Count p) y) o (λ c. refl)
lies_merged g (WriteRun (Entry p e i) y) o = lies_as g (WriteRun (Entry p e i) y) o (λ c. refl)
lies_merged g (WriteRun word y) o = absurd o.1
lies_merged g (ClearHead region chain) o = λ r k t i. lies_as g (ClearHead region chain) o (λ c. refl) r k t (in_emptied g.chains region chain r k t i)
lies_merged g step o = lies_as g step o (λ c. refl)

-- ---- each time once
pub once_merged : (g : Ground) (step : Step) → OpensTo g step → AreOnce (chains' g step)
once_merged g (ClearHead region chain) o = λ r k. by_line (λ b. Distinct (cond b [] (g.chains r k))) r k region chain (λ _ _. tt) (λ _. g.law.once r k)
once_merged g step o = g.law.once

-- ---- a write stands in the chain of its key
-- a time that the moved clock skipped is no write
pub passes_over_none : (g : Ground) → OpensTo g ExtendClock → (t i key : ℕ) (written : Option (List ℕ)) → outcome_at (slots' g ExtendClock) t
    ≡ Some (Wrote i key written) → outcome_at g.slots t ≡ Some (Wrote i key written)
passes_over_none g o t i key written e = elim (cases_lt t (length g.slots)) [
  | inl lt ↦ sym (passed_before g.slots (epoch_end g.z g.merger) t lt) ∙ e
  | inr le ↦ let below = slot_below (slots' g ExtendClock) t (λ none. absurd (cc (none, e))) in let l = length_passed g o in let is =
      passed_behind g.slots (epoch_end g.z g.merger) t le (omega arith) in absurd (cc (is, e))
]

pub standing_merged : (g : Ground) (step : Step) → OpensTo g step → AreStanding g.z (first_shown g.z (merger' g step)) (outcome_at (slots' g step))
    (chains' g step)
standing_merged g ExtendClock o = λ t i key written le e. g.law.standing t i key written (let a = shown_rises g ExtendClock o in omega arith)
    (passes_over_none g o t i key written e)
standing_merged g (ClearHead region chain) o = λ t i key written le e. let first = quiet_shown g o.0 o.1 in
    stays_emptied g.chains region chain _ _ t (λ same. current_region g o.0 t (omega arith) (slot_below g.slots t (λ none. absurd (cc (none, e))))
    (same ∙ o.2)) (g.law.standing t i key written le e)
standing_merged g step o = λ t i key written le e. g.law.standing t i key written (let a = shown_rises g step o in omega arith) e

-- ---- a drawn time stands in a chain, its own, just where it is linked
pub linked_merged : (g : Ground) (step : Step) → OpensTo g step → AreLinked g.z (each g.z View.drawn g.views) (each g.z View.key g.views)
    (each g.z View.linked g.views) (chains' g step)
linked_merged g (ClearHead region chain) o = λ i t d l. let n = g.law.linked i t d l in let p = drawn_shown g i t d in
    (n.0, n.1, stays_emptied g.chains region chain _ _ t (λ same. current_region g o.0 t p.0 p.1 (same ∙ o.2)) n.2)
linked_merged g step o = g.law.linked

pub loose_merged : (g : Ground) (step : Step) → OpensTo g step → AreLoose (each g.z View.drawn g.views) (each g.z View.linked g.views) (chains' g step)
loose_merged g (ClearHead region chain) o = λ i t d l r k m. g.law.loose i t d l r k (in_emptied g.chains region chain r k t m)
loose_merged g step o = g.law.loose

-- What the merger draws from the words that it knows is so in the world.
use Rattle.std.proofs.Common.{◌≡◌, ℕ, zero, suc, ◌+◌, ◌-◌, ◌*◌, ◌<◌, ◌≤◌, ◌==◌, ◌||◌, ◌++◌, Bool, true, false, cond, nat_le, List, [], ◌∷◌, map, length}
use Rattle.std.proofs.Common.{get_or, refl, sym, ap, ◌∙◌, subst, arith, inl, inr, Some}
use Rattle.std.proofs.lemmas.Bool.{cases_eq, lt-ltb, le-ltb}
use Rattle.clsm_model.specs.declared.slot.Slot.{Slot}
use Rattle.clsm_model.specs.declared.slot.Slot.TheVariants.{Nothing}
use Rattle.clsm_levels.specs.declared.place.Place.{Place}
use Rattle.clsm_levels.specs.Entry.{entry_of, entries_of}
use Rattle.clsm_levels.specs.Merge.{wanted}
use Rattle.clsm_levels.specs.Place.{places, runs_at}
use Rattle.clsm_law.specs.declared.layout.Layout.{Layout}
use Rattle.clsm_law.specs.declared.word.Word.{Word}
use Rattle.clsm_law.specs.declared.word.Word.TheVariants.{Clock, Head, Order, State, Count, Entry as EntryWord}
use Rattle.clsm_law.specs.declared.step.Step.{Step}
use Rattle.clsm_law.specs.declared.step.Step.TheVariants.{Pad, ClearState, Publish, ExtendClock}
use Rattle.clsm_law.specs.declared.merger.Phase.TheVariants.{Clean}
use Rattle.clsm_law.specs.Memory.{Memory, cell_of, region_of}
use Rattle.clsm_law.specs.Places.{number_of}
use Rattle.clsm_law.specs.Merging.{Facts, is_frozen, epoch_end, retired_region, target_of, IsOpenToMerger, merger_after}
use Rattle.clsm_law.specs.Worlds.{settled, passes_from, is_padded, is_headless, is_orderless, is_last, runs_of, epoch_of, facts_of}
use Rattle.clsm_law.proofs.Setting.{Ground, facts, OpensTo}
use Rattle.clsm_law.proofs.Runs.Kept.{SamePlace, place_same, canonical_same}
use Rattle.clsm_law.proofs.Phases.{frozen_not_clean}
use Rattle.clsm_words.specs.Merging.{IsLetGo, IsOwn, known_end}
use Rattle.clsm_words.specs.Ruled.{Begins}
use Rattle.clsm_words.proofs.Beginnings.{begins_settled}

-- a test that is the same on a range
passes_within : (test test' : ℕ → Bool) (a n : ℕ) → ((k : ℕ) → a ≤ k → k < a + n → test' k ≡ test k) → passes_from test' a n ≡ passes_from test a n
passes_within test test' a zero h = refl
passes_within test test' a (suc n) h = let here = h a (omega arith) (omega arith) in let rest =
    passes_within test test' (a + 1) n (λ k low high. h k (omega arith) (omega arith)) in cc (here, rest)

-- a cell behind the start of a region, and no epoch behind it, is one of the region
in_region : (z : Layout) (r c : ℕ) → r < 2 → r * z.cells ≤ c → c < r * z.cells + z.cells → region_of z c ≡ r
in_region z r c two low high = elim (cases_eq r 0) [
  | inl none ↦ let start : r * z.cells ≡ 0 * z.cells = ap (λ (n : ℕ). n * z.cells) none in ap (λ b. cond b 0 1) (lt-ltb c z.cells (omega arith)) ∙ sym none
  | inr some ↦ let one : r ≡ 1 = omega arith in let start : r * z.cells ≡ 1 * z.cells = ap (λ (n : ℕ). n * z.cells) one in
      ap (λ b. cond b 0 1) (le-ltb c z.cells (omega arith)) ∙ sym one
]

-- decided slots read as what they are
pub settled_known : (past : List Slot) → settled (map (λ slot. Some slot) past) ≡ past
settled_known [] = refl
settled_known (slot ∷ past) = ap (λ (rest : List Slot). slot ∷ rest) (settled_known past)

-- the writes of a range hang on what stands there
pub entries_below : (xs ys : List Slot) (a b : ℕ) → ((t : ℕ) → t < b → get_or xs t Nothing ≡ get_or ys t Nothing) → entries_of xs a b ≡ entries_of ys a b
entries_below xs ys a zero h = refl
entries_below xs ys a (suc b) h = let here = h b (omega arith) in let rest = entries_below xs ys a b (λ t lt. h t (omega arith)) in
    λ i. cond (nat_le a b) (entry_of b (here i) ++ rest i) []

module _ (g : Ground) (row : Memory) (past : List Slot) (agree : (word : Word) → IsOwn g.z g.merger word → row word ≡ g.memory word)
    (b : Begins g.slots past) (reaches : known_end g.z g.merger (length g.slots) ≤ length past) where
  abbrev known : Facts
  known = facts_of g.z row g.merger (map (λ slot. Some slot) past)

  pub same_places : (p : ℕ) → SamePlace g.memory row p
  same_places p = record { count = agree (Count p) tt; words = λ e i. agree (EntryWord p e i) tt }

  padded_known : g.merger.exclusive ≡ true → is_padded g.z row g.merger ≡ is_padded g.z g.memory g.merger
  padded_known e =
      (λ i. passes_from (λ t. row (State (cell_of g.z t)) == 1) (agree Clock e i) (epoch_end g.z g.merger - agree Clock e i))
      ∙ passes_within (λ t. g.memory (State (cell_of g.z t)) == 1) (λ t. row (State (cell_of g.z t)) == 1) (g.memory Clock)
      (epoch_end g.z g.merger - g.memory Clock)
      (λ t low high. ap (λ (n : ℕ). n == 1) (agree (State (cell_of g.z t)) (inl e)))

  headless_known : IsLetGo g.merger → is_headless g.z row g.merger ≡ is_headless g.z g.memory g.merger
  headless_known gone = passes_within (λ chain. g.memory (Head (retired_region g.merger) chain) == 0)
      (λ chain. row (Head (retired_region g.merger) chain) == 0) 0 g.z.chains
      (λ chain low high. ap (λ (n : ℕ). n == 0) (agree (Head (retired_region g.merger) chain) (gone, refl)))

  orderless_known : IsLetGo g.merger → is_orderless row g.merger ≡ is_orderless g.memory g.merger
  orderless_known gone = ap (λ (n : ℕ). n == 0) (agree (Order (retired_region g.merger)) (gone, refl))

  last_known : IsLetGo g.merger → (cell : ℕ) → is_last g.z row g.merger cell ≡ is_last g.z g.memory g.merger cell
  last_known gone cell = passes_within (λ other. other == cell || g.memory (State other) == 0) (λ other. other == cell || row (State other) == 0)
      (retired_region g.merger * g.z.cells) g.z.cells
      (λ other low high. ap (λ (n : ℕ). other == cell || n == 0) (agree (State other)
      (inr (gone, in_region g.z (retired_region g.merger) other (omega arith) low high))))

  runs_known : (component : ℕ) → runs_of row component ≡ runs_of g.memory component
  runs_known component i = runs_at (λ (place : Place). place_same g.memory row (number_of place) (same_places (number_of place)) i) (places component)

  -- the writes of the frozen epoch are known
  epoch_known : is_frozen g.merger.phase ≡ true → g.merger.exclusive ≡ false → epoch_of g.z (map (λ slot. Some slot) past) g.merger.merged
      ≡ epoch_of g.z g.slots g.merger.merged
  epoch_known frozen free =
      let end : epoch_end g.z g.merger ≤ length past = subst (λ (n : ℕ). n ≤ length past) (rw (free, frozen) refl) reaches in
      ap (λ (xs : List Slot). entries_of xs (g.merger.merged * g.z.cells) (epoch_end g.z g.merger)) (settled_known past)
      ∙ entries_below past (settled g.slots) (g.merger.merged * g.z.cells) (epoch_end g.z g.merger) (λ t lt. begins_settled g.slots past b t (omega arith))

  wanted_known : is_frozen g.merger.phase ≡ true → g.merger.exclusive ≡ false → known.wanted ≡ (facts g).wanted
  wanted_known frozen free i = wanted g.merger.merged g.merger.floor (epoch_known frozen free i) (runs_known g.merger.merged i)

  -- while an epoch is frozen the merger does not hold the lock
  pub free_if_frozen : is_frozen g.merger.phase ≡ true → g.merger.exclusive ≡ false
  free_if_frozen frozen = not_held g.merger.exclusive refl where
    not_held : (held : Bool) → g.merger.exclusive ≡ held → held ≡ false
    not_held true e = absurd (frozen_not_clean g.merger.phase frozen (g.law.merger.clean e))
    not_held false e = refl

  -- what is open by the facts that it knows is open
  pub open_known : (step : Step) → IsOpenToMerger g.z known g.merger step → OpensTo g step
  open_known (Pad t) o = let clock = agree Clock o.0 in let from = o.1 in (o.0, omega arith, o.2)
  open_known (ClearState cell) o = (o.0, o.1, o.2, o.3, sym (headless_known (o.0, o.1)) ∙ o.4, sym (orderless_known (o.0, o.1)) ∙ o.5)
  open_known Publish o = let count = (same_places (target_of g.merger)).count in let room = o.1 in (
    o.0,
    omega arith,
    sym (place_same g.memory row (target_of g.merger) (same_places (target_of g.merger))) ∙ o.2
        ∙ wanted_known o.0 (free_if_frozen o.0),
    sym (canonical_same g.memory row (target_of g.merger) (same_places (target_of g.merger))) ∙ o.3,
  )
  open_known ExtendClock o = (o.0, sym (padded_known o.0) ∙ o.1, o.2)
  open_known step o = o

  -- and the view after it is the one by these facts
  pub after_known : (step : Step) (x : ℕ) → IsOpenToMerger g.z known g.merger step → merger_after g.z known g.merger step x
      ≡ merger_after g.z (facts g) g.merger step x
  after_known (ClearState cell) x o = ap (λ b. record g.merger { phase = cond b Clean g.merger.phase }) (last_known (o.0, o.1) cell)
  after_known step x o = refl

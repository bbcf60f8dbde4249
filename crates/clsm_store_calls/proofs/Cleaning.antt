-- The steps by which the retired region is cleaned.
use Rattle.std.proofs.Common.{◌≡◌, ◌≢◌, ℕ, ◌+◌, ◌*◌, ◌<◌, ◌≤◌, ◌==◌, ◌||◌, true, false, cond, refl, ap, sym, ◌∙◌, subst, arith, inl, inr, eq-eqb, ne_eqb}
use mathlib.Core.Logic.{dite}
use native.Mathlib.Decide.{ℕ_discrete}
use borrow.Author.Tests.{eqb-true}
use Rattle.std.proofs.lemmas.Bool.{cases_lt, cases_Bool, lt-ltb, le-ltb}
use Rattle.std.proofs.lemmas.Nat.{mod_below}
use Rattle.clsm_law.specs.declared.layout.Layout.{Layout}
use Rattle.clsm_law.specs.declared.merger.MergerView.{MergerView}
use Rattle.clsm_law.specs.declared.merger.Phase.TheVariants.{Clean}
use Rattle.clsm_law.specs.declared.word.Word.TheVariants.{Head, Order, State}
use Rattle.clsm_law.specs.declared.step.Step.{Step}
use Rattle.clsm_law.specs.declared.step.Step.TheVariants.{ClearState, Look}
use Rattle.clsm_law.specs.Memory.{is_same, region_of}
use Rattle.clsm_law.specs.Merging.{retired_region, word_of_merger, changed_by_merger}
use Rattle.clsm_law.specs.Worlds.{is_last}
use Rattle.clsm_law.proofs.Passes.{passes_at, passes_if}
use Rattle.clsm_words.specs.declared.known.Known.{Known}
use Rattle.clsm_words.specs.Knowing.{row_of}
use Rattle.clsm_words.specs.Merging.{FollowsMerger, IsLetGo, facts_known}
use Rattle.clsm_store_calls.specs.Reclaiming.{IsCleaning}
use Rattle.clsm_store_calls.proofs.Quiet.{headless_if, orderless_if}

-- ---- the cells of the region

region_is : (z : Layout) (r c : ℕ) → r < 2 → r * z.cells ≤ c → c < r * z.cells + z.cells → region_of z c ≡ r
region_is z r c two from until = elim (cases_lt c z.cells) [
  | inl lt ↦ dite (ℕ_discrete r 0) (λ (zero : r ≡ 0). ap (λ b. cond b 0 1) (lt-ltb c z.cells lt) ∙ sym zero)
      (λ ne. absurd (let one : r ≡ 1 = omega arith in let e : r * z.cells ≡ z.cells = ap (λ (n : ℕ). n * z.cells) one ∙ omega arith in omega arith))
  | inr ge ↦ dite (ℕ_discrete r 0) (λ (zero : r ≡ 0). absurd (let e : r * z.cells ≡ 0 = ap (λ (n : ℕ). n * z.cells) zero ∙ omega arith in omega arith))
      (λ ne. ap (λ b. cond b 0 1) (le-ltb c z.cells ge) ∙ omega arith)
]

module _ (k : Known) (first end : ℕ) (is : IsCleaning k first end) where
  pub in_region : (c : ℕ) → first ≤ c → c < end → region_of k.layout c ≡ retired_region k.merger
  in_region c from until = let two = mod_below (k.merger.merged + 1) 2 (omega arith) in let b = is.begins in let e = is.ends in
      region_is k.layout (retired_region k.merger) c two (omega arith) (omega arith)

  -- ---- a step that leaves the merger's view, on a state of the region

  module _ (k' : Known) (step : Step) (x cell : ℕ) (follows : FollowsMerger step k x k') (on : word_of_merger k.layout k.merger step ≡ State cell) where
    abbrev y : ℕ
    y = changed_by_merger k.layout k.merger step x

    heads_stay : (s : ℕ) → row_of k' (Head (retired_region k.merger) s) ≡ row_of k (Head (retired_region k.merger) s)
    heads_stay s = follows.stays (Head (retired_region k.merger) s) (is.letgo, refl)
        ∙ ap (λ w. cond (is_same (Head (retired_region k.merger) s) w) y (row_of k (Head (retired_region k.merger) s))) on

    order_stays : row_of k' (Order (retired_region k.merger)) ≡ row_of k (Order (retired_region k.merger))
    order_stays = follows.stays (Order (retired_region k.merger)) (is.letgo, refl)
        ∙ ap (λ w. cond (is_same (Order (retired_region k.merger)) w) y (row_of k (Order (retired_region k.merger)))) on

    states_stay : (c : ℕ) → first ≤ c → c < end → row_of k' (State c) ≡ cond (c == cell) y (row_of k (State c))
    states_stay c from until = follows.stays (State c) (inr (is.letgo, in_region c from until)) ∙ ap (λ w. cond (is_same (State c) w) y (row_of k (State c))) on

    pub still_cleaning : k'.merger ≡ k.merger → IsCleaning k' first end
    still_cleaning same = record {
      letgo = subst IsLetGo (sym same) is.letgo;
      headless = headless_if k' (retired_region k.merger) (ap retired_region (sym same))
          (λ s lt. heads_stay s ∙ zero_head s (let e = ap (λ (z : Layout). z.chains) follows.layout in omega arith));
      orderless = orderless_if k' (retired_region k.merger) (ap retired_region (sym same)) (order_stays ∙ eqb-true _ 0 is.orderless);
      begins = is.begins ∙ ap (λ (m : MergerView). retired_region m * k.layout.cells) (sym same)
          ∙ ap (λ (z : Layout). retired_region k'.merger * z.cells) (sym follows.layout);
      ends = is.ends ∙ ap (λ (z : Layout). first + z.cells) (sym follows.layout);
    }
      where
        zero_head : (s : ℕ) → s < k.layout.chains → row_of k (Head (retired_region k.merger) s) ≡ 0
        zero_head s lt = eqb-true _ 0 (passes_at (λ chain. row_of k (Head (retired_region k.merger) chain) == 0) 0 k.layout.chains s is.headless
            (omega arith) (omega arith))

  -- ---- a look at a state

  module _ (k' : Known) (x cell : ℕ) (from : first ≤ cell) (until : cell < end) (follows : FollowsMerger (Look (State cell)) k x k') where
    pub looked_found : x ≡ row_of k (State cell)
    looked_found = follows.found (inr (is.letgo, in_region cell from until))

    pub looked_states : (c : ℕ) → first ≤ c → c < end → row_of k' (State c) ≡ row_of k (State c)
    looked_states c low high = states_stay k' (Look (State cell)) x cell follows refl c low high ∙ dite (ℕ_discrete c cell)
        (λ (e : c ≡ cell). ap (λ b. cond b x (row_of k (State c))) (eq-eqb c cell e) ∙ looked_found ∙ ap (λ (n : ℕ). row_of k (State n)) (sym e))
        (λ ne. ap (λ b. cond b x (row_of k (State c))) (ne_eqb c cell ne))

    pub looked_cleaning : IsCleaning k' first end
    looked_cleaning = still_cleaning k' (Look (State cell)) x cell follows refl follows.view

  -- ---- a state that is cleared

  -- another cell that is not empty keeps the region from being clean
  pub not_last : (cell last : ℕ) → first ≤ last → last < end → last ≢ cell → row_of k (State last) ≢ 0 → (facts_known k).last cell ≡ false
  not_last cell last from until other full = elim (cases_Bool (is_last k.layout (row_of k) k.merger cell)) [
    | inl all ↦ absurd (full (eqb-true _ 0 (ap (λ b. b || row_of k (State last) == 0) (sym (ne_eqb last cell other))
        ∙ passes_at (λ c. c == cell || row_of k (State c) == 0) (retired_region k.merger * k.layout.cells) k.layout.cells last all
        (let b = is.begins in omega arith) (let b = is.begins in let e = is.ends in omega arith))))
    | inr some ↦ some
  ]

  -- where all others are empty the region is clean with it
  pub is_the_last : (cell : ℕ) → ((c : ℕ) → first ≤ c → c < end → c ≢ cell → row_of k (State c) ≡ 0) → (facts_known k).last cell ≡ true
  is_the_last cell others = passes_if (λ c. c == cell || row_of k (State c) == 0) (retired_region k.merger * k.layout.cells) k.layout.cells
      (λ c from until. dite (ℕ_discrete c cell)
      (λ (e : c ≡ cell). ap (λ b. b || row_of k (State c) == 0) (eq-eqb c cell e))
      (λ ne. ap (λ b. b || row_of k (State c) == 0) (ne_eqb c cell ne)
      ∙ eq-eqb _ 0 (others c (let b = is.begins in omega arith) (let b = is.begins in let e = is.ends in omega arith) ne)))

  module _ (k' : Known) (x cell : ℕ) (follows : FollowsMerger (ClearState cell) k x k') where
    pub cleared_states : (c : ℕ) → first ≤ c → c < end → c ≢ cell → row_of k' (State c) ≡ row_of k (State c)
    cleared_states c low high ne = states_stay k' (ClearState cell) x cell follows refl c low high ∙ ap (λ b. cond b 0 (row_of k (State c))) (ne_eqb c cell ne)

    pub cleared_here : row_of k' (State cell) ≡ 0
    cleared_here = follows.made

    pub cleared_view : (facts_known k).last cell ≡ false → k'.merger ≡ k.merger
    cleared_view e = follows.view ∙ ap (λ b. record k.merger { phase = cond b Clean k.merger.phase }) e

    pub cleared_cleaning : (facts_known k).last cell ≡ false → IsCleaning k' first end
    cleared_cleaning e = still_cleaning k' (ClearState cell) x cell follows refl (cleared_view e)

    pub cleared_last : (facts_known k).last cell ≡ true → k'.merger ≡ record k.merger { phase = Clean }
    cleared_last e = follows.view ∙ ap (λ b. record k.merger { phase = cond b Clean k.merger.phase }) e

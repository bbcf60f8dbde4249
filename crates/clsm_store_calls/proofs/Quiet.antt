-- When all seats are quiet, and all heads of a region 0, and that of its ordered list.
use Rattle.std.proofs.Common.{◌≡◌, ℕ, suc, ◌<◌, ◌==◌, true, List, [], ◌∷◌, length, refl, ap, sym, ◌∙◌, arith, eq-eqb}
use Rattle.std.proofs.lemmas.Bool.{and_from}
use Rattle.clsm_law.specs.declared.layout.Layout.{Layout}
use Rattle.clsm_law.specs.declared.merger.Reader.{Reader}
use Rattle.clsm_law.specs.declared.word.Word.TheVariants.{Head, Order}
use Rattle.clsm_law.specs.declared.step.Step.TheVariants.{ClearOrder}
use Rattle.clsm_law.specs.Merging.{is_all_quiet, retired_region, reader_at}
use Rattle.clsm_law.proofs.Passes.{passes_if}
use Rattle.clsm_words.specs.declared.known.Known.{Known}
use Rattle.clsm_words.specs.Knowing.{row_of}
use Rattle.clsm_words.specs.Merging.{FollowsMerger, IsLetGo, facts_known}

pub all_quiet_if : (l : List Reader) → ((i : ℕ) → i < length l → (reader_at l i).quiet ≡ true) → is_all_quiet l ≡ true
all_quiet_if [] h = refl
all_quiet_if (r ∷ rs) h = and_from r.quiet (is_all_quiet rs) (h 0 (omega arith)) (all_quiet_if rs (λ i lt. h (suc i) (omega arith)))

pub headless_if : (k : Known) (region : ℕ) → region ≡ retired_region k.merger → ((s : ℕ) → s < k.layout.chains → row_of k (Head region s) ≡ 0)
    → (facts_known k).headless ≡ true
headless_if k region same h = passes_if (λ chain. row_of k (Head (retired_region k.merger) chain) == 0) 0 k.layout.chains
    (λ s low high. eq-eqb _ 0 (ap (λ (r : ℕ). row_of k (Head r s)) (sym same) ∙ h s (omega arith)))

pub orderless_if : (k : Known) (region : ℕ) → region ≡ retired_region k.merger → row_of k (Order region) ≡ 0 → (facts_known k).orderless ≡ true
orderless_if k region same h = eq-eqb _ 0 (ap (λ (r : ℕ). row_of k (Order r)) (sym same) ∙ h)

-- ---- the head of the list, emptied behind those of the chains

module _ (k k' : Known) (region x : ℕ) (letgo : IsLetGo k.merger) (same : region ≡ retired_region k.merger)
    (follows : FollowsMerger (ClearOrder region) k x k') where
  same_after : region ≡ retired_region k'.merger
  same_after = same ∙ ap retired_region (sym follows.view)

  pub emptied_list : (facts_known k').orderless ≡ true
  emptied_list = orderless_if k' region same_after follows.made

  pub emptied_chains : ((s : ℕ) → s < k.layout.chains → row_of k (Head region s) ≡ 0) → (facts_known k').headless ≡ true
  emptied_chains h = headless_if k' region same_after (λ s lt. follows.stays (Head region s) (letgo, same)
      ∙ h s (let chains = ap (λ (z : Layout). z.chains) follows.layout in omega arith))

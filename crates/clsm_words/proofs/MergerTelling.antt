-- What a look of the merger's finds, by what the law says of the word.
use Rattle.std.proofs.Common.{◌≡◌, ℕ, ◌-◌, ◌*◌, ◌%◌, ◌<◌, ◌≤◌, true, nat_lt, List, length, get_or, refl, sym, ap, ◌∙◌, subst, arith, Option, Some}
use Rattle.std.proofs.lemmas.Bool.{and_parts}
use Rattle.std.proofs.lemmas.Nat.{mod_below}
use Rattle.clsm_model.specs.declared.slot.Slot.{Slot}
use Rattle.clsm_model.specs.declared.slot.Slot.TheVariants.{Nothing}
use Rattle.clsm_law.specs.declared.word.Word.TheVariants.{Cell, Order, State as StateOf}
use Rattle.clsm_law.specs.declared.step.Step.{Step}
use Rattle.clsm_law.specs.declared.step.Step.TheVariants.{Look}
use Rattle.clsm_law.specs.declared.merger.MergerView.{MergerView}
use Rattle.clsm_law.specs.Memory.{cell_of, link_at, link_of, is_part}
use Rattle.clsm_law.specs.Layout.{memory}
use Rattle.clsm_law.specs.Merging.{is_frozen, epoch_end}
use Rattle.clsm_law.specs.Worlds.{outcome_at}
use Rattle.clsm_law.specs.Law.{Shows}
use Rattle.clsm_law.specs.Reading.{time_in}
use Rattle.clsm_law.proofs.Frames.{slot_below}
use Rattle.clsm_law.proofs.Decided.Kept.{frozen_decided}
use Rattle.clsm_law.proofs.Setting.{shown_below_merged}
use Rattle.clsm_words.specs.Knowing.{row_of, IsPartOf, LeadsTo}
use Rattle.clsm_words.specs.Merging.{OpensToMerger, IsFrozenIn, IsRestFrom, TellsMerger}
use Rattle.clsm_words.specs.Ruled.{frozen_times}
use Rattle.clsm_words.proofs.Sitting.{MergerSitting}
use Rattle.clsm_words.proofs.Beginnings.{begins_at}
use Rattle.clsm_words.proofs.Listed.{links_lead, own_place}
use Rattle.clsm_words.proofs.MergerFacts.{free_if_frozen}
use Rattle.clsm_words.proofs.Telling.{shown_state, shown_part}
use Rattle.clsm_words.proofs.MergerPlayed.{me_merging, there_view, before, found, slots', next, next_past, longer_past, finds_word}

module _ (seat : MergerSitting) where
  open seat.place use {s, k, r}

  -- the merger knows the times of the frozen epoch
  inside_next : (step : Step) (o : OpensToMerger k step) (t : ℕ) → is_frozen k.merger.phase ≡ true → t < epoch_end k.layout k.merger
      → t < length (next seat step o).past
  inside_next step o t frozen lt =
      let me = me_merging seat step o in
      let frozen' : is_frozen r.merger.phase ≡ true = sym (ap (λ (m : MergerView). is_frozen m.phase) me.view) ∙ frozen in
      let free = free_if_frozen (before seat step o) (row_of k) k.past me.row me.past me.reaches frozen' in
      let end : epoch_end k.layout r.merger ≤ length k.past = subst (λ (n : ℕ). n ≤ length k.past) (rw (free, frozen') refl) me.reaches in
      let same : epoch_end k.layout r.merger ≡ epoch_end k.layout k.merger = sym (ap (epoch_end k.layout) me.view) in
      let longer = longer_past seat step o in
      omega arith

  -- a cell of the frozen epoch shows what its time came to
  frozen_shown : (step : Step) (o : OpensToMerger k step) (cell t : ℕ) → slots' seat step o ≡ r.slots → IsFrozenIn k cell t
      → Shows (memory k.layout s.words) cell (Some (get_or (next seat step o).past t Nothing))
  frozen_shown step o cell t same known =
      let me = me_merging seat step o in
      let g = before seat step o in
      let frozen : is_frozen r.merger.phase ≡ true = sym (ap (λ (m : MergerView). is_frozen m.phase) me.view) ∙ known.0 in
      let end : t < epoch_end k.layout r.merger = subst (λ (m : MergerView). t < epoch_end k.layout m) me.view known.3 in
      let from : r.merger.merged * k.layout.cells ≤ t = subst (λ (m : MergerView). m.merged * k.layout.cells ≤ t) me.view known.2 in
      let drawn = slot_below r.slots t (frozen_decided g frozen t end) in
      let low = shown_below_merged g in
      let list = (next seat step o).past in
      subst (λ (c : ℕ). Shows (memory k.layout s.words) c (Some (get_or list t Nothing))) known.1
      (subst (λ (a : Option Slot). Shows (memory k.layout s.words) (cell_of k.layout t) a)
      (ap (λ (slots : List (Option Slot)). outcome_at slots t) (sym same)
      ∙ begins_at (slots' seat step o) list (next_past seat step o) t (inside_next step o t known.0 known.3))
      (r.lawful.law.shown t (omega arith) drawn))

  pub tells_merger : (step : Step) (o : OpensToMerger k step) → TellsMerger step (next seat step o) (found seat step o)
  tells_merger (Look (StateOf cell)) o = λ t known.
      finds_word seat (Look (StateOf cell)) o ∙ shown_state (memory k.layout s.words) cell
      (get_or (next seat (Look (StateOf cell)) o).past t Nothing)
      (frozen_shown (Look (StateOf cell)) o cell t refl known)
  tells_merger (Look (Cell cell part)) o = λ t known.
      let slot = get_or (next seat (Look (Cell cell part)) o).past t Nothing in
      subst (IsPartOf slot part) (sym (finds_word seat (Look (Cell cell part)) o))
      (shown_part (memory k.layout s.words) cell slot part (and_parts (nat_lt cell (2 * k.layout.cells)) (is_part part) o).1
      (frozen_shown (Look (Cell cell part)) o cell t refl known))
  tells_merger (Look (Order link)) o = λ p rest frozen is behind.
      let me = me_merging seat (Look (Order link)) o in
      let g = before seat (Look (Order link)) o in
      let view = there_view seat (Look (Order link)) o in
      let frozen' : is_frozen r.merger.phase ≡ true = ap (λ (m : MergerView). is_frozen m.phase) (sym view) ∙ frozen in
      let region = r.merger.merged % 2 in
      let leads = links_lead k.layout (link_of (memory k.layout s.words) region) (λ q. time_in k.layout r.merger.merged (q - 1)) 0 (r.lawful.orders region)
      (r.lawful.law.ordered region (mod_below r.merger.merged 2 (omega arith))) (own_place g frozen') p rest
      (subst (λ (m : MergerView). IsRestFrom k.layout 0 (frozen_times k.layout m r.lawful.orders) p rest) view behind) in
      subst (λ (x : ℕ). LeadsTo k.layout x rest)
      (ap (λ (m : MergerView). memory k.layout s.words (Order (link_at (m.merged % 2) p))) (sym view)
      ∙ ap (λ (n : ℕ). memory k.layout s.words (Order n)) (sym is) ∙ sym (finds_word seat (Look (Order link)) o)) leads
  tells_merger step o = tt

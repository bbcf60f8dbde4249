-- What `==` says of worlds: whether they are the same but for the counts of the seats.
use Rattle.std.proofs.Common.{◌≡◌, ℕ, true, refl, sym, ap, subst}
use Rattle.std.proofs.Math.Bool.{true≢false}
use Rattle.std.proofs.Math.Bridge.{le_prop}
use Rattle.std.proofs.lemmas.Bool.Decides.{Decides-and, Decides-like}
use Rattle.std.specs.Bool.{Decides}
use Rattle.std.specs.Cmp.{unsigned_Decides}
use Rattle.std.specs.Cmp.Lexicographic.{pointwise_decides}
use Rattle.clsm_model.proofs.Equals.{Decides-by_same, option_eq-Decides, Value-Decides}
use Rattle.clsm_model.specs.Config.{IsBetween}
use Rattle.clsm_model.specs.declared.batch.Batch.{Batch}
use Rattle.clsm_model.specs.declared.slot.Slot.{Slot}
use Rattle.clsm_model.specs.declared.slot.Slot.TheVariants.{Nothing, Wrote}
use Rattle.clsm_model.specs.contracts.slot.SlotPartialEq.TheImpl as of_slots
use Rattle.clsm_model.specs.contracts.batch.BatchPartialEq.TheImpl as of_batches
use Rattle.clsm_model.specs.contracts.slot.SlotEq.TheImpl.Laws as slot_laws
use Rattle.clsm_model.specs.contracts.batch.BatchEq.TheImpl.Laws as batch_laws
use Rattle.clsm_law.specs.declared.layout.Layout.{Layout}
use Rattle.clsm_law.specs.contracts.layout.LayoutPartialEq.TheImpl as of_layouts
use Rattle.clsm_law.specs.contracts.layout.LayoutEq.TheImpl.Laws as layout_laws
use Rattle.clsm_law.specs.Machine.{WorldState}
use Rattle.clsm_law.specs.Same.{is_same_world, uncounted_world}
use Rattle.clsm_law.proofs.Equal.Views.{Views-Decides}
use Rattle.clsm_law.proofs.Equal.Mergers.{MergerView-Decides}

-- a number that is within a range
abbrev Within : ℕ → ℕ → Type 0
Within low high = (n : ℕ) × IsBetween low high n

-- two of them are the same where the numbers are: that they are within says no more
within_same : (low high : ℕ) (a b : Within low high) → a.0 ≡ b.0 → a ≡ b
within_same low high a b e = subst (λ (n : ℕ). (r : IsBetween low high n) → a ≡ (n, r)) e
    (λ r i. (a.0, (le_prop a.1.0 r.0 i, le_prop a.1.1 r.1 i))) b.1

layout-same : (a b : Layout) → of_layouts.ghosts.eq a b ≡ true → a ≡ b
layout-same a b h =
    let e = (Decides-and _ _ (unsigned_Decides a.cells b.cells) (Decides-and _ _ (unsigned_Decides a.seats b.seats)
    (Decides-and _ _ (unsigned_Decides a.chains b.chains) (Decides-and _ _ (unsigned_Decides a.run b.run) (unsigned_Decides a.patience b.patience))))).0
    h in
    let cells = within_same 4 65536 (a.cells, a.cells_in_range) (b.cells, b.cells_in_range) e.0 in
    let seats = within_same 1 64 (a.seats, a.seats_in_range) (b.seats, b.seats_in_range) e.1.0 in
    let chains = within_same 1 65536 (a.chains, a.chains_in_range) (b.chains, b.chains_in_range) e.1.1.0 in
    let run = within_same 4 4194304 (a.run, a.run_in_range) (b.run, b.run_in_range) e.1.1.1.0 in
    λ i. record {
      cells = (cells i).0;
      seats = (seats i).0;
      chains = (chains i).0;
      run = (run i).0;
      patience = e.1.1.1.1 i;
      cells_in_range = (cells i).1;
      seats_in_range = (seats i).1;
      chains_in_range = (chains i).1;
      run_in_range = (run i).1;
    }

slot-same : (a b : Slot) → of_slots.ghosts.eq a b ≡ true → a ≡ b
slot-same Nothing Nothing h = refl
slot-same (Wrote seat key value) (Wrote seat' key' value') h =
    let e = (Decides-and _ _ (unsigned_Decides seat seat') (Decides-and _ _ (unsigned_Decides key key') (option_eq-Decides Value-Decides value value'))).0 h in
    λ i. Wrote (e.0 i) (e.1.0 i) (e.1.1 i)
slot-same _ _ h = absurd (true≢false (sym h))

Slot-Decides : (a b : Slot) → Decides (of_slots.ghosts.eq a b) (a ≡ b)
Slot-Decides = Decides-by_same slot_laws.laws-law slot-same

batch-same : (a b : Batch) → of_batches.ghosts.eq a b ≡ true → a ≡ b
batch-same a b h = let e = (Decides-and _ _ (unsigned_Decides a.first b.first) (unsigned_Decides a.size b.size)).0 h in
    λ i. record { first = e.0 i; size = e.1 i }

Batch-Decides : (a b : Batch) → Decides (of_batches.ghosts.eq a b) (a ≡ b)
Batch-Decides = Decides-by_same batch_laws.laws-law batch-same

pub Layout-Decides : (a b : Layout) → Decides (of_layouts.ghosts.eq a b) (a ≡ b)
Layout-Decides = Decides-by_same layout_laws.laws-law layout-same

pub World-Decides : (a b : WorldState) → Decides (is_same_world a b) (uncounted_world a ≡ uncounted_world b)
World-Decides a b = Decides-like _ (λ e i. record {
  layout = e.0 i;
  words = e.1.0 i;
  views = e.1.1.0 i;
  merger = e.1.1.1.0 i;
  slots = e.1.1.1.1.0 i;
  batches = e.1.1.1.1.1 i;
}) (λ e. (
  ap (λ (w : WorldState). w.layout) e,
  (
    ap (λ (w : WorldState). w.words) e,
    (
      ap (λ (w : WorldState). w.views) e,
      (ap (λ (w : WorldState). w.merger) e, (ap (λ (w : WorldState). w.slots) e, ap (λ (w : WorldState). w.batches) e)),
    ),
  ),
))
    (Decides-and _ _ (Layout-Decides a.layout b.layout) (Decides-and _ _ (pointwise_decides unsigned_Decides a.words b.words)
    (Decides-and _ _ (Views-Decides a.views b.views) (Decides-and _ _ (MergerView-Decides a.merger b.merger)
    (Decides-and _ _ (pointwise_decides (option_eq-Decides Slot-Decides) a.slots b.slots) (pointwise_decides Batch-Decides a.batches b.batches))))))

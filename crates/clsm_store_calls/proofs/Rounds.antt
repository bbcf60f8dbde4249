-- A round of looks at the snapshot words, and the floor that it gives.
use Rattle.std.proofs.Common.{◌≡◌, ℕ, ◌+◌, ◌<◌, ◌==◌, true, cond, max, refl, ap, sym, ◌∙◌, arith, Option, Some, None, eq-eqb, ne_eqb}
use mathlib.Core.Logic.{dite}
use native.Mathlib.Decide.{ℕ_discrete}
use Rattle.clsm_law.specs.declared.layout.Layout.{Layout}
use Rattle.clsm_law.specs.declared.merger.MergerView.{MergerView}
use Rattle.clsm_law.specs.declared.merger.Round.{Round}
use Rattle.clsm_law.specs.declared.word.Word.TheVariants.{Snap}
use Rattle.clsm_law.specs.Views.{next_word}
use Rattle.clsm_law.specs.Merging.{epoch_end, floor_by, is_frozen, least, least_or, merger_looked, noted_by, noted_time, round_by, round_end, round_on}
use Rattle.clsm_law.specs.Merging.{rounds_by}
use Rattle.clsm_store_calls.specs.Flooring.{floor_at, noted_at, round_at, rounds_at}

module _ (z : Layout) (m : MergerView) (i x before end : ℕ) (found : Option ℕ) (r0 : Option Round) (lt : i < z.seats) (frozen : is_frozen m.phase ≡ true)
    (stands : m.round ≡ round_at z.seats i found r0) (fresh : i ≡ 0 → found ≡ None) (low : m.floor ≡ floor_at z.seats i before end found)
    (ends : epoch_end z m ≡ end) where
  abbrev round' : Round
  round' = record { next = i + 1; least = least found (noted_time x) }

  -- the round goes on, or begins
  goes_on : round_by m.round i x ≡ Some round'
  goes_on = dite (ℕ_discrete i 0)
      (λ (first : i ≡ 0). ap (λ b. cond b (Some (record { next = 1; least = noted_time x })) (round_on m.round i x)) (eq-eqb i 0 first)
      ∙ ap (λ (o : Option ℕ). Some (record { next = 1; least = least o (noted_time x) })) (sym (fresh first))
      ∙ ap (λ (n : ℕ). Some (record { next = n + 1; least = least found (noted_time x) })) (sym first))
      (λ ne.
      let at : m.round ≡ Some (record { next = i; least = found }) = stands
      ∙ ap (λ b. cond b r0 (cond (i == z.seats) None (Some (record { next = i; least = found })))) (ne_eqb i 0 ne)
      ∙ ap (λ b. cond b None (Some (record { next = i; least = found }))) (ne_eqb i z.seats (λ e. omega arith)) in
      ap (λ b. cond b (Some (record { next = 1; least = noted_time x })) (round_on m.round i x)) (ne_eqb i 0 ne)
      ∙ ap (λ (r : Option Round). round_on r i x) at ∙ ap (λ b. cond b (Some round') None) (eq-eqb i i refl))

  -- the floor does not move before the round is whole
  not_yet : m.floor ≡ before
  not_yet = low ∙ dite (ℕ_discrete i 0)
      (λ (first : i ≡ 0). ap (λ b. cond b before (cond (i == z.seats) (max before (least_or end (Some (record { next = i; least = found })))) before))
      (eq-eqb i 0 first))
      (λ ne. ap (λ b. cond b before (cond (i == z.seats) (max before (least_or end (Some (record { next = i; least = found })))) before)) (ne_eqb i 0 ne)
      ∙ ap (λ b. cond b (max before (least_or end (Some (record { next = i; least = found })))) before) (ne_eqb i z.seats (λ e. omega arith)))

  pub next_round : (merger_looked z m (Snap i) x).round ≡ round_at z.seats (i + 1) (least found (noted_time x)) r0
  next_round =
      ap (λ b. cond b (round_end z.seats (cond b (round_by m.round i x) m.round)) m.round) frozen ∙ ap (round_end z.seats) goes_on
      ∙ sym (ap (λ b. cond b r0 (cond (i + 1 == z.seats) None (Some round'))) (ne_eqb (i + 1) 0 (λ e. omega arith)))

  pub next_floor : (merger_looked z m (Snap i) x).floor ≡ floor_at z.seats (i + 1) before end (least found (noted_time x))
  next_floor =
      ap (λ b. cond b (floor_by z m (cond b (round_by m.round i x) m.round)) m.floor) frozen ∙ ap (floor_by z m) goes_on
      ∙ ap (λ (n : ℕ). cond (i + 1 == z.seats) (max m.floor (least_or n (Some round'))) m.floor) ends
      ∙ ap (λ (n : ℕ). cond (i + 1 == z.seats) (max n (least_or end (Some round'))) n) not_yet
      ∙ sym (ap (λ b. cond b before (cond (i + 1 == z.seats) (max before (least_or end (Some round'))) before)) (ne_eqb (i + 1) 0 (λ e. omega arith)))

  -- a round is counted when it is whole
  pub next_rounds : (counted : ℕ) → m.rounds ≡ rounds_at z.seats i counted → (merger_looked z m (Snap i) x).rounds ≡ rounds_at z.seats (i + 1) counted
  next_rounds counted at =
      let none_yet : m.rounds ≡ counted = at ∙ dite (ℕ_discrete i 0)
      (λ (first : i ≡ 0). ap (λ b. cond b counted (cond (i == z.seats) (next_word counted) counted)) (eq-eqb i 0 first))
      (λ ne. ap (λ b. cond b counted (cond (i == z.seats) (next_word counted) counted)) (ne_eqb i 0 ne)
      ∙ ap (λ b. cond b (next_word counted) counted) (ne_eqb i z.seats (λ e. omega arith))) in
      ap (λ b. cond b (rounds_by z m (cond b (round_by m.round i x) m.round)) m.rounds) frozen ∙ ap (rounds_by z m) goes_on
      ∙ ap (λ (n : ℕ). cond (i + 1 == z.seats) (next_word n) n) none_yet
      ∙ sym (ap (λ b. cond b counted (cond (i + 1 == z.seats) (next_word counted) counted)) (ne_eqb (i + 1) 0 (λ e. omega arith)))

  -- and so is what it found noted
  pub next_noted : (before' : Option ℕ) → m.noted ≡ noted_at z.seats i found before'
      → (merger_looked z m (Snap i) x).noted ≡ noted_at z.seats (i + 1) (least found (noted_time x)) before'
  next_noted before' at =
      let none_yet : m.noted ≡ before' = at ∙ dite (ℕ_discrete i 0)
      (λ (first : i ≡ 0). ap (λ b. cond b before' (cond (i == z.seats) found before')) (eq-eqb i 0 first))
      (λ ne. ap (λ b. cond b before' (cond (i == z.seats) found before')) (ne_eqb i 0 ne)
      ∙ ap (λ b. cond b found before') (ne_eqb i z.seats (λ e. omega arith))) in
      ap (λ b. cond b (noted_by z m (cond b (round_by m.round i x) m.round)) m.noted) frozen ∙ ap (noted_by z m) goes_on
      ∙ ap (λ (o : Option ℕ). cond (i + 1 == z.seats) (least found (noted_time x)) o) none_yet
      ∙ sym (ap (λ b. cond b before' (cond (i + 1 == z.seats) (least found (noted_time x)) before')) (ne_eqb (i + 1) 0 (λ e. omega arith)))

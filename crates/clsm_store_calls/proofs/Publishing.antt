-- What is written at the place of the next merge may be published, and is what the merge keeps.
use Rattle.std.proofs.Common.{◌≡◌, ℕ, ◌%◌, ◌<◌, ◌≤◌, true, false, Bool, cond, List, [], ◌∷◌, ◌++◌, append-nil, length, ap, sym, ◌∙◌, arith, inl, inr}
use Rattle.std.proofs.lemmas.Bool.{cases_eq, eq-eqb, eqb-true, le-ltb, lt-ltb, ne_eqb}
use Rattle.clsm_levels.specs.declared.entry.Entry.{Entry}
use Rattle.clsm_levels.specs.declared.place.Place.{Place}
use Rattle.clsm_levels.specs.Merge.{is_to_level_one, kept, merged, wanted}
use Rattle.clsm_levels.specs.Run.{all_of}
use Rattle.clsm_levels.proofs.Keeps.{length-kept}
use Rattle.clsm_levels.proofs.Merges.{length-merged}
use Rattle.clsm_levels.proofs.Placed.{target_one, target_zero}
use Rattle.clsm_levels.proofs.Presorted.{wanted_of_sorted}
use Rattle.clsm_law.specs.declared.layout.Layout.{Layout}
use Rattle.clsm_law.specs.declared.merger.MergerView.{MergerView}
use Rattle.clsm_law.specs.declared.word.Word.TheVariants.{Count}
use Rattle.clsm_law.specs.declared.step.Step.TheVariants.{Publish}
use Rattle.clsm_law.specs.Memory.{room_of}
use Rattle.clsm_law.specs.Merging.{is_frozen, target_of}
use Rattle.clsm_law.specs.Places.{number_of}
use Rattle.clsm_law.specs.Worlds.{runs_of}
use Rattle.clsm_words.specs.declared.known.Known.{Known}
use Rattle.clsm_words.specs.Changing.{Changes}
use Rattle.clsm_words.specs.Knowing.{row_of}
use Rattle.clsm_words.specs.Merging.{IsSoundMerger, OpensToMerger}
use Rattle.clsm_search.specs.Frozen.{epoch_row}
use Rattle.clsm_search.proofs.FrozenTimes.{row_few}
use Rattle.clsm_runs.specs.Outputs.{HasWritten, kept_of}
use Rattle.clsm_runs.specs.Placing.{IsOfPlace}
use Rattle.clsm_runs.proofs.MergeRows.{runs_stay}
use Rattle.clsm_runs.proofs.Taking.{length-entries}
use Rattle.clsm_store_calls.specs.Merging.{IsRunFull, epoch_known, kept_by, runs_known}
use Rattle.clsm_store_calls.specs.Seats.{FrozenState}
use Rattle.clsm_store_calls.proofs.Prepared.{epoch_stays, row_is}

-- what is kept of the epoch's writes and the runs is what the merge is to write
pub kept_is : (k : Known) (floor : ℕ) → kept_of k floor ≡ wanted k.merger.merged floor (epoch_known k) (runs_known k)
kept_is k floor =
    ap (λ (es : List Entry). kept floor (is_to_level_one k.merger.merged) (merged (all_of (es ∷ cond (is_to_level_one k.merger.merged) (runs_known k) []))))
    (row_is k)
    ∙ wanted_of_sorted k.merger.merged floor (epoch_known k) (runs_known k)

module _ (k k' : Known) (sound : IsSoundMerger k) (frozen : is_frozen k.merger.phase ≡ true) (free : k.merger.exclusive ≡ false)
    (changes : Changes (IsOfPlace (target_of k.merger)) k k') where
  pub epoch_same : epoch_known k' ≡ epoch_known k
  epoch_same = epoch_stays k k' sound frozen free changes.layout (ap (λ (m : MergerView). m.merged) changes.view) changes.past

  pub runs_same : runs_known k' ≡ runs_known k
  runs_same = ap (λ (m : MergerView). runs_of (row_of k') m.merged) changes.view ∙ runs_stay k k' changes

  pub may_publish : (floor : ℕ) → floor ≡ k.merger.floor → HasWritten k' (kept_of k floor) → OpensToMerger k' Publish
  may_publish floor same has = (
    ap (λ (m : MergerView). is_frozen m.phase) changes.view ∙ frozen,
    has.fits,
    has.written ∙ kept_is k floor
        ∙ ap (λ (f : ℕ). wanted k.merger.merged f (epoch_known k) (runs_known k)) same
        ∙ ap (λ (m : MergerView). wanted m.merged m.floor (epoch_known k) (runs_known k)) (sym changes.view)
        ∙ ap (λ (es : List Entry). wanted k'.merger.merged k'.merger.floor es (runs_known k)) (sym epoch_same)
        ∙ ap (λ (rs : List (List Entry)). wanted k'.merger.merged k'.merger.floor (epoch_known k') rs) (sym runs_same),
    has.canonical,
  )

-- ---- when the run is full

module _ (k : Known) (floor : ℕ) where
  -- a merge into level 0 keeps no more than the epoch's writes, for which its place has room
  fits_level_zero : (k.merger.merged % 4 ≡ 3 → ⊥) → length (kept_of k floor) ≤ room_of k.layout (target_of k.merger)
  fits_level_zero zero_level =
      let none = ap (λ (b : Bool). length (kept floor b (merged (all_of (epoch_row k ∷ cond b (runs_known k) [])))))
      (ne_eqb (k.merger.merged % 4) 3 zero_level) in
      let short = length-kept floor false (merged (epoch_row k ++ [])) in
      let long = length-merged (epoch_row k ++ []) in
      let same = ap (λ (l : List Entry). length l) (append-nil (epoch_row k)) in
      let few = row_few k in
      let place = ap (λ (place : Place). number_of place) (target_zero k.merger.merged zero_level) in
      let room = ap (λ (b : Bool). cond b k.layout.cells k.layout.run) (lt-ltb (target_of k.merger) 3 (omega arith)) in
      omega arith

  -- level 1 has room for a run
  room_of_level_one : k.merger.merged % 4 ≡ 3 → room_of k.layout (target_of k.merger) ≡ k.layout.run
  room_of_level_one one =
      let place = ap (λ (place : Place). number_of place) (target_one k.merger.merged one) in
      ap (λ (b : Bool). cond b k.layout.cells k.layout.run) (le-ltb (target_of k.merger) 3 (omega arith))

  pub run_full : (s : FrozenState) → s.merger.store.layout ≡ k.layout → s.merger.merges ≡ k.merger.merged → kept_of k floor ≡ kept_by s floor
      → room_of k.layout (target_of k.merger) < length (kept_of k floor) → IsRunFull s floor
  run_full s layout merges same more = elim (cases_eq (k.merger.merged % 4) 3) [
    | inl one ↦ record {
      to_level_one = ap (λ (m : ℕ). is_to_level_one m) merges ∙ eq-eqb (k.merger.merged % 4) 3 one;
      many = let room = room_of_level_one one in let run = ap (λ (z : Layout). z.run) layout in let long = ap (λ (l : List Entry). length l) same in
          omega arith;
    }
    | inr zero_level ↦ absurd (let fits = fits_level_zero zero_level in omega arith)
  ]

  pub not_full : (s : FrozenState) (k' : Known) → s.merger.store.layout ≡ k.layout → s.merger.merges ≡ k.merger.merged → kept_of k floor ≡ kept_by s floor
      → k'.merger ≡ k.merger → k'.layout ≡ k.layout → HasWritten k' (kept_of k floor) → IsRunFull s floor → ⊥
  not_full s k' layout merges same view sizes has full =
      let one : k.merger.merged % 4 ≡ 3 = eqb-true (k.merger.merged % 4) 3 (ap (λ (m : ℕ). is_to_level_one m) (sym merges) ∙ full.to_level_one) in
      let room = room_of_level_one one in
      let at = ap (λ (m : MergerView). room_of k'.layout (target_of m)) view ∙ ap (λ (z : Layout). room_of z (target_of k.merger)) sizes in
      let written = ap (λ (l : List Entry). length l) has.written in
      let count = length-entries (row_of k') (target_of k'.merger) 0 (row_of k' (Count (target_of k'.merger))) in
      let fits = has.fits in
      let run = ap (λ (z : Layout). z.run) layout in
      let long = ap (λ (l : List Entry). length l) same in
      let many = full.many in
      omega arith

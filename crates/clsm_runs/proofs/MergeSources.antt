-- The merged runs are sources of a merge.
use Rattle.std.proofs.Common.{◌≡◌, ℕ, ◌*◌, ◌<◌, ◌^◌, Bool, true, cond, List, [], ◌∷◌, length, map, ap, arith, inl, inr}
use Rattle.std.specs.List.{AllByRecursion}
use Rattle.std.proofs.lemmas.Bool.{cases_lt, le-ltb, lt-ltb}
use Rattle.clsm_levels.specs.declared.entry.Entry.{Entry}
use Rattle.clsm_levels.specs.declared.place.Place.{Place}
use Rattle.clsm_levels.specs.Entry.{AreBelow}
use Rattle.clsm_levels.specs.Merge.{is_to_level_one}
use Rattle.clsm_levels.specs.Pass.{RisesByKey}
use Rattle.clsm_levels.specs.Place.{places}
use Rattle.clsm_levels.specs.Run.{IsRun, all_of}
use Rattle.clsm_levels.proofs.Every.{every-cond, every_weaker}
use Rattle.clsm_levels.proofs.Orders.{keys_rise-run}
use Rattle.clsm_law.specs.declared.layout.Layout.{Layout}
use Rattle.clsm_law.specs.declared.word.Word.TheVariants.{Count}
use Rattle.clsm_law.specs.Memory.{room_of}
use Rattle.clsm_law.specs.Places.{held_at, is_named, number_of}
use Rattle.clsm_law.specs.Worlds.{runs_of}
use Rattle.clsm_law.proofs.Runs.Kept.{all_named}
use Rattle.clsm_words.specs.declared.known.Known.{Known}
use Rattle.clsm_words.specs.Knowing.{row_of}
use Rattle.clsm_words.specs.Merging.{IsSoundMerger}
use Rattle.clsm_search.specs.Frozen.{epoch_row}
use Rattle.clsm_search.proofs.FrozenTimes.{row_early, row_few, row_run}
use Rattle.clsm_runs.specs.Placing.{rows_of}
use Rattle.clsm_runs.specs.Outputs.{AreSources}
use Rattle.clsm_runs.proofs.NamedRuns.{each_run}
use Rattle.clsm_runs.proofs.Taking.{length-entries}

every-map : {A B : Type 0} (f : A → B) (P : B → Type 0) (xs : List A) → AllByRecursion (λ a. P (f a)) xs → AllByRecursion P (map f xs)
every-map f P [] every = tt
every-map f P (x ∷ xs) every = (every.0, every-map f P xs every.1)

small_room : (z : Layout) (p : ℕ) → room_of z p < 2 ^ 62
small_room z p = elim (cases_lt p 3) [
  | inl low ↦ let is = ap (λ (b : Bool). cond b z.cells z.run) (lt-ltb p 3 low) in let small = z.cells_in_range.1 in omega arith
  | inr high ↦ let is = ap (λ (b : Bool). cond b z.cells z.run) (le-ltb p 3 high) in let small = z.run_in_range.1 in omega arith
]

module _ (k : Known) (sound : IsSoundMerger k) where
  abbrev runs : List (List Entry)
  runs = runs_of (row_of k) k.merger.merged

  runs_rise : AllByRecursion RisesByKey runs
  runs_rise = every_weaker IsRun RisesByKey keys_rise-run runs sound.runs.content.order

  runs_early : AllByRecursion (AreBelow (2 ^ 62)) runs
  runs_early = each_run (λ (e : Entry). e.time < 2 ^ 62) runs
      (every_weaker (λ (e : Entry). e.time < k.merger.merged * k.layout.cells) (λ e. e.time < 2 ^ 62)
      (λ e older. let small = sound.mergeable.small.merged in omega arith) (all_of runs) sound.runs.content.older)

  runs_few : AllByRecursion (λ (run : List Entry). length run < 2 ^ 62) runs
  runs_few = every-map (held_at (row_of k)) (λ (run : List Entry). length run < 2 ^ 62) (places k.merger.merged)
      (every_weaker (λ (place : Place). is_named k.merger.merged (number_of place) ≡ true) (λ place. length (held_at (row_of k) place) < 2 ^ 62)
      (λ place named. let p = number_of place in let count = sound.mergeable.counts p named in let small = small_room k.layout p in
      let long = length-entries (row_of k) p 0 (row_of k (Count p)) in omega arith)
      (places k.merger.merged) (all_named k.merger.merged))

  pub are_sources : AreSources (rows_of k)
  are_sources = record {
    rise = (keys_rise-run (epoch_row k) (row_run k), every-cond RisesByKey (is_to_level_one k.merger.merged) runs [] (λ one. runs_rise) (λ zero_level. tt));
    early = (row_early k sound, every-cond (AreBelow (2 ^ 62)) (is_to_level_one k.merger.merged) runs [] (λ one. runs_early) (λ zero_level. tt));
    few = (
      let few = row_few k in let small = k.layout.cells_in_range.1 in
          omega arith,
      every-cond (λ (run : List Entry). length run < 2 ^ 62) (is_to_level_one k.merger.merged) runs [] (λ one. runs_few) (λ zero_level. tt),
    );
  }

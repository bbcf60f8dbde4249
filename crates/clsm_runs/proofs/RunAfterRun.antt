-- A search of the runs of a component, one after the other.
use Rattle.std.proofs.Common.{◌≡◌, ℕ, zero, suc, ◌+◌, ◌-◌, ◌/◌, ◌%◌, ◌<◌, List, refl, sym, ap, ◌∙◌, arith, Option, Some, None, true, false}
use Rattle.std.specs.Prelude.{is_some}
use Rattle.clsm_model.specs.History.{or_else}
use Rattle.clsm_model.proofs.Pages.{or_none}
use Rattle.clsm_levels.specs.declared.entry.Entry.{Entry}
use Rattle.clsm_levels.specs.Entry.{first_below, value_of}
use Rattle.clsm_levels.specs.Run.{first_in_runs}
use Rattle.clsm_law.specs.Memory.{Memory}
use Rattle.clsm_law.specs.Places.{entries_in}
use Rattle.clsm_runs.specs.Searching.{runs_below}

-- the newest run of level 0 is searched first
newest_first : (memory : Memory) (m key until j : ℕ) → 0 < j
    → first_in_runs (runs_below memory m j) key until
    ≡ or_else (first_below (entries_in memory (j - 1)) key until) (first_in_runs (runs_below memory m (j - 1)) key until)
newest_first memory m key until zero some = absurd (omega arith)
newest_first memory m key until (suc j) some = let same : j ≡ suc j - 1 = omega arith in
    ap (λ (i : ℕ). or_else (first_below (entries_in memory i) key until) (first_in_runs (runs_below memory m i) key until)) same

-- no entry has no value
pub none_left : (o : Option Entry) → is_some o ≡ false → value_of o ≡ None
none_left None has = refl
none_left (Some e) has = absurd cc

module _ (memory : Memory) (m key until j : ℕ) (all : List (List Entry))
    (searched : first_in_runs all key until ≡ first_in_runs (runs_below memory m j) key until) where
  -- what it has is found
  pub found_here : (o : Option Entry) → 0 < j → is_some o ≡ true → o ≡ first_below (entries_in memory (j - 1)) key until → o ≡ first_in_runs all key until
  found_here None some has is = absurd cc
  found_here (Some e) some has is = sym
      (searched ∙ newest_first memory m key until j some ∙ ap (λ o. or_else o (first_in_runs (runs_below memory m (j - 1)) key until)) (sym is))

  -- where it has none the search goes on behind it
  pub found_behind : (o : Option Entry) → 0 < j → is_some o ≡ false → o ≡ first_below (entries_in memory (j - 1)) key until
      → first_in_runs all key until ≡ first_in_runs (runs_below memory m (j - 1)) key until
  found_behind None some has is = searched ∙ newest_first memory m key until j some
      ∙ ap (λ o. or_else o (first_in_runs (runs_below memory m (j - 1)) key until)) (sym is)
  found_behind (Some e) some has is = absurd cc

  -- the run of level 1 is searched last
  pub found_last : (o : Option Entry) → j ≡ 0 → o ≡ first_below (entries_in memory (3 + m / 4 % 2)) key until → o ≡ first_in_runs all key until
  found_last o none is = is
      ∙ sym (searched ∙ ap (λ (i : ℕ). first_in_runs (runs_below memory m i) key until) none
      ∙ or_none (first_below (entries_in memory (3 + m / 4 % 2)) key until))

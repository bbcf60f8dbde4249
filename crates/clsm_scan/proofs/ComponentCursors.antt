-- The walks along a component's runs find together what a search of its runs finds.
use Rattle.std.proofs.Common.{◌≡◌, ℕ, zero, suc, ◌+◌, ◌/◌, ◌%◌, ◌<◌, ◌≤◌, nat_lt, Bool, true, false, cond, List, refl, sym, ap, ◌∙◌, arith, Option, Some}
use Rattle.std.proofs.Common.{None, Result, Ok, Err, IfOk}
use Rattle.std.proofs.lemmas.Bool.{ltb-true}
use Rattle.clsm_model.specs.History.{or_else}
use Rattle.clsm_model.specs.Map.{Pair}
use Rattle.clsm_model.proofs.Pages.{or_none}
use Rattle.clsm_levels.specs.declared.entry.Entry.{Entry}
use Rattle.clsm_levels.specs.Entry.{first_below}
use Rattle.clsm_levels.specs.Run.{first_in_runs}
use Rattle.clsm_words.specs.declared.known.Known.{Known}
use Rattle.clsm_words.specs.Knowing.{row_of}
use Rattle.clsm_runs.specs.Searching.{run_at, runs_below}
use Rattle.clsm_runs.proofs.NamedRuns.{names_one, names_zero}
use Rattle.clsm_scan.specs.Collected.{IsCollected}
use Rattle.clsm_scan.specs.Optional.{If, found_in}
use Rattle.clsm_scan.specs.Sources.{found_in_runs, level_one_walk, level_zero_walk, run_walk}
use Rattle.clsm_scan.specs.Walks.{any_found, any_over}

module _ (k : Known) (component until : ℕ) where
  pub zero_over : (place : ℕ) → k.view.held ≡ Some component → If (any_over k) (level_zero_walk component place until)
  zero_over place held = elim (nat_lt place (component % 4)) as (λ (b : Bool). nat_lt place (component % 4) ≡ b
      → If (any_over k) (cond b (Some (run_walk component place until)) None)) [
        | true ↦ λ is. (record { held = held; named = names_zero component place (ltb-true place (component % 4) is) }, tt)
        | false ↦ λ is. tt
      ] refl

  pub one_over : k.view.held ≡ Some component → any_over k (level_one_walk component until)
  one_over held = (record { held = held; named = names_one component }, tt)

  abbrev zero_finds : ℕ → ℕ → ℕ → Option Entry
  zero_finds j place key = cond (nat_lt place j) (first_below (run_at k place) key until) None

  zero_found : (place key : ℕ) → found_in (any_found k) (level_zero_walk component place until) key ≡ zero_finds (component % 4) place key
  zero_found place key = elim (nat_lt place (component % 4)) as (λ (b : Bool). found_in (any_found k)
      (cond b (Some (run_walk component place until)) None) key ≡ cond b (first_below (run_at k place) key until) None) [ true ↦ refl | false ↦ refl ]

  abbrev one_finds : ℕ → Option Entry
  one_finds key = first_below (run_at k (3 + component / 4 % 2)) key until

  all_found : (j key : ℕ) → j < 4
      → or_else (zero_finds j 2 key) (or_else (zero_finds j 1 key) (or_else (zero_finds j 0 key) (one_finds key)))
      ≡ first_in_runs (runs_below (row_of k) component j) key until
  all_found zero key lt = sym (or_none (one_finds key))
  all_found (suc zero) key lt = ap (or_else (zero_finds 1 0 key)) (sym (or_none (one_finds key)))
  all_found (suc (suc zero)) key lt = ap (λ (o : Option Entry). or_else (zero_finds 2 1 key) (or_else (zero_finds 2 0 key) o)) (sym (or_none (one_finds key)))
  all_found (suc (suc (suc zero))) key lt =
      ap (λ (o : Option Entry). or_else (zero_finds 3 2 key) (or_else (zero_finds 3 1 key) (or_else (zero_finds 3 0 key) o))) (sym (or_none (one_finds key)))
  all_found (suc (suc (suc (suc j)))) key lt = absurd (omega arith)

  pub runs_found : (key : ℕ)
      → or_else (found_in (any_found k) (level_zero_walk component 2 until) key)
      (or_else (found_in (any_found k) (level_zero_walk component 1 until) key)
      (or_else (found_in (any_found k) (level_zero_walk component 0 until) key) (any_found k (level_one_walk component until) key)))
      ≡ found_in_runs k component until key
  runs_found key = rw (zero_found 2 key, zero_found 1 key, zero_found 0 key) (all_found (component % 4) key (omega arith))

-- ---- rows of what is found

-- what is found between the bounds decides what is collected
pub collected_same : (value value' : ℕ → Option (List ℕ)) (lo hi : ℕ) (max : Option ℕ) (rows : List Pair) (more : Option ℕ)
    → ((k : ℕ) → lo ≤ k → k ≤ hi → value' k ≡ value k) → IsCollected value lo hi max rows more → IsCollected value' lo hi max rows more
collected_same value value' lo hi max rows None same is =
    let all = is.0 in
    (record { rise = all.rise; inside = λ k above below. all.inside k above below ∙ sym (same k above below); below = all.below; above = all.above }, is.1)
collected_same value value' lo hi max rows (Some more) same is =
    let gives = is.gives in
    let until = is.until in
    record {
      gives = record {
        rise = gives.rise;
        ends = gives.ends;
        inside = λ k above below. gives.inside k above below ∙ sym (same k above (omega arith));
        below = gives.below;
        above = gives.above;
      };
      from = is.from;
      until = until;
      there = (is.there.0, same more is.from until ∙ is.there.1);
      full = is.full;
    }

pub if_ok_weaker : {V E : Type 0} (P Q : V → Type 0) → ((v : V) → P v → Q v) → (r : Result V E) → IfOk r P → IfOk r Q
if_ok_weaker P Q each (Ok v) holds = each v holds
if_ok_weaker P Q each (Err e) holds = holds

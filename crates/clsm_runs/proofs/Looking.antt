-- What stays over looks while a component is held: the words of its runs, and so what was found in
-- them.
use Rattle.std.proofs.Common.{◌≡◌, ℕ, zero, suc, ◌+◌, ◌-◌, ◌<◌, List, refl, sym, ap, ◌∙◌, subst, Option}
use Rattle.clsm_levels.specs.declared.entry.Entry.{Entry}
use Rattle.clsm_levels.specs.Entry.{first_below}
use Rattle.clsm_law.specs.Places.{entries_from}
use Rattle.clsm_law.proofs.Runs.Kept.{place_same}
use Rattle.clsm_words.specs.declared.known.Known.{Known}
use Rattle.clsm_words.specs.Knowing.{row_of}
use Rattle.clsm_words.specs.Keeping.{Looks}
use Rattle.clsm_runs.specs.Staying.{entry_in_stays, place_stays}
use Rattle.clsm_runs.specs.declared.side.Side.{Side}
use Rattle.clsm_runs.specs.declared.side.Side.TheVariants.{Before, Hit, Behind}
use Rattle.clsm_runs.specs.Searching.{ComesEarlier, IsSearchable, IsSide, count_of, rest_from, run_at}

-- ---- a run

pub run_stays : (k k' : Known) (component place : ℕ) → Looks k k' → IsSearchable k component place → run_at k' place ≡ run_at k place
run_stays k k' component place looks run = place_same (row_of k) (row_of k') place (place_stays k k' component place looks run)

-- an entry that was found after looks was found before
pub found_stays : (k k' : Known) (component place key until : ℕ) (o : Option Entry) → Looks k k' → IsSearchable k component place
    → o ≡ first_below (run_at k' place) key until → o ≡ first_below (run_at k place) key until
found_stays k k' component place key until o looks run is = is ∙ ap (λ (es : List Entry). first_below es key until) (run_stays k k' component place looks run)

-- ---- entries

entries_stay : (k k' : Known) (component place i n : ℕ) → Looks k k' → IsSearchable k component place
    → entries_from (row_of k') place i n ≡ entries_from (row_of k) place i n
entries_stay k k' component place i zero looks run = refl
entries_stay k k' component place i (suc n) looks run =
    let first = entry_in_stays k k' component place i looks run in
    let rest = entries_stay k k' component place (i + 1) n looks run in
    cc (first, rest)

pub rest_stays : (k k' : Known) (component place i : ℕ) → Looks k k' → IsSearchable k component place
    → rest_from (row_of k') place (count_of k' place) i ≡ rest_from (row_of k) place (count_of k place) i
rest_stays k k' component place i looks run =
    ap (λ (n : ℕ). entries_from (row_of k') place i (n - i)) (place_stays k k' component place looks run).count
    ∙ entries_stay k k' component place i (count_of k place - i) looks run

-- where it stood after looks it stood before
pub side_stays : (k k' : Known) (component place entry key until : ℕ) (side : Side) → Looks k k' → IsSearchable k component place
    → IsSide (row_of k') place entry key until side → IsSide (row_of k) place entry key until side
side_stays k k' component place entry key until (Before found) looks run is =
    subst (ComesEarlier key until) (entry_in_stays k k' component place entry looks run) is
side_stays k k' component place entry key until (Hit spelled) looks run is =
    let w = (place_stays k k' component place looks run).words entry in
    (sym (w 0) ∙ is.0, sym (w 1) ∙ is.1, subst (λ (e : Entry). e.time < until) (entry_in_stays k k' component place entry looks run) is.2)
side_stays k k' component place entry key until (Behind found) looks run is =
    subst (λ (x : ℕ). key < x) ((place_stays k k' component place looks run).words entry 0) is

-- What stays of a walk along the ordered list of an epoch, or along a run.
use Rattle.std.specs.Prelude.{◌≡◌, ℕ, ◌+◌, ◌-◌, ◌%◌, ◌<◌, ◌≤◌, List, Option, Some, None, refl}
use Rattle.std.proofs.Common.{ap, ◌∙◌, arith, subst, sym}
use Rattle.clsm_model.specs.declared.slot.Slot.{Slot}
use Rattle.clsm_levels.specs.declared.entry.Entry.{Entry}
use Rattle.clsm_levels.specs.Entry.{entries_of, first_below}
use Rattle.clsm_law.specs.declared.layout.Layout.{Layout}
use Rattle.clsm_law.specs.declared.view.View.{View}
use Rattle.clsm_words.specs.declared.known.Known.{Known}
use Rattle.clsm_words.specs.declared.known.Spot.{Spot}
use Rattle.clsm_words.specs.Keeping.{Looks}
use Rattle.clsm_search.specs.declared.list.Epoch.{Epoch}
use Rattle.clsm_search.specs.Ordering.{IsSpotOf, MayWalk, StandsAt, found_in_epoch, time_at}
use Rattle.clsm_search.specs.Searching.{slot_in, value_in}
use Rattle.clsm_search.specs.Staying.{slot_stays}
use Rattle.clsm_search.proofs.Orders.{lead_after, lead_fewer, spot_after}
use Rattle.clsm_runs.specs.declared.passing.Passed.{Passed}
use Rattle.clsm_runs.specs.Passing.{IsPassed, passed_entry}
use Rattle.clsm_runs.specs.Searching.{IsSearchable, run_at}
use Rattle.clsm_runs.specs.Staying.{entry_in_stays, has_stays, place_stays}
use Rattle.clsm_runs.proofs.Looking.{run_stays}

-- looks leave what is found in the epoch
pub found_on : (k k' : Known) (e : Epoch) → Looks k k' → (key : ℕ) → found_in_epoch k' e key ≡ found_in_epoch k e key
found_on k k' e looks key = ap (λ (slots : List Slot). first_below (entries_of slots e.first e.until) key e.until) looks.past

-- and where the walk stands
pub stands_on : (k k' : Known) (e : Epoch) (from : ℕ) (ahead : Option Spot) → Looks k k' → MayWalk k e → StandsAt k e from ahead → StandsAt k' e from ahead
stands_on k k' e from ahead looks may stands = lead_after k k' e looks may (λ t key. from ≤ key) (λ t key. from ≤ key) ahead (λ t key w le. le) stands

-- it stands there for a later key too
pub stands_later : (k : Known) (e : Epoch) (from later : ℕ) (ahead : Option Spot) → from ≤ later → StandsAt k e from ahead → StandsAt k e later ahead
stands_later k e from later ahead le stands =
    lead_fewer k e (λ t key. from ≤ key) (λ t key. later ≤ key) ahead (λ t key w (le' : later ≤ key). omega arith) stands

-- ---- what a walk came by

-- the spot is a write of the epoch below its `until`
pub record IsWriteAt (k : Known) (e : Epoch) (spot : Spot) : Type 0 where
  pub is : IsSpotOf k e spot
  pub below : time_at k e spot.place < e.until

-- the write at the spot, if there is one
abbrev pub spot_entry : Known → Epoch → Option Spot → Option Entry
spot_entry k e None = None
spot_entry k e (Some spot) = Some (record { key = spot.key; time = time_at k e spot.place; value = value_in (slot_in k (time_at k e spot.place)) })

time_same : (k k' : Known) (e : Epoch) (place : ℕ) → Looks k k' → time_at k' e place ≡ time_at k e place
time_same k k' e place looks = ap (λ (z : Layout). e.first + (place - 1) % z.cells) looks.reads.seat.layout

-- looks leave both
pub write_on : (k k' : Known) (e : Epoch) (spot : Spot) → Looks k k' → MayWalk k e → IsWriteAt k e spot → IsWriteAt k' e spot
write_on k k' e spot looks may is = record {
  is = spot_after k k' e looks may spot is.is;
  below = subst (λ (t : ℕ). t < e.until) (sym (time_same k k' e spot.place looks)) is.below;
}

pub spot_same : (k k' : Known) (e : Epoch) (o : Option Spot) → Looks k k' → spot_entry k' e o ≡ spot_entry k e o
spot_same k k' e None looks = refl
spot_same k k' e (Some spot) looks =
    ap (λ (t : ℕ). Some (record { key = spot.key; time = t; value = value_in (slot_in k' t) })) (time_same k k' e spot.place looks)
    ∙ ap (λ (v : Slot). Some (record { key = spot.key; time = time_at k e spot.place; value = value_in v })) (slot_stays k k' (time_at k e spot.place) looks)

-- ---- and of a run

-- looks leave what is found in it
pub found_in_run_on : (k k' : Known) (component place until : ℕ) → Looks k k' → IsSearchable k component place → (key : ℕ)
    → first_below (run_at k' place) key until ≡ first_below (run_at k place) key until
found_in_run_on k k' component place until looks run key =
    ap (λ (es : List Entry). first_below es key until) (run_stays k k' component place looks run)

-- and what a passage came by
pub run_on : (k k' : Known) (component place : ℕ) → Looks k k' → IsSearchable k component place → IsSearchable k' component place
run_on k k' component place looks run = record { held = ap (λ (v : View). v.held) looks.reads.view ∙ run.held; named = run.named }

pub passed_on : (k k' : Known) (component place : ℕ) (passed : Passed) → Looks k k' → IsPassed k component place passed → IsPassed k' component place passed
passed_on k k' component place passed looks is =
    let same = place_stays k k' component place looks is.has.run in
    record {
      has = has_stays k k' component place passed.number looks is.has;
      key = same.words passed.number 0 ∙ is.key;
    }

pub passed_same : (k k' : Known) (component place : ℕ) (o : Option Passed) → Looks k k' → IsSearchable k component place
    → passed_entry k' place o ≡ passed_entry k place o
passed_same k k' component place None looks run = refl
passed_same k k' component place (Some passed) looks run = ap (λ (e : Entry). Some e) (entry_in_stays k k' component place passed.number looks run)

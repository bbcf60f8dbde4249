-- What the rule says of the merger's seat, the seat knows.
use Rattle.std.proofs.Common.{◌≡◌, ℕ, ◌+◌, ◌*◌, ◌<◌, ◌≤◌, true, false, Bool, cond, List, length, get_or, map, refl, sym, ap, ◌∙◌, subst, arith, Some}
use Rattle.atomic_table.specs.Table.{State}
use Rattle.clsm_model.specs.declared.slot.Slot.{Slot}
use Rattle.clsm_model.specs.declared.slot.Slot.TheVariants.{Nothing}
use Rattle.clsm_model.specs.History.{plain}
use Rattle.clsm_levels.specs.Content.{AgreeBelow}
use Rattle.clsm_law.specs.declared.word.Word.TheVariants.{Clock}
use Rattle.clsm_law.specs.declared.step.Step.{Step}
use Rattle.clsm_law.specs.declared.merger.MergerView.{MergerView}
use Rattle.clsm_law.specs.Memory.{is_word}
use Rattle.clsm_law.specs.Layout.{memory}
use Rattle.clsm_law.specs.Merging.{is_frozen, epoch_end, IsOpenToMerger, word_of_merger}
use Rattle.clsm_law.specs.Worlds.{history_of, outcome_at, facts_of}
use Rattle.clsm_law.specs.Law.{AreRuns}
use Rattle.clsm_law.specs.Deciding.{IsMergeable}
use Rattle.clsm_law.specs.Machine.{WorldState}
use Rattle.clsm_law.proofs.Cases.{by_bool}
use Rattle.clsm_law.proofs.Runs.Kept.{runs_stay}
use Rattle.clsm_law.proofs.Runs.Merging.{lawful_is_mergeable}
use Rattle.clsm_law.proofs.Setting.{Ground, OpensTo, clock_below, clock_merger}
use Rattle.clsm_law.proofs.Stepping.Stepped.{lawful_ground}
use Rattle.clsm_law.proofs.Stepping.Words.{word_there'}
use Rattle.clsm_words.specs.declared.known.Known.{Known}
use Rattle.clsm_words.specs.Knowing.{row_of}
use Rattle.clsm_words.specs.Merging.{OpensToMerger, known_end, IsSoundMerger, IsListed}
use Rattle.clsm_words.specs.Ruled.{world_of, IsMerging, Ruled, frozen_times}
use Rattle.clsm_words.proofs.Beginnings.{begins_at, begins_bound, begins_settled}
use Rattle.clsm_words.proofs.Listed.{times_few, times_inside, times_standing, times_rise}
use Rattle.clsm_words.proofs.MergerFacts.{same_places, open_known, free_if_frozen}

-- all merged epochs are known
merged_known : (exclusive frozen : Bool) (merged n clock past : ℕ) → merged * n ≤ clock
    → cond exclusive clock (cond frozen ((merged + 1) * n) (merged * n)) ≤ past → merged * n ≤ past
merged_known true frozen merged n clock past begun reaches = omega arith
merged_known false true merged n clock past begun reaches = omega arith
merged_known false false merged n clock past begun reaches = reaches

module _ (s : State ℕ Known) (k : Known) (r : Ruled k.layout s) (ok : IsMerging k.layout s.words r.merger r.slots r.lawful.orders k) where
  abbrev pub world : WorldState
  world = world_of k.layout s.words r.views r.merger r.slots r.batches

  abbrev pub setting : Ground
  setting = lawful_ground world r.lawful

  -- a step that is open to what the merger knows is open to it by the world's facts, and by what it
  -- knows with the world's view
  pub open_by_row : (step : Step) → OpensToMerger k step → IsOpenToMerger k.layout
      (facts_of k.layout (row_of k) r.merger (map (λ slot. Some slot) k.past)) r.merger step
  open_by_row step o = subst (λ (m : MergerView). IsOpenToMerger k.layout (facts_of k.layout (row_of k) m (map (λ slot. Some slot) k.past)) m step) ok.view o

  pub open_there : (step : Step) → OpensToMerger k step → OpensTo setting step
  open_there step o = open_known setting (row_of k) k.past ok.row ok.past ok.reaches step (open_by_row step o)

  past_agrees : AgreeBelow (r.merger.merged * k.layout.cells) (history_of r.slots) (plain k.past)
  past_agrees t lt =
      let enough = merged_known r.merger.exclusive (is_frozen r.merger.phase) r.merger.merged k.layout.cells (length r.slots) (length k.past)
      (let a = r.lawful.law.begun in let b = clock_below setting in omega arith) ok.reaches in
      begins_settled r.slots k.past ok.past t (omega arith)

  runs_known : AreRuns k.layout (row_of k) (plain k.past) r.merger.merged r.merger.merged_floor
  runs_known = runs_stay k.layout (memory k.layout s.words) (row_of k) (history_of r.slots) (plain k.past) r.merger.merged r.merger.merged_floor past_agrees
      (λ p _. same_places setting (row_of k) k.past ok.row ok.past ok.reaches p) r.lawful.law.runs

  mergeable : IsMergeable k.layout k.row r.merger
  mergeable = record {
    size = ok.sized;
    small = (lawful_is_mergeable k.layout s.words r.views r.merger r.slots r.batches r.lawful.chains r.lawful.orders r.lawful.size r.lawful.law).small;
    counts = runs_known.counts;
    falls = runs_known.content.falls;
    older = runs_known.content.older;
  }

  -- in a hold of the lock the clock that it knows is the clock
  clock_known : r.merger.exclusive ≡ true → row_of k Clock ≡ length r.slots
  clock_known e = ok.row Clock e ∙ clock_merger setting e

  reaches_known : known_end k.layout r.merger (row_of k Clock) ≤ length k.past
  reaches_known = by_bool (λ b. (r.merger.exclusive ≡ b → cond b (row_of k Clock)
      (cond (is_frozen r.merger.phase) (epoch_end k.layout r.merger) (r.merger.merged * k.layout.cells)) ≤ length k.past)) r.merger.exclusive
      (λ held _. let e = clock_known held in let all : length r.slots ≤ length k.past = subst
      (λ (b : Bool). cond b (length r.slots) (cond (is_frozen r.merger.phase) (epoch_end k.layout r.merger) (r.merger.merged * k.layout.cells)) ≤ length
      k.past) held ok.reaches in omega arith)
      (λ free _. subst (λ (b : Bool). cond b (length r.slots) (cond (is_frozen r.merger.phase) (epoch_end k.layout r.merger)
      (r.merger.merged * k.layout.cells)) ≤ length k.past) free ok.reaches) refl

  all_known : r.merger.exclusive ≡ true → length k.past ≡ row_of k Clock
  all_known e =
      let clock = clock_known e in
      let all : length r.slots ≤ length k.past =
      subst (λ (b : Bool). cond b (length r.slots) (cond (is_frozen r.merger.phase) (epoch_end k.layout r.merger)
      (r.merger.merged * k.layout.cells)) ≤ length k.past) e ok.reaches in
      let bound = begins_bound r.slots k.past ok.past in omega arith

  -- while an epoch is frozen its times are known, and the trail is its list
  end_known : is_frozen r.merger.phase ≡ true → epoch_end k.layout r.merger ≤ length k.past
  end_known frozen = let free = free_if_frozen setting (row_of k) k.past ok.row ok.past ok.reaches frozen in
      subst (λ (n : ℕ). n ≤ length k.past) (rw (free, frozen) refl) ok.reaches

  listed_there : is_frozen r.merger.phase ≡ true → IsListed (record k { merger = r.merger; trail = frozen_times k.layout r.merger r.lawful.orders })
  listed_there frozen =
      let end = end_known frozen in
      let bound = begins_bound r.slots k.past ok.past in
      let known : (t : ℕ) → t < epoch_end k.layout r.merger → outcome_at r.slots t ≡ Some (get_or k.past t Nothing) =
      λ t lt. begins_at r.slots k.past ok.past t (omega arith) in
      record {
        few = times_few setting frozen;
        inside = times_inside setting frozen;
        standing = λ t i key written from until is. times_standing setting frozen t i key written from until (known t until ∙ ap (λ (a : Slot). Some a) is);
        rise = times_rise setting frozen k.past known (omega arith);
      }

  listed_of : is_frozen r.merger.phase ≡ true → IsListed k
  listed_of frozen = subst (λ (y : MergerView × List ℕ). IsListed (record k { merger = y.0; trail = y.1 })) (λ i. (sym ok.view i, sym (ok.trail frozen) i))
      (listed_there frozen)

  pub sound_merger : k.merges ≡ true → IsSoundMerger k
  sound_merger merges = record {
    merges = merges;
    there = λ step o. subst (λ (m : MergerView). is_word k.layout (word_of_merger k.layout m step) ≡ true) (sym ok.view)
        (word_there' setting step (open_there step o));
    seats = subst (λ (m : MergerView). length m.readers ≡ k.layout.seats) (sym ok.view) r.lawful.law.merger.seats;
    reaches = subst (λ (m : MergerView). known_end k.layout m (row_of k Clock) ≤ length k.past) (sym ok.view) reaches_known;
    clock = λ e. all_known (sym (ap (λ (m : MergerView). m.exclusive) ok.view) ∙ e);
    mergeable = subst (IsMergeable k.layout k.row) (sym ok.view) mergeable;
    runs = subst (λ (m : MergerView). AreRuns k.layout (row_of k) (plain k.past) m.merged m.merged_floor) (sym ok.view) runs_known;
    floors = subst (λ (m : MergerView). m.merged_floor ≤ m.floor) (sym ok.view) r.lawful.law.floors.merged;
    short = λ t i key written lt e. r.lawful.law.short t i key written (begins_at r.slots k.past ok.past t lt ∙ ap (λ (a : Slot). Some a) e);
    listed = λ frozen. listed_of (ap (λ (m : MergerView). is_frozen m.phase) (sym ok.view) ∙ frozen);
  }

-- What a reader finds in a lawful world: the history's value.
use Rattle.std.proofs.Common.{◌≡◌, ℕ, zero, suc, ◌+◌, ◌-◌, ◌*◌, ◌%◌, ◌<◌, ◌≤◌, not, Bool, true, false, cond, nat_lt, min, List, length, sym, refl, ap, ◌∙◌}
use Rattle.std.proofs.Common.{subst, arith, inl, inr, ⊎_elim, Option, Some, None, eq-eqb}
use Rattle.std.proofs.lemmas.Bool.{cases_lt, lt-ltb, le-ltb, and_parts}
use Rattle.std.proofs.lemmas.Nat.{mod_below}
use Rattle.std.proofs.lemmas.List.{get_or_past}
use Rattle.std.proofs.Math.Nat.{mul-le-mul_right}
use Rattle.clsm_law.specs.declared.view.View.{View}
use Rattle.clsm_model.specs.declared.slot.Slot.{Slot}
use Rattle.clsm_model.specs.declared.slot.Slot.TheVariants.{Nothing, Wrote}
use Rattle.clsm_model.specs.History.{History, Write, write_of, or_else, newest, left_by, value, slot_at as slot_of}
use Rattle.clsm_levels.specs.Entry.{value_of}
use Rattle.clsm_levels.specs.Run.{first_in_runs}
use Rattle.clsm_levels.proofs.Exactness.{first_in_runs-above}
use Rattle.clsm_law.specs.declared.layout.Layout.{Layout}
use Rattle.clsm_law.specs.declared.view.SnapshotState.{SnapshotState}
use Rattle.clsm_law.specs.declared.view.SnapshotState.TheVariants.{Absent, Noted, Timed, Open}
use Rattle.clsm_law.specs.Memory.{Memory, cell_of, region_of, link_of, key_at}
use Rattle.clsm_law.specs.Views.{or_zero}
use Rattle.clsm_law.specs.OpenSteps.{open_time}
use Rattle.clsm_law.specs.Merging.{is_retired, is_all_quiet}
use Rattle.clsm_law.specs.Worlds.{outcome_at, history_of, runs_of}
use Rattle.clsm_law.specs.Law.{In, Leads, Rising, Shows, AreRuns, IsSnapshot, IsRetiredFor, each, place_of_time}
use Rattle.clsm_law.specs.Law.{is_held_back, first_shown}
use Rattle.clsm_law.specs.Reading.{write_at, newest_among, chain_of, newest_in, left_or, read, AnswersFrom, SnapshotsRead, HoldersRead, IsWalkOf, OrdersRead}
use Rattle.clsm_law.specs.declared.word.Word.TheVariants.{Clock}
use Rattle.clsm_law.specs.Machine.{WorldState, IsLawful, memory_of}
use Rattle.clsm_law.proofs.Cases.{by_test}
use Rattle.clsm_law.proofs.Clock.Times.{region_of_epoch}
use Rattle.clsm_law.proofs.Records.Histories.{settle, slot_of-history}
use Rattle.clsm_law.proofs.Setting.{Ground, clock_live, shown_below_merged, past_below, not_all_quiet, holder_below}
use Rattle.clsm_law.proofs.Stepping.Stepped.{lawful_ground}
use Rattle.clsm_law.proofs.Finding.Chains.{first_epoch, first_epoch_live, one_of_two, of_epoch, chain_found}
use Rattle.clsm_law.proofs.Finding.Orders.{order_found, order_own}
use Rattle.clsm_law.proofs.Finding.Writes.{write_shown, IsNewestOf, newest_among_is}

-- ---- the newest write of a history

-- the write of the key at a time of the history
abbrev pub write_in : History → ℕ → ℕ → Option Write
write_in h key t = write_of key t (slot_of h t)

-- where no write is from a on, the newest below s is the newest below a
pub newest_none : (h : History) (key a s : ℕ) → a ≤ s → ((t : ℕ) → a ≤ t → t < s → write_in h key t ≡ None) → newest h key s ≡ newest h key a
newest_none h key a zero le none = let same : 0 ≡ a = omega arith in ap (newest h key) same
newest_none h key a (suc t) le none = ⊎_elim
    (λ (lt : t < a). let same : suc t ≡ a = omega arith in ap (newest h key) same)
    (λ (ge : a ≤ t). ap (λ o. or_else o (newest h key t)) (none t ge (omega arith)) ∙ newest_none h key a t ge (λ u from until. none u from (omega arith)))
    (cases_lt t a)

-- a write behind which there is none is the newest
pub newest_some : (h : History) (key s : ℕ) (w : Write) → write_in h key w.time ≡ Some w → w.time < s
    → ((t : ℕ) → w.time < t → t < s → write_in h key t ≡ None) → newest h key s ≡ Some w
newest_some h key s w is lt none = newest_none h key (suc w.time) s (omega arith) (λ t from until. none t (omega arith) until)
    ∙ ap (λ o. or_else o (newest h key w.time)) is

-- ---- an epoch

module _ (g : Ground) (epoch key s : ℕ) (from : first_epoch g ≤ epoch) (shown : first_shown g.z g.merger ≤ epoch * g.z.cells) (until : s ≤ length g.slots) where
  abbrev h : History
  h = history_of g.slots

  abbrev chain : List ℕ
  chain = g.chains (epoch % 2) (key % g.z.chains)

  abbrev found : ℕ → Option Write
  found t = write_at g.z g.memory key s t

  module _ (begun : epoch * g.z.cells < s) where
    of_two : epoch ≤ first_epoch g + 1
    of_two = one_of_two g epoch from (omega arith)

    -- what is found at a time of the chain is the history's write, where the time is below s
    found_there : (t : ℕ) → In t chain → found t ≡ cond (nat_lt t s) (write_in h key t) None
    found_there t i =
        let own = of_epoch g epoch (key % g.z.chains) t from of_two i in
        let low = own.0 in
        write_shown g.z g.memory key s t (outcome_at g.slots t) (g.law.short t)
        (g.law.shown t (omega arith) (g.law.lies (epoch % 2) (key % g.z.chains) t i).drawn)
        ∙ ap (λ (a : Slot). cond (nat_lt t s) (write_of key t a) None) (sym (slot_of-history g.slots t))

    found_below : (t : ℕ) → In t chain → t < s → found t ≡ write_in h key t
    found_below t i lt = found_there t i ∙ ap (λ b. cond b (write_in h key t) None) (lt-ltb t s lt)

    -- a write of the key stands in the chain: so where none is found there, there is none
    quiet : (t : ℕ) → epoch * g.z.cells ≤ t → t < (epoch + 1) * g.z.cells → t < s → (In t chain → found t ≡ None) → write_in h key t ≡ None
    quiet t low high lt none = ap (write_of key t) (slot_of-history g.slots t) ∙ by_slot (outcome_at g.slots t) refl where
      by_slot : (o : Option Slot) → outcome_at g.slots t ≡ o → write_of key t (settle o) ≡ None
      by_slot None is = refl
      by_slot (Some Nothing) is = refl
      by_slot (Some (Wrote i k written)) is = let write : Write = record { time = t; value = written } in by_test (λ b. cond b (Some write) None ≡ None) k key
          (λ e.
          let stands : In t (g.chains (region_of g.z (cell_of g.z t)) (k % g.z.chains)) = g.law.standing t i k written (omega arith) is in
          let there : In t chain = subst (λ (r : ℕ). In t (g.chains r (key % g.z.chains))) (region_of_epoch g.z epoch t low high)
          (subst (λ (j : ℕ). In t (g.chains (region_of g.z (cell_of g.z t)) (j % g.z.chains))) e stands) in
          ap (λ b. cond b (Some write) None) (sym (eq-eqb k key e))
          ∙ ap (λ (o : Option Slot). write_of key t (settle o)) (sym is)
          ∙ ap (write_of key t) (sym (slot_of-history g.slots t)) ∙ sym (found_below t there lt) ∙ none there)
          (λ _. refl)

    -- the newest in the chain is the newest of the epoch below s
    newest_found : (o : Option Write) → IsNewestOf found chain o → newest h key (min s ((epoch + 1) * g.z.cells)) ≡ or_else o (newest h key (epoch * g.z.cells))
    newest_found None is = newest_none h key (epoch * g.z.cells) (min s ((epoch + 1) * g.z.cells)) (omega arith)
        (λ t low lt. quiet t low (omega arith) (omega arith) (is t))
    newest_found (Some w) is =
        let own = of_epoch g epoch (key % g.z.chains) w.time from of_two is.0 in
        let low = own.0 in
        let high = own.1 in
        let it : cond (nat_lt w.time s) (write_in h key w.time) None ≡ Some w = sym (found_there w.time is.0) ∙ is.1 in
        ⊎_elim
        (λ (lt : w.time < s). newest_some h key (min s ((epoch + 1) * g.z.cells)) w
        (ap (λ b. cond b (write_in h key w.time) None) (sym (lt-ltb w.time s lt)) ∙ it) (omega arith)
        (λ t later below. quiet t (omega arith) (omega arith) (omega arith) (λ i. is.2 t i later)))
        (λ (le : s ≤ w.time). absurd (let none : None ≡ Some w = ap (λ b. cond b (write_in h key w.time) None) (sym (le-ltb w.time s le)) ∙ it in cc))
        (cases_lt w.time s)

    in_chain : newest_in g.z g.memory epoch key s ≡ newest_among g.z g.memory chain key s
    in_chain = ap (λ b. cond b (newest_among g.z g.memory (chain_of g.z g.memory epoch key) key s) None) (lt-ltb (epoch * g.z.cells) s begun)
        ∙ ap (λ (l : List ℕ). newest_among g.z g.memory l key s) (chain_found g epoch key from of_two)

  -- the search of an epoch finds the newest write below s, or else that is the one below the epoch
  epoch_read : newest h key (min s ((epoch + 1) * g.z.cells)) ≡ or_else (newest_in g.z g.memory epoch key s) (newest h key (min s (epoch * g.z.cells)))
  epoch_read = ⊎_elim
      (λ (begun : epoch * g.z.cells < s).
      let least : epoch * g.z.cells ≡ min s (epoch * g.z.cells) = omega arith in
      newest_found begun (newest_among g.z g.memory chain key s) (newest_among_is g.z g.memory key s chain)
      ∙ ap (λ (o : Option Write). or_else o (newest h key (epoch * g.z.cells))) (sym (in_chain begun))
      ∙ ap (λ (n : ℕ). or_else (newest_in g.z g.memory epoch key s) (newest h key n)) least)
      (λ (le : s ≤ epoch * g.z.cells).
      let same : min s ((epoch + 1) * g.z.cells) ≡ min s (epoch * g.z.cells) = omega arith in
      ap (newest h key) same ∙ ap (λ b. or_else (cond b (newest_among g.z g.memory (chain_of g.z g.memory epoch key) key s) None)
      (newest h key (min s (epoch * g.z.cells)))) (sym (le-ltb (epoch * g.z.cells) s le)))
      (cases_lt (epoch * g.z.cells) s)

-- ---- a component

left_by_or : (o p : Option Write) → left_by (or_else o p) ≡ left_or o (left_by p)
left_by_or None p = refl
left_by_or (Some w) p = refl

-- what the runs answer for a time above them is what they answer at their end
pub runs_read : (z : Layout) (memory : Memory) (h : History) (component floor key s : ℕ) → AreRuns z memory h component floor → floor ≤ component * z.cells
    → floor ≤ s → value_of (first_in_runs (runs_of memory component) key s) ≡ value h key (min s (component * z.cells))
runs_read z memory h component floor key s runs below from = ⊎_elim
    (λ (lt : component * z.cells < s). let least : component * z.cells ≡ min s (component * z.cells) = omega arith in
    ap value_of (first_in_runs-above (runs_of memory component) key (component * z.cells) s runs.content.older (omega arith))
    ∙ runs.content.exact key (component * z.cells) below (omega arith) ∙ ap (value h key) least)
    (λ (le : s ≤ component * z.cells). let least : s ≡ min s (component * z.cells) = omega arith in
    runs.content.exact key s from le ∙ ap (value h key) least)
    (cases_lt (component * z.cells) s)

-- a component whose epochs are live and shown is read right from the floor of its runs on
component_read : (g : Ground) (component floor key s : ℕ) → first_epoch g ≤ component → first_shown g.z g.merger ≤ component * g.z.cells
    → AreRuns g.z g.memory (history_of g.slots) component floor → floor ≤ component * g.z.cells
    → floor ≤ s → s ≤ length g.slots → read g.z g.memory component key s ≡ value (history_of g.slots) key s
component_read g component floor key s live shown runs below from until =
    let h = history_of g.slots in
    let n = g.z.cells in
    let window : s ≤ (component + 1 + 1) * n = let a : first_epoch g * n ≤ component * n = mul-le-mul_right n live in let b = clock_live g in let c =
    first_epoch_live g in omega arith in
    let all : s ≡ min s ((component + 1 + 1) * n) = omega arith in
    let new = newest_in g.z g.memory (component + 1) key s in
    let old = newest_in g.z g.memory component key s in
    let first : newest h key s ≡ or_else new (newest h key (min s ((component + 1) * n))) = ap (newest h key) all
    ∙ epoch_read g (component + 1) key s (omega arith) (omega arith) until in
    let second : newest h key (min s ((component + 1) * n)) ≡ or_else old (newest h key (min s (component * n))) =
    epoch_read g component key s live shown until in
    ap (λ (v : Option (List ℕ)). left_or new (left_or old v)) (runs_read g.z g.memory h component floor key s runs below from)
    ∙ ap (left_or new) (sym (left_by_or old (newest h key (min s (component * n)))) ∙ ap left_by (sym second))
    ∙ sym (left_by_or new (newest h key (min s ((component + 1) * n)))) ∙ ap left_by (sym first)

-- ---- the components of a lawful world

newest_live : (g : Ground) → first_epoch g ≤ g.merger.merged
newest_live g = elim (is_retired g.merger.phase) as (λ b. cond b (g.merger.merged - 1) g.merger.merged ≤ g.merger.merged) [
  | true ↦ omega arith
  | false ↦ omega arith
]

-- In a lawful world a search of the component finds the history's value, at each time from the
-- floor to the clock.
pub read_right : (g : Ground) (component floor key s : ℕ) → AnswersFrom g.merger component floor → floor ≤ s → s ≤ length g.slots
    → read g.z g.memory component key s ≡ value (history_of g.slots) key s
read_right g component floor key s (inl newest) from until =
    let f = newest.1 in
    subst (λ (c : ℕ). read g.z g.memory c key s ≡ value (history_of g.slots) key s) (sym newest.0)
    (component_read g g.merger.merged g.merger.merged_floor key s (newest_live g) (shown_below_merged g) g.law.runs g.law.floors.below_merged
    (omega arith) until)
read_right g component floor key s (inr retired) from until =
    let f = retired.2 in
    let back = retired.0 in
    let former : g.merger.merged - 1 ≡ component = let a = retired.1 in omega arith in
    let phase : is_retired g.merger.phase ≡ true = (and_parts (is_retired g.merger.phase) (not (is_all_quiet g.merger.readers)) back).0 in
    subst (λ (c : ℕ). read g.z g.memory c key s ≡ value (history_of g.slots) key s) former
    (component_read g (g.merger.merged - 1) g.merger.former_floor key s (rw phase (omega arith)) (rw back (omega arith))
    (g.law.former_runs back) g.law.floors.below_former (omega arith) until)

-- ---- the seats of a lawful world

-- the time of an open snapshot is from the floor to the seat's past
open_within : (floor clock past s : ℕ) (pinned : Bool) (snapshot : SnapshotState) → IsSnapshot floor clock past pinned snapshot → open_time snapshot
    ≡ Some s → (floor ≤ s) × (s ≤ past)
open_within floor clock past s pinned Absent is e = absurd cc
open_within floor clock past s pinned (Noted b) is e = absurd cc
open_within floor clock past s pinned (Timed b t) is e = absurd cc
open_within floor clock past s pinned (Open b t) is e = let same : t ≡ s = ap or_zero e in (let a = is.1 in omega arith, let a = is.2 in omega arith)

pub snapshots_read : (w : WorldState) → IsLawful w → SnapshotsRead w
snapshots_read w l i s timed key =
    let g = lawful_ground w l in
    let within = open_within w.merger.floor (memory_of w Clock) _ s _ _ (l.law.snapshots i) timed in
    let low = within.0 in
    let high = within.1 in
    let floor = l.law.floors.merged in
    let past = past_below g i in
    read_right g w.merger.merged w.merger.merged_floor key s (inl (refl, refl)) (omega arith) (omega arith)

-- a held component answers from the floor of its runs on
held_answers : (g : Ground) (i c : ℕ) → each g.z View.held g.views i ≡ Some c → (floor : ℕ) × AnswersFrom g.merger c floor × (floor ≤ g.merger.merged_floor)
    × (floor ≤ c * g.z.cells)
held_answers g i c e = ⊎_elim
    (λ (newest : c ≡ g.merger.merged). (
      g.merger.merged_floor,
      (inl (newest, refl)),
      omega arith,
      let a = g.law.floors.below_merged in
          subst (λ (k : ℕ). g.merger.merged_floor ≤ k * g.z.cells) (sym newest) a,
    ))
    (λ (r : IsRetiredFor g.merger i (each g.z View.pin g.views i) c).
    let loud : is_all_quiet g.merger.readers ≡ false = not_all_quiet g.merger.readers i
    (let a = g.law.merger.seats in let b = g.law.seated in let d = holder_below g i c e in omega arith) r.loud in
    let back : is_held_back g.merger ≡ true = rw (r.retired, loud) refl in
    let before : g.merger.merged - 1 ≡ c = let a = r.before in omega arith in (
      g.merger.former_floor,
      (inr (back, r.before, refl)),
      g.law.floors.former,
      let a = g.law.floors.below_former in
          subst (λ (k : ℕ). g.merger.former_floor ≤ k * g.z.cells) before a,
    ))
    (g.law.held i c e).1

pub holders_read : (w : WorldState) → IsLawful w → HoldersRead w
holders_read w l i component s holds at key =
    let g = lawful_ground w l in
    let answers = held_answers g i component holds in
    let before = answers.2 in
    let begun = answers.3 in
    let past = past_below g i in
    ⊎_elim
    (λ (timed : open_time (each w.layout View.snapshot w.views i) ≡ Some s).
    let within = open_within w.merger.floor (memory_of w Clock) _ s _ _ (l.law.snapshots i) timed in
    let low = within.0 in
    let high = within.1 in
    let floor = l.law.floors.merged in
    read_right g component answers.0 key s answers.1 (omega arith) (omega arith))
    (λ (known : (component * w.layout.cells ≤ s) × (s ≤ each w.layout View.past w.views i)).
    let low = known.0 in
    let high = known.1 in
    read_right g component answers.0 key s answers.1 (omega arith) (omega arith))
    at

-- ---- ordered lists

-- the epochs of a component that answers are live, and shown
answers_live : (g : Ground) (c floor : ℕ) → AnswersFrom g.merger c floor → (first_epoch g ≤ c) × (c ≤ first_epoch g + 1)
    × (first_shown g.z g.merger ≤ c * g.z.cells)
answers_live g c floor (inl newest) = subst (λ (k : ℕ). (first_epoch g ≤ k) × (k ≤ first_epoch g + 1) × (first_shown g.z g.merger ≤ k * g.z.cells))
    (sym newest.0) (newest_live g, newest_near g, shown_below_merged g)
  where
    newest_near : (g : Ground) → g.merger.merged ≤ first_epoch g + 1
    newest_near g = elim (is_retired g.merger.phase) as (λ b. g.merger.merged ≤ cond b (g.merger.merged - 1) g.merger.merged + 1) [
      | true ↦ omega arith
      | false ↦ omega arith
    ]
answers_live g c floor (inr retired) =
    let back = retired.0 in
    let former : g.merger.merged - 1 ≡ c = let a = retired.1 in omega arith in
    let phase : is_retired g.merger.phase ≡ true = (and_parts (is_retired g.merger.phase) (not (is_all_quiet g.merger.readers)) back).0 in
    subst (λ (k : ℕ). (first_epoch g ≤ k) × (k ≤ first_epoch g + 1) × (first_shown g.z g.merger ≤ k * g.z.cells)) former
    (rw phase (omega arith), rw phase (omega arith), rw back (omega arith))

-- a written time is drawn
written_drawn : (slots : List (Option Slot)) (t : ℕ) (slot : Slot) → outcome_at slots t ≡ Some slot → t < length slots
written_drawn slots t slot is = ⊎_elim (λ (lt : t < length slots). lt)
    (λ (le : length slots ≤ t). absurd (let none : outcome_at slots t ≡ None = get_or_past slots t None le in cc (none, is))) (cases_lt t (length slots))

-- the walk of a live and shown epoch
epoch_walked : (w : WorldState) (l : IsLawful w) (epoch : ℕ) → first_epoch (lawful_ground w l) ≤ epoch → epoch ≤ first_epoch (lawful_ground w l) + 1
    → first_shown w.layout w.merger ≤ epoch * w.layout.cells → IsWalkOf w epoch
epoch_walked w l epoch from until shown =
    let g = lawful_ground w l in
    let found = order_found g epoch in
    record {
      ends = subst (Leads (link_of g.memory (epoch % 2)) 0) (sym found) (g.law.ordered (epoch % 2) (mod_below epoch 2 (omega arith)));
      rises = subst (Rising (key_at g.memory)) (sym found) (g.law.sorted (epoch % 2));
      own = λ p i. order_own g epoch p from until (subst (In p) found i);
      writes = λ t i key written low high is. (
        subst (In (place_of_time g.z t)) (sym found) (subst (λ (r : ℕ). In (place_of_time g.z t) (g.orders r)) (region_of_epoch g.z epoch t low high)
            (g.law.entered t i key written (omega arith) is)),
        subst (Shows g.memory (cell_of g.z t)) is (g.law.shown t (omega arith) (written_drawn g.slots t (Wrote i key written) is)),
      );
    }

pub orders_read : (w : WorldState) → IsLawful w → OrdersRead w
orders_read w l i component epoch holds which =
    let g = lawful_ground w l in
    let answers = held_answers g i component holds in
    let live = answers_live g component answers.0 answers.1 in
    let from = live.0 in
    let past = past_below g i in
    ⊎_elim
    (λ (first : epoch ≡ component). subst (IsWalkOf w) (sym first) (epoch_walked w l component from live.1 live.2))
    (λ (second : (epoch ≡ component + 1) × (epoch * w.layout.cells < each w.layout View.past w.views i)).
    let next = second.0 in
    let begun = second.1 in
    let shown = live.2 in
    let after : component * w.layout.cells ≤ epoch * w.layout.cells = mul-le-mul_right w.layout.cells (omega arith) in
    epoch_walked w l epoch (omega arith) (one_of_two g epoch (omega arith) (omega arith)) (omega arith))
    which

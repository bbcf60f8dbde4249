-- A lawful world in which a seat in an exclusive hold of the lock takes the next time for its
-- batch: what a stage does before it fills the key.
use Rattle.std.proofs.Common.{◌≡◌, ◌≢◌, ℕ, ◌+◌, ◌-◌, ◌*◌, ◌<◌, ◌≤◌, true, false, cond, List, [], ◌∷◌, ◌++◌, length, set, sum_by, sym, refl, ap, ◌∙◌, subst}
use Rattle.std.proofs.Common.{arith, inl, inr, ⊎_elim, Option, Some, None, length-set, length-append, get_or-set_same}
use Rattle.std.specs.List.{AllByRecursion}
use Rattle.std.proofs.lemmas.Bool.{cases_lt}
use Rattle.clsm_model.specs.declared.slot.Slot.{Slot}
use Rattle.clsm_model.specs.Seats.{IsRightRecord}
use Rattle.clsm_law.specs.declared.word.Word.TheVariants.{Clock, Limit, Front, State}
use Rattle.clsm_law.specs.declared.step.Step.TheVariants.{Stage}
use Rattle.clsm_law.specs.declared.view.View.{View}
use Rattle.clsm_law.specs.declared.view.Mode.{Mode}
use Rattle.clsm_law.specs.declared.view.Mode.TheVariants.{Free, Exclusive}
use Rattle.clsm_law.specs.Memory.{cell_of, key_at}
use Rattle.clsm_law.specs.Views.{is_exclusive, idle}
use Rattle.clsm_law.specs.OpenSteps.{IsOpen, IsNextMember}
use Rattle.clsm_law.specs.Relation.{Before, taken}
use Rattle.clsm_law.specs.Merging.{is_frozen, epoch_end}
use Rattle.clsm_law.specs.Worlds.{outcome_at, past_of, open_past, history_of}
use Rattle.clsm_law.specs.Law.{each}
use Rattle.clsm_law.specs.Law.{taken_by, first_shown}
use Rattle.clsm_law.specs.Law.{AreFoundHeads}
use Rattle.clsm_law.specs.Law.{first_live, In, IsDecidedBelow, AreDecidedBelow, IsLockedOut, AreShort, Shows, AreShown, AreStanding, place_of_time}
use Rattle.clsm_law.specs.Law.{AreInOrder, IsMember, AreMembers, AreNotedBelow, AreLimits, ArePins, AreOdd, AreHeld, AreSnapshots, AreNotes, ArePassed}
use Rattle.clsm_law.specs.Law.{AreRight, AreRecordsStanding, AreRecorded, AreRising, AreAtMost, LawOf, AreRuns}
use Rattle.clsm_law.specs.Batches.{AreFitting, IsStaging, AreStaging, IsWritten, AreUncutNotes, AreUncutPasts, AreUncutSnapshots, AreUncut, AreListed}
use Rattle.clsm_law.proofs.Frames.{keep1, keep2, keep3, same_each, slots_grown, past_end}
use Rattle.clsm_law.proofs.Clock.Times.{apart}
use Rattle.clsm_law.proofs.Setting.{Setting, v, limit_live, live_below_shown, shown_below_merged, clock_below, none_taken, past_below, by_seat}
use Rattle.clsm_law.proofs.Records.Histories.{past-equal}
use Rattle.clsm_law.proofs.Lock.Found.{found_links_by}
use Rattle.clsm_law.proofs.Lock.Kept.{exclusive_free, same_count, sole_same, not_both, merger_unheld}
use Rattle.clsm_law.proofs.Clock.Kept.{counted, taken_undrawn, below_limit}
use Rattle.clsm_law.proofs.Drawn.Kept.{drew_pending, drew_owned, drew_alone, drew_filled, holding_by}
use Rattle.clsm_law.proofs.Chains.Kept.{lies_as, linked_by, loose_by}
use Rattle.clsm_law.proofs.Orders.Kept.{placed_as}
use Rattle.clsm_law.proofs.Orders.Inserted.{inserted_by, outside_by, leading_by}
use Rattle.clsm_law.proofs.Runs.Kept.{runs_stay, agree_below}

-- the seat may take the time
abbrev pub Stages : Setting → ℕ → ℕ → Type 0
Stages s t key = IsOpen s.z (open_past s.slots s.batches (v s).past) (v s) (Stage t key)

module _ (s : Setting) (t key : ℕ) (o : Stages s t key) where
  abbrev pub u : View
  u = taken (v s) t

  abbrev pub views' : List View
  views' = set s.views s.me u

  abbrev pub slots' : List (Option Slot)
  slots' = s.slots ++ None ∷ []

  -- no other seat holds the lock, nor does the merger
  free : s.merger.exclusive ≡ false
  free = exclusive_free s.ground s.me o.0

  not_free : (v s).mode ≢ Free
  not_free e = absurd (let alone = o.0 in cc)

  -- the time is the next one
  next : (c : Option ℕ) → (v s).hold_clock ≡ c → IsNextMember (v s) c t → t ≡ s.memory Clock + length (v s).staged
  next None e n = absurd n
  next (Some c) e n = let same = (s.law.staging s.me).same o.0 o.2 c e in omega arith

  -- of the times taken there are none but the seat's
  all_taken : sum_by taken_by s.views ≡ taken_by (v s)
  all_taken = let rest = counted s (record (v s) { mode = Free }) in let none =
      none_taken s.ground (set s.views s.me (record (v s) { mode = Free })) others in omega arith
    where
      others : (i : ℕ) → each s.z View.mode (set s.views s.me (record (v s) { mode = Free })) i ≢ Exclusive
      others = by_seat s (record (v s) { mode = Free }) (λ i y. y.mode ≢ Exclusive) (λ e. absurd cc)
          (λ i ne e. absurd (let other = s.law.sole s.me i o.0 ne in cc))

  pub at_end : length s.slots ≡ t
  at_end = let a = next (v s).hold_clock refl o.3 in let b = all_taken in let c = taken_undrawn s o.0 o.1 in let d = s.law.clock in omega arith

  below : t < s.memory Limit
  below = below_limit s t not_free o.4

  pub long : length slots' ≡ length s.slots + 1
  long = length-append s.slots (None ∷ [])

  -- the slots are as they were
  pub same : outcome_at slots' ≡ outcome_at s.slots
  same = slots_grown s.slots

  one : (f : View → ℕ) → f u ≡ f (v s) → each s.z f views' ≡ each s.z f s.views
  one f e = same_each s.z f s.views s.me u s.inside e

  -- the cell is empty
  blank_cell : s.memory (State (cell_of s.z t)) ≡ 0
  blank_cell = ⊎_elim (λ (e : s.memory (State (cell_of s.z t)) ≡ 0). e)
      (λ (p : (s.merger.padded ≡ true) × (t < (s.merger.merged + 1) * s.z.cells) × (s.memory (State (cell_of s.z t)) ≡ 1)). absurd
      (not_both (s.law.merger.pads p.0) free))
      (s.law.empty t (let a = at_end in omega arith) (let a = below in let b = limit_live s.ground in omega arith))

  shown_taken : AreShown s.z s.memory (first_shown s.z s.merger) (length slots') (outcome_at slots')
  shown_taken = keep1 (AreShown s.z s.memory (first_shown s.z s.merger) (length slots')) same
      (λ n from until. elim (cases_lt n (length s.slots)) [
        | inl old ↦ s.law.shown n from old
        | inr new ↦ let is : t ≡ n = let a = at_end in let l = long in omega arith in
            subst (λ (k : ℕ). Shows s.memory (cell_of s.z k) (outcome_at s.slots k)) is
            (subst (Shows s.memory (cell_of s.z t)) (sym (subst (λ (k : ℕ). outcome_at s.slots k ≡ None) at_end (past_end s.slots))) blank_cell)
      ])

  -- its place stands in no list
  outside_taken : (r : ℕ) → ¬ In (place_of_time s.z t) (s.orders r)
  outside_taken r i = let l = s.law.placed r (place_of_time s.z t) i in let c = at_end in let a = live_below_shown s.ground in let b =
      shown_below_merged s.ground in let d = s.law.begun in let e = clock_below s.ground in let f = limit_live s.ground in let g = below in
      let drawn = l.drawn in let place = l.place in
      let is : l.time ≡ t = apart s.z (first_live s.z s.merger) l.time t (record { from = l.live; until = omega arith })
      (record { from = omega arith; until = omega arith }) (omega arith) in omega arith

  members_taken : (f : View → ℕ) → f u ≡ f (v s) → AreMembers s.z (s.memory Limit) s.orders (each s.z View.mode s.views) (each s.z f s.views)
      → AreMembers s.z (s.memory Limit) s.orders (each s.z View.mode views') (each s.z f views')
  members_taken f e h = keep2 (AreMembers s.z (s.memory Limit) s.orders) (same_each s.z View.mode s.views s.me u s.inside refl)
      (same_each s.z f s.views s.me u s.inside e) h

  -- a place that is forgotten
  members_none : (f : View → ℕ) → f u ≡ 0 → AreMembers s.z (s.memory Limit) s.orders (each s.z View.mode s.views) (each s.z f s.views)
      → AreMembers s.z (s.memory Limit) s.orders (each s.z View.mode views') (each s.z f views')
  members_none f e h = by_seat s u (λ i y. f y ≢ 0 → IsMember s.z (s.memory Limit) s.orders y.mode (f y)) (λ ne. absurd (ne e))
      (λ i ne. h i)

  noted_taken : (f : View → Option ℕ) → f u ≡ f (v s) → AreNotedBelow (each s.z f s.views) (s.memory Clock) → AreNotedBelow (each s.z f views') (s.memory Clock)
  noted_taken f e h = keep1 (λ (g : ℕ → Option ℕ). AreNotedBelow g (s.memory Clock)) (same_each s.z f s.views s.me u s.inside e) h

  past_taken : (i : ℕ) → past_of slots' (each s.z View.past s.views i) ≡ past_of s.slots (each s.z View.past s.views i)
  past_taken i = let p = past_below s.ground i in let l = long in past-equal s.slots slots' (each s.z View.past s.views i) p (omega arith)
      (λ n lt k. same k n)

  right_taken : AreRight (λ i. past_of slots' (each s.z View.past views' i)) (each s.z View.calls views')
  right_taken = by_seat s u (λ i y. AllByRecursion (IsRightRecord (past_of slots' y.past)) y.calls)
      (subst (λ h. AllByRecursion (IsRightRecord h) (v s).calls) (sym (past_taken s.me)) (s.law.right s.me))
      (λ i ne. subst (λ h. AllByRecursion (IsRightRecord h) (each s.z View.calls s.views i)) (sym (past_taken i)) (s.law.right i))

  staging_taken : AreStaging (s.memory Clock) (outcome_at slots') (each s.z View.mode views') (each s.z View.drawn views') (each s.z View.staged views')
      (each s.z View.committed views') (each s.z View.hold_clock views')
  staging_taken = by_seat s u (λ i y. IsStaging (s.memory Clock) i
      (outcome_at slots') y.mode y.drawn y.staged y.committed y.hold_clock)
      (record {
        shut = λ ne. absurd (ne o.0);
        own = λ e n d. let is : t ≡ n = cc in let at = next (v s).hold_clock refl o.3 in
            (omega arith, (λ k. same k n) ∙ subst (λ (k : ℕ). outcome_at s.slots k ≡ None) (at_end ∙ is) (past_end s.slots));
        same = (s.law.staging s.me).same;
        members = λ n lt. let m = (s.law.staging s.me).members n lt in (m.0, (λ k. same k (s.memory Clock + n)) ∙ m.1);
      })
      (λ i ne. let h = s.law.staging i in record {
        shut = h.shut;
        own = λ e n d. let w = h.own e n d in (w.0, (λ k. same k n) ∙ w.1);
        same = h.same;
        members = λ n lt. let m = h.members n lt in (m.0, (λ k. same k (s.memory Clock + n)) ∙ m.1);
      })

  -- the runs stay
  runs_taken : (component floor : ℕ) → component * s.z.cells ≤ s.merger.merged * s.z.cells → AreRuns s.z s.memory (history_of s.slots) component floor
      → AreRuns s.z s.memory (history_of slots') component floor
  runs_taken component floor le = runs_stay s.z s.memory s.memory (history_of s.slots) (history_of slots') component floor
      (agree_below s.slots slots' (component * s.z.cells) (λ n lt. s.law.merged_decided n (omega arith)) (λ n b e. (λ k. same k n) ∙ e))
      (λ p e. record { count = refl; words = λ e i. refl })

  fewer : (m n : ℕ) → (m - 1) * n ≤ m * n
  fewer m n = grind arith

  pub taken_law : LawOf s.z s.memory views' s.merger slots' s.batches s.chains s.orders
  taken_law = let l = long in let e = at_end in let drawn_at = next (v s).hold_clock refl o.3 in record {
    seated = length-set s.views s.me u ∙ s.law.seated;
    lock = s.law.lock ∙ same_count s u refl;
    locked_out = keep1 (IsLockedOut s.merger.exclusive) (same_each s.z View.mode s.views s.me u s.inside refl) s.law.locked_out;
    sole = sole_same s u refl;
    merger = merger_unheld s (length slots') free;
    clock = let a = counted s u in let b = taken_undrawn s o.0 o.1 in let c : taken_by u ≡ length (v s).staged + 1 =
        ap (λ (m : Mode). cond (is_exclusive m) (length (v s).staged + 1) 0) o.0 in let d = s.law.clock in omega arith;
    limit = s.law.limit;
    begun = s.law.begun;
    bounded = let a = below in omega arith;
    current = s.law.current;
    top = s.law.top;
    merged = s.law.merged;
    holding = holding_by s u (λ n d. not_free);
    pending = drew_pending s t e;
    owned = drew_owned s t o.1 e;
    alone = drew_alone s t e;
    filled = drew_filled s t;
    front = keep1 (λ (f : ℕ → Option Slot). IsDecidedBelow f (s.memory Front)) same s.law.front;
    merged_decided = keep1 (λ (f : ℕ → Option Slot). IsDecidedBelow f (s.merger.merged * s.z.cells)) same s.law.merged_decided;
    short = keep1 AreShort same s.law.short;
    shown = shown_taken;
    empty = λ n from until. s.law.empty n (omega arith) until;
    chained = s.law.chained;
    lies = lies_as s s.memory (length slots') (omega arith) (λ r k n i. refl);
    once = s.law.once;
    standing = keep1 (λ (f : ℕ → Option Slot). AreStanding s.z (first_shown s.z s.merger) f s.chains) same s.law.standing;
    linked = linked_by s s.chains u (λ r k n i. i) (λ n d l. absurd cc);
    loose = loose_by s s.chains u (λ i n r k ne d m. m) (λ n d l r k i. let is : t ≡ n = cc in let b = (s.law.lies r k n i).drawn in omega arith);
    ordered = s.law.ordered;
    sorted = s.law.sorted;
    placed = placed_as s (length slots') (omega arith);
    entered = keep1 (λ (f : ℕ → Option Slot). AreInOrder s.z (first_shown s.z s.merger) f s.orders) same s.law.entered;
    inserted = inserted_by s s.orders u (λ r p i. i) (λ n d l. absurd cc);
    outside = outside_by s s.orders u (λ i n r ne d m. m)
        (λ n d l r. let is : t ≡ n = cc in subst (λ (k : ℕ). ¬ In (place_of_time s.z k) (s.orders r)) is (outside_taken r));
    leading = leading_by s s.memory u (λ i n ne d l. refl) (λ n w d l k. absurd cc);
    met = members_taken View.met refl s.law.met;
    lows = members_none View.low refl s.law.lows;
    highs = members_none View.high refl s.law.highs;
    lower = by_seat s u (λ i y. (n k : ℕ) → y.drawn ≡ Some n → y.key ≡ Some k → y.low ≢ 0
        → Before (key_at s.memory y.low) y.low k (place_of_time s.z n)) (λ n k d f. absurd cc) (λ i ne. s.law.lower i);
    higher = by_seat s u (λ i y. (n k : ℕ) → y.drawn ≡ Some n → y.key ≡ Some k → y.inserted ≡ false → y.high ≢ 0
        → Before k (place_of_time s.z n) (key_at s.memory y.high) y.high) (λ n k d f. absurd cc) (λ i ne. s.law.higher i);
    found_heads = keep2 (AreFoundHeads s.z s.memory (s.memory Limit)) (same_each s.z View.mode s.views s.me u s.inside refl)
        (same_each s.z View.fresh_heads s.views s.me u s.inside refl) s.law.found_heads;
    found_links = found_links_by s s.memory u (λ i ne e k. refl) (λ n found m d l look. absurd cc);
    limits = keep2 (λ (m : ℕ → Mode) (f : ℕ → Option ℕ). AreLimits m f (s.memory Limit)) (same_each s.z View.mode s.views s.me u s.inside refl)
        (same_each s.z View.hold_limit s.views s.me u s.inside refl) s.law.limits;
    fresh_clocks = by_seat s u (λ i y. (k : ℕ) → y.fresh_clock ≡ Some k → k ≤ s.memory Clock) (λ k f. absurd cc)
        (λ i ne. s.law.fresh_clocks i);
    hold_clocks = noted_taken View.hold_clock refl s.law.hold_clocks;
    clocks = noted_taken View.clock refl s.law.clocks;
    pin_clocks = noted_taken View.pin_clock refl s.law.pin_clocks;
    past = keep2 AreDecidedBelow same (one View.past refl) s.law.past;
    reached = keep2 AreDecidedBelow same (one View.reached refl) s.law.reached;
    front_clock = s.law.front_clock;
    past_clock = keep1 (λ (f : ℕ → ℕ). AreAtMost f (s.memory Clock)) (one View.past refl) s.law.past_clock;
    reached_clock = keep1 (λ (f : ℕ → ℕ). AreAtMost f (s.memory Clock)) (one View.reached refl) s.law.reached_clock;
    pins = keep1 (ArePins s.z s.memory) (one View.pin refl) s.law.pins;
    odd = keep2 AreOdd (one View.pin refl) (same_each s.z View.pinned s.views s.me u s.inside refl) s.law.odd;
    held = keep3 (AreHeld s.merger) (same_each s.z View.held s.views s.me u s.inside refl) (same_each s.z View.pinned s.views s.me u s.inside refl)
        (one View.pin refl) s.law.held;
    notes = keep1 (AreNotes s.z s.memory) (same_each s.z View.snapshot s.views s.me u s.inside refl) s.law.notes;
    snapshots = keep3 (AreSnapshots s.merger.floor (s.memory Clock)) (one View.past refl) (same_each s.z View.pinned s.views s.me u s.inside refl)
        (same_each s.z View.snapshot s.views s.me u s.inside refl) s.law.snapshots;
    passed = keep1 (ArePassed (is_frozen s.merger.phase) s.merger.round (epoch_end s.z s.merger))
        (same_each s.z View.snapshot s.views s.me u s.inside refl) s.law.passed;
    floors = s.law.floors;
    runs = runs_taken s.merger.merged s.merger.merged_floor (omega arith) s.law.runs;
    former_runs = λ back. runs_taken (s.merger.merged - 1) s.merger.former_floor (fewer s.merger.merged s.z.cells) (s.law.former_runs back);
    right = right_taken;
    stand = keep2 AreRecordsStanding same (same_each s.z View.calls s.views s.me u s.inside refl) s.law.stand;
    recorded = keep2 (AreRecorded (s.memory Clock)) same (same_each s.z View.calls s.views s.me u s.inside refl) s.law.recorded;
    rising = keep3 AreRising (same_each s.z View.calls s.views s.me u s.inside refl) (one View.due refl)
        (same_each s.z View.snapshot s.views s.me u s.inside refl) s.law.rising;
    dues = keep1 (λ (f : ℕ → ℕ). AreAtMost f (s.memory Clock)) (one View.due refl) s.law.dues;
    own_dues = by_seat s u (λ i y. (n : ℕ) → y.drawn ≡ Some n → outcome_at slots' n ≡ None → y.due ≤ n)
        (λ n d none. let is : t ≡ n = cc in let due = s.law.dues s.me in omega arith)
        (λ i ne n d none. s.law.own_dues i n d (sym (λ k. same k n) ∙ none));
    staging = staging_taken;
    in_turn = s.law.in_turn;
    written = keep1 (λ (f : ℕ → Option Slot). AllByRecursion (IsWritten f) s.batches) same s.law.written;
    uncut_front = s.law.uncut_front;
    uncut_pins = keep1 (AreUncutNotes s.batches) (same_each s.z View.pin_clock s.views s.me u s.inside refl) s.law.uncut_pins;
    uncut_snapshots = keep1 (AreUncutSnapshots s.batches) (same_each s.z View.snapshot s.views s.me u s.inside refl) s.law.uncut_snapshots;
    uncut_pasts = keep1 (AreUncutPasts s.batches) (one View.past refl) s.law.uncut_pasts;
    uncut = keep1 (AreUncut s.batches) (same_each s.z View.calls s.views s.me u s.inside refl) s.law.uncut;
    listed = keep1 (AreListed s.batches) (same_each s.z View.calls s.views s.me u s.inside refl) s.law.listed;
    fitting = keep1 (AreFitting s.z.cells) (same_each s.z View.calls s.views s.me u s.inside refl) s.law.fitting;
  }

  -- the world with the time taken
  abbrev pub taking : Setting
  taking = record s {
    ground = record s.ground { views = views'; slots = slots'; law = taken_law };
    inside = let e = length-set s.views s.me u in let lt = s.inside in omega arith;
  }

  pub taking_view : v taking ≡ u
  taking_view = get_or-set_same s.views s.me u (idle s.z) s.inside

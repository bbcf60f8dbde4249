-- What the rule says of a seat, the seat knows.
use Rattle.std.proofs.Common.{◌≡◌, ◌≢◌, ◌⊎◌, ⊎_elim, ℕ, ◌+◌, ◌-◌, ◌*◌, ◌%◌, ◌<◌, ◌≤◌, ◌||◌, Bool, true, cond, List, [], refl, length, get_or, sym, ap, ◌∙◌}
use Rattle.std.proofs.Common.{subst, arith, inl, inr, Option, Some, None}
use Rattle.std.specs.List.{AllByRecursion}
use Rattle.std.proofs.lemmas.Bool.{cases_lt}
use Rattle.std.proofs.lemmas.List.{get_or_past}
use Rattle.atomic_table.specs.Table.{State}
use Rattle.clsm_model.specs.declared.batch.Batch.{Batch}
use Rattle.clsm_model.specs.declared.record.Deed.{Deed}
use Rattle.clsm_model.specs.declared.record.Deed.TheVariants.{Put, Remove, Batch as Group}
use Rattle.clsm_model.specs.declared.slot.Slot.{Slot}
use Rattle.clsm_model.specs.declared.slot.Slot.TheVariants.{Nothing, Wrote}
use Rattle.clsm_model.specs.History.{History, AreInTurn, IsListed, IsUncut, batches_below, end_of, plain}
use Rattle.clsm_model.proofs.Batches.{below_listed, below_uncut, in_turn_below, in_turn_some}
use Rattle.clsm_model.specs.Right.{write_at}
use Rattle.clsm_law.specs.declared.layout.Layout.{Layout}
use Rattle.clsm_law.specs.declared.word.Word.{Word}
use Rattle.clsm_law.specs.declared.word.Word.TheVariants.{Clock, Limit, Merged}
use Rattle.clsm_law.specs.declared.step.Step.{Step}
use Rattle.clsm_law.specs.declared.step.Step.TheVariants.{EnterShared, Draw, Decide, Look, Note, RaiseFront}
use Rattle.clsm_law.specs.declared.view.View.{View}
use Rattle.clsm_law.specs.declared.view.Mode.TheVariants.{Exclusive}
use Rattle.clsm_law.specs.declared.view.SnapshotState.{SnapshotState}
use Rattle.clsm_law.specs.declared.view.SnapshotState.TheVariants.{Open}
use Rattle.clsm_law.specs.declared.merger.MergerView.{MergerView}
use Rattle.clsm_law.specs.Memory.{cell_of, region_of, is_word}
use Rattle.clsm_law.specs.Views.{idle, or_zero, own_region}
use Rattle.clsm_law.specs.OpenSteps.{open_time, IsOpen}
use Rattle.clsm_law.specs.Relation.{word_of}
use Rattle.clsm_law.specs.Merging.{is_frozen}
use Rattle.clsm_law.specs.Worlds.{view_at, outcome_at, past_of}
use Rattle.clsm_law.specs.Law.{In, IsMember, IsSnapshot, first_free}
use Rattle.clsm_model.specs.Seats.{FitsRecord, IsListedDeed, IsListedRecord, IsRightRecord, IsUncutDeed, IsUncutRecord, StandsAs, IsStandingRecord}
use Rattle.clsm_model.specs.Seats.{HasWrite, IsRecordIn, IsRising}
use Rattle.clsm_law.specs.SeatBounds.{IsSmall, IsSmallFor, IsSmallLook}
use Rattle.clsm_law.specs.Machine.{WorldState}
use Rattle.clsm_law.proofs.Records.Histories.{end_of-past}
use Rattle.clsm_levels.proofs.Every.{every_weaker}
use Rattle.clsm_law.proofs.Stepping.Small.{commit_small, step_small}
use Rattle.clsm_law.proofs.Setting.{Setting, past_below, clock_below, v}
use Rattle.clsm_law.proofs.Stepping.Steps.{May, finds as found_by}
use Rattle.clsm_law.proofs.Batches.Lifting.{lifted}
use Rattle.clsm_law.specs.Raising.{IsRaise}
use Rattle.clsm_law.proofs.Stepping.Stepped.{seat_setting}
use Rattle.clsm_law.proofs.Cases.{by_bool}
use Rattle.clsm_law.proofs.Clock.Times.{cell_below, region_of_epoch}
use Rattle.clsm_law.proofs.Orders.Facts.{R, some_place, place_region, member_own}
use Rattle.clsm_law.proofs.Finding.Orders.{order_short}
use Rattle.clsm_law.proofs.Stepping.Words.{word_there}
use Rattle.clsm_words.specs.declared.known.Known.{Known}
use Rattle.clsm_law.specs.Layout.{memory}
use Rattle.clsm_words.specs.Knowing.{row_of, rank_of, HasSpot, IsHeldEpoch, IsReading, IsCellPlace, IsOwnPlace, IsListedWithin, Agrees, Opens, Sound, known_of}
use Rattle.clsm_words.specs.Ruled.{world_of, IsSeated, Begins, Ruled}
use Rattle.clsm_words.proofs.Beginnings.{begins_at}
use Rattle.clsm_words.proofs.Ranks.{rank_most}
use Rattle.clsm_words.proofs.HeldRuns.{clock_near, snapshot_above, floor_below, floor_least, runs_held}

-- where a step makes small numbers whatever it finds, it does so at 0
small_look : (z : Layout) (word : Word) (x : ℕ) → IsSmallLook z word x → IsSmallLook z word 0
small_look z Merged x h = omega arith
small_look z word x h = h

small_at : (z : Layout) (step : Step) (x : ℕ) → IsSmall z step x → IsSmall z step 0
small_at z (EnterShared l) x h = h
small_at z (Draw t) x h = h
small_at z (Decide t deed) x h = h
small_at z (Note b) x h = h
small_at z (Look word) x h = small_look z word x h
small_at z step x h = tt

-- the limit is the end of an epoch, and a time less than an epoch before it is in that epoch's
-- region
end_of_limit : (z : Layout) (m : MergerView) → (epoch : ℕ) × (first_free z m ≡ (epoch + 1) * z.cells)
end_of_limit z m = by_bool (λ b. (epoch : ℕ) × (cond b ((m.merged + 2) * z.cells) ((m.merged + 1) * z.cells) ≡ (epoch + 1) * z.cells))
    (is_frozen m.phase || m.limit_extended)
    (λ _. (m.merged + 1, let e : m.merged + 2 ≡ m.merged + 1 + 1 = omega arith in ap (λ (a : ℕ). a * z.cells) e)) (λ _. (m.merged, refl))

last_within : (epoch n limit : ℕ) → 0 < n → limit ≡ (epoch + 1) * n → (epoch * n ≤ limit - 1) × (limit - 1 < (epoch + 1) * n)
last_within epoch n limit some e = (omega arith, omega arith)

near_within : (epoch n limit t : ℕ) → limit ≡ (epoch + 1) * n → limit ≤ t + n → t < limit → (epoch * n ≤ t) × (t < (epoch + 1) * n)
near_within epoch n limit t e near before = (omega arith, omega arith)

same_region : (z : Layout) (epoch limit t : ℕ) → 0 < z.cells → limit ≡ (epoch + 1) * z.cells → limit ≤ t + z.cells → t < limit
    → region_of z (cell_of z (limit - 1)) ≡ region_of z (cell_of z t)
same_region z epoch limit t some e near before =
    let a = last_within epoch z.cells limit some e in
    let b = near_within epoch z.cells limit t e near before in
    region_of_epoch z epoch (limit - 1) a.0 a.1 ∙ sym (region_of_epoch z epoch t b.0 b.1)

snapshot_reached : (floor clock past : ℕ) (pinned : Bool) (snapshot : SnapshotState) (t : ℕ) → IsSnapshot floor clock past pinned snapshot
    → open_time snapshot ≡ Some t → t ≤ past
snapshot_reached floor clock past pinned (Open noted time) t h e = let same : time ≡ t = ap or_zero e in let below = h.2 in omega arith
snapshot_reached floor clock past pinned snapshot t h e = absurd cc

module _ (s : State ℕ Known) (k : Known) (r : Ruled k.layout s)
    (ok : IsSeated k.layout s.words r.merger r.slots r.batches r.lawful.chains r.lawful.orders r.views k) where
  abbrev pub world : WorldState
  world = world_of k.layout s.words r.views r.merger r.slots r.batches

  pub number_inside : k.number < length r.views
  number_inside = let a = r.lawful.law.seated in let b = ok.inside in omega arith

  abbrev pub setting : Setting
  setting = seat_setting world r.lawful k.number number_inside

  -- a step that is open to what the seat knows is open in the world
  opens_both : (step : Step) → Opens k step → IsOpen k.layout (plain k.past) k.view step × IsRaise k.view step
  opens_both (RaiseFront t) o = o
  opens_both step o = (o, tt)

  pub open_there : (step : Step) → Opens k step → May setting step
  open_there step o = lifted setting step (subst (λ (u : View). IsOpen k.layout (past_of r.slots u.past) u step) (sym ok.view)
      (subst (λ (h : History). IsOpen k.layout h k.view step) (ap plain ok.past) (opens_both step o).0))
      (subst (λ (u : View). IsRaise u step) (sym ok.view) (opens_both step o).1)

  pub own_past : Begins r.slots k.past
  own_past = record { until = k.view.past; is = ok.past; decided = λ t lt. r.lawful.law.past k.number t (subst (λ (u : View). t < u.past) (sym ok.view) lt) }

  -- a number beyond the seats has no records
  nobody : (i t : ℕ) (write : Slot) → length r.views ≤ i → HasWrite i t write (view_at k.layout r.views i).calls → ⊥
  nobody i t write le has = subst (λ (u : View). HasWrite i t write u.calls) (get_or_past r.views i (idle k.layout) le) has

  wrote_at : (list : List Slot) → Begins r.slots list → (t : ℕ) → t < length list → (slot : Slot) → get_or list t Nothing ≡ slot → outcome_at r.slots t
      ≡ Some slot
  wrote_at list b t lt slot e = begins_at r.slots list b t lt ∙ ap (λ (a : Slot). Some a) e

  -- a batch that ends within a beginning of the history is listed there, since it has a member
  deed_listed : (h : History) (t : ℕ) (deed : Deed) → h.batches ≡ batches_below (end_of h) r.batches → IsListedDeed r.batches t deed → IsListedWithin h t deed
  deed_listed h t (Group members) is listed = λ ends.
      let some = in_turn_some 0 r.batches (memory k.layout s.words Clock) (record { first = t; size = length members }) r.lawful.law.in_turn listed in
      subst (λ (bs : List Batch). IsListed bs (record { first = t; size = length members })) (sym is)
      (below_listed (end_of h) r.batches (record { first = t; size = length members }) (omega arith) listed)
  deed_listed h t deed is listed = tt

  -- and no read that is inside no batch is inside one of these
  deed_uncut : (h : History) (t : ℕ) (deed : Deed) → h.batches ≡ batches_below (end_of h) r.batches → IsUncutDeed r.batches t deed
      → IsUncutDeed h.batches t deed
  deed_uncut h t (Put key written) is uncut = tt
  deed_uncut h t (Remove key) is uncut = tt
  deed_uncut h t (Group members) is uncut = tt
  deed_uncut h t deed is uncut = subst (λ (bs : List Batch). IsUncut bs t) (sym is) (below_uncut (end_of h) t r.batches uncut)

  -- the seat's records agree with each beginning of the history
  pub agrees_of : (h : History) → Begins r.slots h.slots → h.batches ≡ batches_below (end_of h) r.batches → end_of h ≤ memory k.layout s.words Clock
      → Agrees k.layout.seats k.number k.view.calls h
  agrees_of h b is within = let list = h.slots in record {
    uncut = every_weaker (IsUncutRecord r.batches) (IsUncutRecord h.batches) (λ c. deed_uncut h c.time c.deed is) k.view.calls
        (subst (λ (u : View). AllByRecursion (IsUncutRecord r.batches) u.calls) ok.view (r.lawful.law.uncut k.number));
    listed = every_weaker (IsListedRecord r.batches) (λ c. IsListedWithin h c.time c.deed) (λ c. deed_listed h c.time c.deed is) k.view.calls
        (subst (λ (u : View). AllByRecursion (IsListedRecord r.batches) u.calls) ok.view (r.lawful.law.listed k.number));
    stand = every_weaker (IsStandingRecord (outcome_at r.slots) k.number) (IsRecordIn list k.number)
        (λ c h. (h.0, λ t lt. subst (λ (o : Option Slot). StandsAs (write_at k.number c.time c.deed t) o) (begins_at r.slots list b t lt) (h.1 t))) k.view.calls
        (subst (λ (u : View). AllByRecursion (IsStandingRecord (outcome_at r.slots) k.number) u.calls) ok.view (r.lawful.law.stand k.number));
    recorded = λ t key written lt e. subst (λ (u : View). HasWrite k.number t (Wrote k.number key written) u.calls) ok.view
        (r.lawful.law.recorded t k.number key written (omega arith) (wrote_at list b t lt (Wrote k.number key written) e));
    numbered = λ t i key written lt e. elim (cases_lt i (length r.views)) [
      | inl below ↦ let a = r.lawful.law.seated in omega arith
      | inr beyond ↦ absurd (nobody i t (Wrote i key written) beyond (r.lawful.law.recorded t i key written (omega arith)
          (wrote_at list b t lt (Wrote i key written) e)))
    ];
    short = λ t i key written lt e. r.lawful.law.short t i key written (wrote_at list b t lt (Wrote i key written) e);
  }

  pub past_bound : k.view.past ≤ length r.slots
  past_bound = subst (λ (u : View). u.past ≤ length r.slots) ok.view (past_below setting.ground k.number)

  due_bound : k.view.due ≤ length r.slots
  due_bound = let a = clock_below setting.ground in let b = subst (λ (u : View). u.due ≤ memory k.layout s.words Clock) ok.view
      (r.lawful.law.dues k.number) in omega arith

  pub past_long : length k.past ≡ k.view.past
  past_long = ap (λ (xs : List Slot). length xs) ok.past ∙ end_of-past r.slots k.view.past past_bound

  -- its past is not beyond the clock
  pub past_clock : k.view.past ≤ memory k.layout s.words Clock
  past_clock = subst (λ (u : View). u.past ≤ memory k.layout s.words Clock) ok.view (r.lawful.law.past_clock k.number)

  -- its batches are those that begin below its past, and none ends beyond that
  pub own_batches : k.batches ≡ batches_below (length k.past) r.batches
  own_batches = ok.listed ∙ ap (λ (n : ℕ). batches_below n r.batches) (sym past_long)

  batches_turn : AreInTurn 0 k.batches (length k.past)
  batches_turn = subst (λ (y : List Batch × ℕ). AreInTurn 0 y.0 y.1) (λ i. (sym ok.listed i, sym past_long i))
      (in_turn_below 0 r.batches (memory k.layout s.words Clock) k.view.past (omega arith)
      (subst (λ (u : View). IsUncut r.batches u.past) ok.view (r.lawful.law.uncut_pasts k.number)) r.lawful.law.in_turn)

  right_there : AllByRecursion (IsRightRecord (plain k.past)) k.view.calls
  right_there = subst (λ (h : History). AllByRecursion (IsRightRecord h) k.view.calls) (sym (ap plain ok.past))
      (subst (λ (u : View). AllByRecursion (IsRightRecord (past_of r.slots u.past)) u.calls) ok.view (r.lawful.law.right k.number))

  -- the open snapshot's time is below the past
  opened_of : (t : ℕ) → open_time k.view.snapshot ≡ Some t → t ≤ k.view.past
  opened_of t e = subst (λ (u : View). open_time u.snapshot ≡ Some t → t ≤ u.past) ok.view
      (snapshot_reached r.merger.floor (memory k.layout s.words Clock) there.past there.pinned there.snapshot t (r.lawful.law.snapshots k.number)) e
    where
      there : View
      there = view_at k.layout r.views k.number

  -- an own drawn time is in the epoch of the limit
  region_is : (t limit : ℕ) → k.view.drawn ≡ Some t → k.view.hold_limit ≡ Some limit → region_of k.layout (cell_of k.layout (limit - 1))
      ≡ region_of k.layout (cell_of k.layout t)
  region_is t limit drawn held =
      let law = r.lawful.law in
      let has = ap (λ (u : View). u.drawn) ok.view ∙ drawn in
      let pending = law.pending k.number t has in
      let same = law.limits k.number limit (law.holding k.number t has) (ap (λ (u : View). u.hold_limit) ok.view ∙ held) in
      let end = end_of_limit k.layout r.merger in
      let is = law.limit in
      let bounded = law.bounded in
      let near = pending.0 in
      let before = pending.1 in
      same_region k.layout end.0 limit t (let a = k.layout.cells_in_range.0 in omega arith) (same ∙ is ∙ end.1) (omega arith) (omega arith)

  -- a place that it knows of the ordered list is that of a cell of the drawn one's region
  own_place_of : (p : ℕ) → k.view.drawn ≢ None → p ≢ 0 → (p ≡ k.view.met) ⊎ ((p ≡ k.view.low) ⊎ (p ≡ k.view.high)) → IsOwnPlace k p
  own_place_of p drawn some known =
      let there : (v setting).drawn ≢ None = λ e. drawn (sym (ap (λ (u : View). u.drawn) ok.view) ∙ e) in
      let stands = member_own setting there p member in
      let l = r.lawful.law.placed (R setting) p stands in
      record {
        inside = let at = l.place in let below = cell_below k.layout l.time (let a = k.layout.cells_in_range.0 in omega arith) in omega arith;
        region = subst (λ (u : View). region_of k.layout (p - 1) ≡ own_region k.layout u) ok.view (place_region setting.ground (R setting) p stands);
      }
    where
      IsKnown : ℕ → Type 0
      IsKnown q = IsMember k.layout (memory k.layout s.words Limit) r.lawful.orders (view_at k.layout r.views k.number).mode q

      known_by : (of : View → ℕ) → (of (view_at k.layout r.views k.number) ≢ 0 → IsKnown (of (view_at k.layout r.views k.number))) → p ≡ of k.view → IsKnown p
      known_by of is e = let same : of (view_at k.layout r.views k.number) ≡ p = ap of ok.view ∙ sym e in
          subst IsKnown same (is (λ none. some (sym same ∙ none)))

      member : IsKnown p
      member = ⊎_elim (λ (e : p ≡ k.view.met). known_by (λ v. v.met) (r.lawful.law.met k.number) e)
          (λ (or : (p ≡ k.view.low) ⊎ (p ≡ k.view.high)). ⊎_elim (λ (e : p ≡ k.view.low). known_by (λ v. v.low) (r.lawful.law.lows k.number) e)
          (λ (e : p ≡ k.view.high). known_by (λ v. v.high) (r.lawful.law.highs k.number) e) or)
          known

  -- the list of its drawn cell has no more places than an epoch cells
  ranked_of : (p : ℕ) → k.view.drawn ≢ None → In p k.order → rank_of p k.order ≤ k.layout.cells
  ranked_of p has i =
      let now = (ok.order has).ranks p i in
      let most = rank_most p (r.lawful.orders (own_region k.layout k.view)) in
      let few = order_short setting.ground (own_region k.layout k.view) in
      omega arith

  -- what it may search while it holds the component c
  reads_of : (c : ℕ) → k.view.held ≡ Some c → IsReading k c
  reads_of c held =
      let there : (view_at k.layout r.views k.number).held ≡ Some c = ap (λ (u : View). u.held) ok.view ∙ held in
      let g = setting.ground in
      record {
        near = let long = past_long in let bound = past_bound in let clock = (clock_near g k.number c there).1 in omega arith;
        below_merged = floor_below g k.number c k.floor (row_of k) k.past own_past number_inside there (ok.floor c held) (ok.row c held);
        below_snapshot = λ t is.
            let least = floor_least g k.number c k.floor (row_of k) k.past own_past number_inside there (ok.floor c held) (ok.row c held) in
            let above = snapshot_above r.merger.floor (memory k.layout s.words Clock) (view_at k.layout r.views k.number).past
            (view_at k.layout r.views k.number).pinned (view_at k.layout r.views k.number).snapshot t (r.lawful.law.snapshots k.number)
            (ap (λ (u : View). open_time u.snapshot) ok.view ∙ is) in
            omega arith;
        runs = runs_held g k.number c k.floor (row_of k) k.past own_past number_inside there (ok.floor c held) (ok.row c held);
      }

  -- a spot is the place of a cell, with the cell's key
  cell_place : (p key : ℕ) → HasSpot k.spots p key → IsCellPlace k p
  cell_place p key has =
      let h = ok.spots p key has in
      let g = setting.ground in
      let l = r.lawful.law.placed (h.epoch % 2) p h.stands in
      record {
        epoch = h.epoch;
        walked = subst (λ (n : ℕ). IsHeldEpoch k.layout k.view.held n h.epoch) (sym past_long) h.walked;
        some = some_place g (h.epoch % 2) p h.stands;
        inside = let at = l.place in let below = cell_below k.layout l.time (let a = k.layout.cells_in_range.0 in omega arith) in omega arith;
        region = place_region g (h.epoch % 2) p h.stands;
      }

  pub sound_of : k.seated ≡ true → Sound k
  sound_of sits = record {
    seated = sits;
    inside = ok.inside;
    there = λ step o. subst (λ (u : View). is_word k.layout (word_of k.layout k.number u step) ≡ true) ok.view (word_there setting step (open_there step o));
    small = λ step o. small_at k.layout step (found_by setting step) (step_small setting step (open_there step o));
    small_for = λ step o. subst (λ (u : View). IsSmallFor u step) ok.view (commit_small setting step (open_there step o));
    unstaged = subst (λ (u : View). u.mode ≢ Exclusive → u.staged ≡ []) ok.view (r.lawful.law.staging k.number).shut;
    length_is = past_long;
    in_turn = batches_turn;
    agrees = agrees_of (known_of k) own_past own_batches (let a = past_long in let b = past_clock in omega arith);
    right = right_there;
    fits = subst (λ (u : View). AllByRecursion (FitsRecord k.layout.cells) u.calls) ok.view (r.lawful.law.fitting k.number);
    rows = ok.rows;
    own_region = region_is;
    own_places = own_place_of;
    ranked = ranked_of;
    opened = opened_of;
    reads = reads_of;
    spotted = cell_place;
    keyed = λ p key other has has'. (ok.spots p key has).key_is ∙ sym (ok.spots p other has').key_is;
    rising = subst (λ (u : View). IsRising u.calls u.due (open_time u.snapshot)) ok.view (r.lawful.law.rising k.number);
    in_time = let below = due_bound in let bounded = r.lawful.law.bounded in let top = r.lawful.law.top in omega arith;
  }

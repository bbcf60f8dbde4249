-- What the words and the seats are after an open step of the merger.
use Rattle.std.proofs.Common.{◌≡◌, ◌≢◌, ℕ, ◌+◌, ◌*◌, ◌<◌, ◌≤◌, ◌⊎◌, Bool, true, false, cond, max, List, [], length, map, take, get_or, set, sym, refl, ap}
use Rattle.std.proofs.Common.{◌∙◌, subst, arith, inl, inr, ⊎_elim, Option, Some, None, length-set}
use Rattle.std.proofs.lemmas.Bool.{cases_lt}
use mathlib.Core.Option.{some}
use lib.ListN.{get_elem?}
use Rattle.atomic_table.specs.Table.{State}
use Rattle.atomic_table.proofs.Lists.{at_set}
use Rattle.clsm_model.specs.declared.slot.Slot.{Slot}
use Rattle.clsm_model.specs.History.{History, batches_below, end_of}
use Rattle.clsm_law.specs.declared.layout.Layout.{Layout}
use Rattle.clsm_law.specs.declared.word.Word.{Word}
use Rattle.clsm_law.specs.declared.word.Word.TheVariants.{Pin, Snap, Count, Entry, Clock}
use Rattle.clsm_law.specs.declared.step.Step.{Step}
use Rattle.clsm_law.specs.declared.step.Step.TheVariants.{LeaveExclusive, Look, ClearHead, ClearState, Publish}
use Rattle.clsm_law.specs.declared.view.View.{View}
use Rattle.clsm_law.specs.declared.merger.MergerView.{MergerView}
use Rattle.clsm_law.specs.Memory.{Memory, cell_of, region_of, is_word, put}
use Rattle.clsm_law.specs.Layout.{index_of, memory}
use Rattle.clsm_law.specs.Relation.{Chains, Orders}
use Rattle.clsm_law.specs.Views.{or_zero, own_region}
use Rattle.clsm_law.specs.Merging.{is_frozen, is_retired, epoch_end, word_of_merger, changed_by_merger, merger_after, slots_after_merger}
use Rattle.clsm_law.specs.Merging.{chains_after_merger, orders_after_merger}
use Rattle.clsm_law.specs.Worlds.{outcome_at, settled, facts_of}
use Rattle.clsm_law.specs.Law.{LawOf, each}
use Rattle.clsm_law.specs.Keeping.{KeepsComponent}
use Rattle.clsm_law.specs.Machine.{IsLawful, memory_of}
use Rattle.clsm_law.proofs.GrowthMerger.{slots_stay', longer'}
use Rattle.clsm_law.proofs.Decided.Kept.{frozen_decided}
use Rattle.clsm_law.proofs.Rows.Memory.{memory-at, memory-set}
use Rattle.clsm_law.proofs.Stepping.Machine.{merger_word, merger_there}
use Rattle.clsm_law.proofs.Clock.Kept.{clock_grows'}
use Rattle.clsm_law.proofs.Setting.{Ground, facts, OpensTo, merger', memory', slots' as law_slots, none_drawn, past_below}
use Rattle.clsm_law.proofs.Kept.{kept'}
use Rattle.clsm_law.proofs.Stepping.Keeping.{held_merged, holds_quiet, linked_merged, places_stay}
use Rattle.clsm_law.proofs.Stepping.Stepped.{lawful_ground}
use Rattle.clsm_law.proofs.Phases.{frozen_not_retired, retired_not_clean}
use Rattle.clsm_words.specs.declared.known.Known.{Known}
use Rattle.clsm_words.specs.Knowing.{row_of, told_of, Extends, IsHeldEpoch, IsKnownIn, IsKnownWord, IsNamedWord, LeadsOn}
use Rattle.clsm_words.specs.Merging.{facts_known, OpensToMerger, known_end}
use Rattle.clsm_words.specs.Ruled.{world_of, HasFloor, IsSpot, IsSeated, Begins, IsMerging, AreSeats, Ruled, frozen_times}
use Rattle.clsm_words.proofs.Sitting.{MergerSitting}
use Rattle.clsm_words.proofs.Beginnings.{HaveGrown, begins_stay, begins_length, decided_stay}
use Rattle.clsm_words.proofs.HeldCells.{known_word_stays, known_ways, leads_trans}
use Rattle.clsm_words.proofs.Listed.{trail_merged}
use Rattle.clsm_words.proofs.MergerFacts.{after_known}
use Rattle.clsm_words.proofs.Trails.{walked_apart, ends_walked}
use Rattle.clsm_words.proofs.Spots.{spot_merged}
use Rattle.clsm_words.proofs.Ranks.{extends_trans, grows_merged}
use Rattle.clsm_words.proofs.MergerKnows.{world, setting, open_by_row, open_there}

-- in a lawful world each time up to the end that a merger knows is decided
end_decided : (g : Ground) (t : ℕ) → t < known_end g.z g.merger (length g.slots) → outcome_at g.slots t ≢ None
end_decided g t = by g.merger.exclusive (is_frozen g.merger.phase) refl refl where
  by : (held frozen : Bool) → g.merger.exclusive ≡ held → is_frozen g.merger.phase ≡ frozen
      → t < cond held (length g.slots) (cond frozen (epoch_end g.z g.merger) (g.merger.merged * g.z.cells)) → outcome_at g.slots t ≢ None
  by true frozen e f lt = λ none. let i = g.law.owned t lt none in none_drawn g e i.0 t i.1
  by false true e f lt = frozen_decided g f t lt
  by false false e f lt = g.law.merged_decided t lt

-- the floor of a component that is held stays
floor_merged : (g : Ground) (step : Step) → OpensTo g step → (i c floor : ℕ) → each g.z View.held g.views i ≡ Some c → HasFloor g.merger c floor
    → HasFloor (merger' g step) c floor
floor_merged g (Look (Snap j)) o i c floor held h = h
floor_merged g (Look (Pin j)) o i c floor held h = h
floor_merged g (Look word) o i c floor held h = h
floor_merged g LeaveExclusive o i c floor held h = ⊎_elim
    (λ (new : (c ≡ g.merger.merged) × (floor ≡ g.merger.merged_floor)). inl new)
    (λ (old : (c + 1 ≡ g.merger.merged) × (is_retired g.merger.phase ≡ true) × (floor ≡ g.merger.former_floor)). absurd
    (retired_not_clean g.merger.phase old.1 (g.law.merger.clean o.0))) h
floor_merged g (ClearState cell) o i c floor held h = ⊎_elim
    (λ (new : (c ≡ g.merger.merged) × (floor ≡ g.merger.merged_floor)). inl new)
    (λ (old : (c + 1 ≡ g.merger.merged) × (is_retired g.merger.phase ≡ true) × (floor ≡ g.merger.former_floor)). let newest = holds_quiet g i c o.1 held in
    let before = old.0 in absurd (omega arith)) h
floor_merged g Publish o i c floor held h = ⊎_elim
    (λ (new : (c ≡ g.merger.merged) × (floor ≡ g.merger.merged_floor)). inr (ap (λ (n : ℕ). n + 1) new.0, refl, new.1))
    (λ (old : (c + 1 ≡ g.merger.merged) × (is_retired g.merger.phase ≡ true) × (floor ≡ g.merger.former_floor)). absurd
    (frozen_not_retired g.merger.phase o.0 old.1)) h
floor_merged g step o i c floor held h = h

-- and the words of its runs
named_stays : (g : Ground) (step : Step) (o : OpensTo g step) (i c : ℕ) → each g.z View.held g.views i ≡ Some c → (w : Word) → IsNamedWord c w
    → memory' g step w ≡ g.memory w
named_stays g step o i c held (Count place) named = (places_stay g step o i c held place named.1).count
named_stays g step o i c held (Entry place entry part) named = (places_stay g step o i c held place named.1).words entry part
named_stays g step o i c held w named = absurd named.0

module _ (seat : MergerSitting) (step : Step) (o : OpensToMerger seat.k step) where
  open seat use {merges}
  open seat.place use {s, id, k, r, at}

  pub me_merging : IsMerging k.layout s.words r.merger r.slots r.lawful.orders k
  me_merging = r.seats.merging id k at merges

  abbrev pub before : Ground
  before = setting s k r me_merging

  pub opens : OpensTo before step
  opens = open_there s k r me_merging step o

  -- the word that the step is on, what it finds there, and what comes after
  abbrev pub word : Word
  word = word_of_merger k.layout k.merger step

  abbrev pub found : ℕ
  found = get_or s.words (index_of k.layout word) 0

  abbrev pub made : ℕ
  made = changed_by_merger k.layout k.merger step found

  abbrev pub view' : MergerView
  view' = merger_after k.layout (facts_known k) k.merger step found

  abbrev pub slots' : List (Option Slot)
  slots' = slots_after_merger k.layout k.merger r.slots step

  abbrev pub words' : List ℕ
  words' = set s.words (index_of k.layout word) made

  abbrev pub orders' : Orders
  orders' = orders_after_merger r.lawful.orders step

  -- the past goes on to where the merger knows the times
  abbrev pub until' : ℕ
  until' = max (length k.past) (known_end k.layout view' (length slots'))

  abbrev pub next : Known
  next = record k { merger = view'; row = words'; trail = frozen_times k.layout view' orders'; past = take until' (settled slots') }

  abbrev pub after : State ℕ Known
  after = record { words = words'; homes = s.homes; views = set s.views id next }

  -- the table's place and what stands there are those of the world
  same_word : word ≡ merger_word (world s k r me_merging) r.lawful step opens
  same_word = ap (λ (m : MergerView). word_of_merger k.layout m step) me_merging.view

  pub finds : (index_of k.layout word ≡ index_of k.layout (merger_word (world s k r me_merging) r.lawful step opens))
      × (found ≡ memory_of (world s k r me_merging) (merger_word (world s k r me_merging) r.lawful step opens))
  finds =
      let there = merger_there (world s k r me_merging) r.lawful step opens in
      let place = ap (index_of k.layout) same_word in
      (place, ap (λ (n : ℕ). get_or s.words n 0) place ∙ sym (memory-at k.layout s.words (word_of_merger k.layout r.merger step) there))

  same_view : view' ≡ merger_after k.layout (facts before) r.merger step found
  same_view = ap (λ (m : MergerView). merger_after k.layout (facts_of k.layout (row_of k) m (map (λ slot. Some slot) k.past)) m step found) me_merging.view
      ∙ after_known before (row_of k) k.past me_merging.row me_merging.past me_merging.reaches step found (open_by_row s k r me_merging step o)

  -- the memory after the step
  pub same_memory : memory k.layout words' ≡ put (memory k.layout s.words) word made
  same_memory = memory-set k.layout s.words word made (subst (λ (w : Word). is_word k.layout w ≡ true) (sym same_word)
      (merger_there (world s k r me_merging) r.lawful step opens)) r.lawful.size

  -- it is the machine's
  pub there_memory : memory k.layout words' ≡ memory' before step
  there_memory = same_memory ∙ (λ i. put (memory k.layout s.words) (same_word i) (changed_by_merger k.layout (me_merging.view i) step (finds.1 i)))

  pub there_view : view' ≡ merger' before step
  there_view = same_view ∙ ap (λ (x : ℕ). merger_after k.layout (facts before) r.merger step x) finds.1

  pub same_slots : slots' ≡ slots_after_merger k.layout r.merger r.slots step
  same_slots = ap (λ (m : MergerView). slots_after_merger k.layout m r.slots step) me_merging.view

  abbrev pub chains' : Chains
  chains' = chains_after_merger r.lawful.chains step

  abbrev pub lawful' : IsLawful (world_of k.layout words' r.views view' slots' r.batches)
  lawful' = record {
    sound = r.lawful.sound;
    size = length-set s.words (index_of k.layout word) made ∙ r.lawful.size;
    chains = chains';
    orders = orders';
    law = subst (λ (y : Memory × MergerView × List (Option Slot)). LawOf k.layout y.0 r.views y.1 y.2 r.batches chains' orders')
        (λ i. (sym there_memory i, sym there_view i, sym same_slots i)) (kept' before step opens);
  }

  abbrev pub ended : Ground
  ended = lawful_ground (world_of k.layout words' r.views view' slots' r.batches) lawful'

  -- the clock never falls
  pub clock_rises : memory k.layout s.words Clock ≤ memory k.layout words' Clock
  clock_rises = let a = clock_grows' before step opens in let b : memory k.layout words' Clock ≡ memory' before step Clock = λ i. there_memory i Clock in
      omega arith

  pub grown : HaveGrown r.slots slots'
  grown = subst (HaveGrown r.slots) (sym same_slots) record { longer = longer' before step; stay = slots_stay' before step opens }

  pub told_stays : (list : List Slot) → Begins r.slots list → Begins slots' list
  told_stays list b = begins_stay r.slots slots' list grown b

  -- the times up to the new end are decided
  until_decided : (t : ℕ) → t < until' → outcome_at slots' t ≢ None
  until_decided t lt = elim (cases_lt t (length k.past)) [
    | inl old ↦ let b = told_stays k.past me_merging.past in let e = begins_length slots' k.past b in b.decided t (omega arith)
    | inr new ↦ end_decided ended t (omega arith)
  ]

  pub next_past : Begins slots' next.past
  next_past = record { until = until'; is = refl; decided = until_decided }

  past_long : length next.past ≡ until'
  unfolding next_past
  past_long = begins_length slots' next.past next_past

  pub next_merging : IsMerging k.layout words' view' slots' orders' next
  next_merging = record {
    layout = refl;
    unseated = me_merging.unseated;
    view = refl;
    past = next_past;
    reaches = let e = past_long in omega arith;
    sized = lawful'.size;
    row = λ w own. refl;
    trail = λ frozen. refl;
  }

  -- its trail stays while an epoch is frozen
  pub trail_stays : is_frozen k.merger.phase ≡ true → is_frozen view'.phase ≡ true → next.trail ≡ k.trail
  trail_stays frozen still =
      let was : is_frozen r.merger.phase ≡ true = ap (λ (m : MergerView). is_frozen m.phase) (sym me_merging.view) ∙ frozen in
      ap (λ (m : MergerView). frozen_times k.layout m orders') there_view
      ∙ trail_merged before step opens was (ap (λ (m : MergerView). is_frozen m.phase) (sym there_view) ∙ still)
      ∙ sym (me_merging.trail was)

  pub longer_past : length k.past ≤ length next.past
  longer_past = let e = past_long in omega arith

  -- what a caller knew stays
  module _ (j : Known) (h : IsSeated k.layout s.words r.merger r.slots r.batches r.lawful.chains r.lawful.orders r.views j) where
    past_inside : j.view.past ≤ length r.slots
    past_inside = subst (λ (u : View). u.past ≤ length r.slots) h.view (past_below before j.number)

    past_stays : j.past ≡ take j.view.past (settled slots')
    past_stays =
        let decided : (t : ℕ) → t < j.view.past → outcome_at r.slots t ≢ None =
        λ t lt. r.lawful.law.past j.number t (subst (λ (u : View). t < u.past) (sym h.view) lt) in
        h.past ∙ decided_stay r.slots slots' j.view.past grown past_inside decided

    held_there : (c : ℕ) → j.view.held ≡ Some c → each k.layout View.held r.views j.number ≡ Some c
    held_there c e = ap (λ (u : View). u.held) h.view ∙ e

    row_stays : (c : ℕ) → j.view.held ≡ Some c → (w : Word) → IsNamedWord c w → memory k.layout j.row w ≡ memory k.layout words' w
    row_stays c e w named = h.row c e w named ∙ sym ((λ i. there_memory i w) ∙ named_stays before step opens j.number c (held_there c e) w named)

    -- the words of the cells that it knows, and their chains but for their heads
    j_past : Begins r.slots j.past
    j_past = record { until = j.view.past; is = h.past; decided = λ t lt. r.lawful.law.past j.number t (subst (λ (u : View). t < u.past) (sym h.view) lt) }

    j_inside : j.number < length r.views
    j_inside = let a = r.lawful.law.seated in let b = h.inside in omega arith

    keeps : (c : ℕ) → j.view.held ≡ Some c → KeepsComponent k.layout (memory k.layout s.words) (memory' before step) (length r.slots)
        (length (law_slots before step)) c
    keeps c e = held_merged before step opens j.number c (held_there c e) (held_there c e)

    cells_stay : (w : Word) → IsKnownWord j w → memory k.layout j.row w ≡ memory k.layout words' w
    cells_stay w known = h.cells w known ∙ sym ((λ i. there_memory i w)
        ∙ known_word_stays before j.number j j_past j_inside (ap (λ (u : View). u.held) h.view) (memory' before step) (length (law_slots before step))
        (linked_merged before step opens) keeps w (subst (λ (z : Layout). IsKnownWord (record j { layout = z }) w) h.layout known))

    ways_stay : (cell t : ℕ) → IsKnownIn j cell t → LeadsOn k.layout (memory k.layout j.row) (memory k.layout words') (region_of k.layout cell)
    ways_stay cell t known = leads_trans k.layout (memory k.layout j.row) (memory k.layout s.words) (memory k.layout words') (region_of k.layout cell)
        (h.ways cell t known)
        (subst (λ (m : Memory). LeadsOn k.layout (memory k.layout s.words) m (region_of k.layout cell)) (sym there_memory)
        (known_ways before j.number j j_past j_inside (ap (λ (u : View). u.held) h.view) (memory' before step) (length (law_slots before step))
        (linked_merged before step opens) keeps cell t (subst (λ (z : Layout). IsKnownIn (record j { layout = z }) cell t) h.layout known)))

    floor_stays : (c : ℕ) → j.view.held ≡ Some c → HasFloor view' c j.floor
    floor_stays c e = subst (λ (m : MergerView). HasFloor m c j.floor) (sym there_view)
        (floor_merged before step opens j.number c j.floor (held_there c e) (h.floor c e))

    -- what it walks is not cleared
    line_apart : j.trail ≢ [] → (region chain : ℕ) → OpensTo before (ClearHead region chain) → j.region ≢ region
    line_apart walks region chain clears = let line = h.line walks in by j.view.held refl line.1 where
      by : (held : Option ℕ) → j.view.held ≡ held → IsHeldEpoch k.layout held j.view.past (h.line walks).0 → j.region ≢ region
      by None is epoch = absurd epoch
      by (Some c) is epoch = λ q.
          walked_apart before j.number c (h.line walks).0 j.view.past (held_there c is) past_inside epoch region chain clears (sym (h.line walks).2 ∙ q)

    -- and the list of its drawn cell
    order_stays : j.view.drawn ≢ None → Extends j.order (orders' (own_region k.layout j.view))
    order_stays has = extends_trans j.order (r.lawful.orders (own_region k.layout j.view)) (orders' (own_region k.layout j.view)) (h.order has)
        (by j.view.drawn refl has) where
          by : (drawn : Option ℕ) → j.view.drawn ≡ drawn → drawn ≢ None → Extends (r.lawful.orders (region_of k.layout (cell_of k.layout (or_zero drawn))))
              (orders' (region_of k.layout (cell_of k.layout (or_zero drawn))))
          by None is has = absurd (has refl)
          by (Some t) is has = grows_merged before step opens j.number t (ap (λ (u : View). u.drawn) h.view ∙ is)

    seated_stays : IsSeated k.layout words' view' slots' r.batches chains' orders' r.views j
    seated_stays = record {
      layout = h.layout;
      inside = h.inside;
      view = h.view;
      rows = h.rows;
      past = past_stays;
      listed = h.listed;
      row = row_stays;
      floor = floor_stays;
      cells = cells_stay;
      ways = ways_stay;
      ends = ends_walked before step opens j.region j.chain j.trail line_apart h.ends;
      line = h.line;
      spots = λ p key has. subst (λ (m : Memory). IsSpot k.layout m orders' j.view.held j.view.past p key) (sym there_memory)
          (spot_merged before step opens j.number j.view.held j.view.past p key (ap (λ (u : View). u.held) h.view) past_inside (h.spots p key has));
      order = order_stays;
    }

  back : (i : ℕ) (j : Known) → get_elem? after.views i ≡ some j → ((i ≡ id) × (next ≡ j)) ⊎ ((i ≢ id) × (get_elem? s.views i ≡ some j))
  back i j e = at_set s.views id i next j e

  -- what stood there before
  pub record Was (i : ℕ) (j : Known) : Type 0 where
    pub old : Known
    pub stood : get_elem? s.views i ≡ some old
    pub number : old.number ≡ j.number
    pub seated : old.seated ≡ j.seated
    pub merger : old.merges ≡ j.merges
    pub dealt : old.dealt ≡ j.dealt
    pub told : told_of old ≡ told_of j
    pub heard : old.heard ≡ j.heard

  was : (i : ℕ) (j : Known) → get_elem? after.views i ≡ some j → Was i j
  was i j e = ⊎_elim
      (λ (t : (i ≡ id) × (next ≡ j)). subst (λ (y : ℕ × Known). Was y.0 y.1) (λ m. (sym t.0 m, t.1 m))
      (record { old = k; stood = at; number = refl; seated = refl; merger = refl; dealt = refl; told = refl; heard = refl }))
      (λ (t : (i ≢ id) × (get_elem? s.views i ≡ some j)).
      record { old = j; stood = t.1; number = refl; seated = refl; merger = refl; dealt = refl; told = refl; heard = refl }) (back i j e)

  pub seats' : AreSeats k.layout words' view' slots' r.batches chains' orders' r.views after.views
  seats' = record {
    seated = λ i j e sat. ⊎_elim
        (λ (t : (i ≡ id) × (next ≡ j)). let mine : k.seated ≡ true = ap (λ (y : Known). y.seated) t.1 ∙ sat in
        absurd (let f = me_merging.unseated in cc (f, mine)))
        (λ (t : (i ≢ id) × (get_elem? s.views i ≡ some j)). seated_stays j (r.seats.seated i j t.1 sat)) (back i j e);
    merging = λ i j e p. ⊎_elim
        (λ (t : (i ≡ id) × (next ≡ j)). subst (IsMerging k.layout words' view' slots' orders') t.1 next_merging)
        (λ (t : (i ≢ id) × (get_elem? s.views i ≡ some j)). absurd (t.0 (r.seats.one i id j k t.1 at p merges))) (back i j e);
    told = λ i j e. let w = was i j e in let h = r.seats.told i w.old w.stood in record {
      begins = subst (λ (l : History). Begins slots' l.slots) w.told (told_stays w.old.told h.begins);
      listed = subst (λ (l : History). l.batches ≡ batches_below (end_of l) r.batches) w.told h.listed;
      within = let a = h.within in let e = ap end_of w.told in let g = clock_rises in omega arith;
      below = let a = h.below in let e = w.heard in let g = clock_rises in omega arith;
    };
    apart = λ i i' j j' e e' a a' q. let w = was i j e in let w' = was i' j' e' in
        r.seats.apart i i' w.old w'.old w.stood w'.stood (w.seated ∙ a) (w'.seated ∙ a') (w.number ∙ q ∙ sym w'.number);
    dealer = λ i j e p. let w = was i j e in let d = r.seats.dealer i w.old w.stood (w.merger ∙ p) in record {
      below = λ i' j' e' sat. let w' = was i' j' e' in let b = d.below i' w'.old w'.stood (w'.seated ∙ sat) in let y = w.dealt in let y' = w'.number in
          omega arith;
      idle_above = λ m le. let y = w.dealt in d.idle_above m (omega arith);
    };
    one = λ i i' j j' e e' p p'. let w = was i j e in let w' = was i' j' e' in r.seats.one i i' w.old w'.old w.stood w'.stood (w.merger ∙ p) (w'.merger ∙ p');
  }

  -- the rule holds after the step
  abbrev pub ruled' : Ruled k.layout after
  ruled' = record { views = r.views; merger = view'; slots = slots'; batches = r.batches; lawful = lawful'; seats = seats' }

  -- what is found is what the word has
  pub finds_word : found ≡ memory k.layout s.words word
  finds_word = finds.1 ∙ ap (memory k.layout s.words) (sym same_word)

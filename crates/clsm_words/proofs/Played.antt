-- What the words and the seats are after an open step of a seat.
use Rattle.std.proofs.Common.{◌≡◌, ◌≢◌, ℕ, ◌-◌, ◌<◌, ◌≤◌, ◌*◌, ◌%◌, ◌⊎◌, true, cond, List, [], length, map, take, get_or, set, sym, refl, ap, ◌∙◌, subst}
use Rattle.std.proofs.Common.{arith, ⊎_elim, Option, Some, None, get_or-set_same, get_or-set_other, length-set}
use mathlib.Core.Option.{some}
use lib.ListN.{get_elem?}
use Rattle.atomic_table.specs.Table.{State}
use Rattle.atomic_table.proofs.Lists.{at_set}
use Rattle.clsm_model.specs.declared.batch.Batch.{Batch}
use Rattle.clsm_model.specs.declared.slot.Slot.{Slot}
use Rattle.clsm_model.specs.History.{History, batches_below, end_of}
use Rattle.clsm_law.specs.declared.layout.Layout.{Layout}
use Rattle.clsm_law.specs.declared.word.Word.{Word}
use Rattle.clsm_law.specs.declared.word.Word.TheVariants.{Clock, Count, Entry}
use Rattle.clsm_law.specs.declared.step.Step.{Step}
use Rattle.clsm_law.specs.declared.view.View.{View}
use Rattle.clsm_law.specs.Layout.{index_of, memory}
use Rattle.clsm_law.specs.Views.{idle, own_region}
use Rattle.clsm_law.specs.Relation.{Chains, Orders, word_of, changed, view_after, slots_after, batches_after, chains_after, orders_after}
use Rattle.clsm_law.specs.Worlds.{view_at, outcome_at, settled}
use Rattle.clsm_law.specs.Keeping.{KeepsComponent}
use Rattle.clsm_law.specs.Memory.{Memory, key_at, is_word, region_of}
use Rattle.clsm_law.specs.Law.{LawOf, In, each}
use Rattle.clsm_law.specs.Reading.{time_in}
use Rattle.clsm_law.specs.Merging.{is_frozen, epoch_end, IsRunWord}
use Rattle.clsm_law.specs.Machine.{WorldState, IsLawful, memory_of}
use Rattle.clsm_law.proofs.Cases.{by_bool}
use Rattle.clsm_law.proofs.Rows.Memory.{memory-at, memory-set}
use Rattle.clsm_law.proofs.Stepping.Machine.{seat_word, seat_there, seat_writes}
use Rattle.clsm_law.proofs.Setting.{Setting, Ground, v, past_below, clock_merger}
use Rattle.clsm_law.proofs.Stepping.Steps.{May, finds as found_by, memory_by, views_by, slots_by, orders_by, kept_by}
use Rattle.clsm_law.proofs.Stepping.StepsKeep.{longer_by, slots_kept_by, linked_kept_by, held_kept_by, ordered_by, keys_by, runs_by, batches_stay, clock_by}
use Rattle.clsm_law.proofs.Stepping.Stepped.{lawful_ground}
use Rattle.clsm_words.specs.declared.known.Known.{Known}
use Rattle.clsm_words.specs.Knowing.{Extends, IsKnownIn, IsKnownWord, LeadsOn, Opens, told_of}
use Rattle.clsm_words.specs.Merging.{IsOwn, known_end}
use Rattle.clsm_words.specs.Ruled.{world_of, IsSpot, IsSeated, Begins, IsMerging, AreSeats, Ruled, frozen_times}
use Rattle.clsm_words.proofs.Sitting.{Sitting}
use Rattle.clsm_words.proofs.Beginnings.{HaveGrown, begins_stay, decided_stay}
use Rattle.clsm_words.proofs.HeldCells.{known_word_stays, known_ways, leads_trans}
use Rattle.clsm_words.proofs.Listed.{list_kept}
use Rattle.clsm_words.proofs.Owned.{own_kept}
use Rattle.clsm_words.proofs.Trails.{trail_after, region_after, chain_after, floor_after, ends_stay, own_ends, own_line, own_floor}
use Rattle.clsm_words.proofs.Spots.{spots_after, own_spots, spot_kept}
use Rattle.clsm_words.proofs.Ranks.{extends_self, extends_trans, grows_by}
use Rattle.clsm_words.proofs.Rows.{rows_stay}
use Rattle.clsm_words.proofs.Knows.{world, number_inside, setting, open_there}

module _ (seat : Sitting) (step : Step) (o : Opens seat.k step) where
  open seat use {sits}
  open seat.place use {s, k, r, id, at}

  pub me_seated : IsSeated k.layout s.words r.merger r.slots r.batches r.lawful.chains r.lawful.orders r.views k
  me_seated = r.seats.seated id k at sits

  -- the word that the step is on, what it finds there, and what comes after
  abbrev pub word : Word
  word = word_of k.layout k.number k.view step

  abbrev pub found : ℕ
  found = get_or s.words (index_of k.layout word) 0

  abbrev pub view' : View
  view' = view_after k.layout k.number k.view step found

  abbrev pub slots' : List (Option Slot)
  slots' = slots_after k.number r.slots step found

  abbrev pub views' : List View
  views' = set r.views k.number view'

  abbrev pub words' : List ℕ
  words' = set s.words (index_of k.layout word) (changed k.layout k.view step found)

  abbrev pub batches' : List Batch
  batches' = batches_after k.view r.batches step

  abbrev pub chains' : Chains
  chains' = chains_after k.layout k.view r.lawful.chains step found

  abbrev pub orders' : Orders
  orders' = orders_after k.layout k.view r.lawful.orders step found

  abbrev pub next : Known
  next = record k {
    view = view';
    past = take view'.past (settled slots');
    batches = batches_below view'.past batches';
    row = words';
    trail = trail_after k.layout k.view r.lawful.chains k.trail step;
    region = region_after k.region step;
    chain = chain_after k.chain step;
    spots = spots_after k.layout k.view (memory k.layout s.words) r.lawful.orders k.spots step found;
    order = orders' (own_region k.layout view');
    floor = floor_after k.view r.merger.merged_floor k.floor step;
  }

  abbrev pub after : State ℕ Known
  after = record { words = words'; homes = s.homes; views = set s.views id next }

  abbrev pub before : Setting
  before = setting s k r me_seated

  pub opens : May before step
  opens = open_there s k r me_seated step o

  -- the table's place and what stands there are those of the world
  pub finds : (k.view ≡ view_at k.layout r.views k.number)
      × (index_of k.layout word ≡ index_of k.layout (seat_word (world s k r me_seated) r.lawful k.number step (number_inside s k r me_seated) opens))
      × (found ≡ memory_of (world s k r me_seated) (seat_word (world s k r me_seated) r.lawful k.number step (number_inside s k r me_seated) opens))
  finds = let e = sym me_seated.view in
      let there = seat_there (world s k r me_seated) r.lawful k.number step (number_inside s k r me_seated) opens in
      let place = ap (λ (u : View). index_of k.layout (word_of k.layout k.number u step)) e in (
        e,
        place,
        ap (λ (n : ℕ). get_or s.words n 0) place
            ∙ sym (memory-at k.layout s.words (word_of k.layout k.number (view_at k.layout r.views k.number) step) there),
      )

  -- what is found is what the word has, and the word is there
  pub finds_word : found ≡ memory k.layout s.words word
  finds_word = finds.2 ∙ ap (λ (u : View). memory k.layout s.words (word_of k.layout k.number u step)) (sym finds.0)

  pub word_there : is_word k.layout word ≡ true
  word_there = subst (λ (u : View). is_word k.layout (word_of k.layout k.number u step) ≡ true) (sym finds.0)
      (seat_there (world s k r me_seated) r.lawful k.number step (number_inside s k r me_seated) opens)

  -- the memory after the step
  pub same_memory : memory k.layout words' ≡ memory_by before step
  same_memory =
      let there = seat_there (world s k r me_seated) r.lawful k.number step (number_inside s k r me_seated) opens in
      let e = seat_writes (world s k r me_seated) r.lawful k.number step (number_inside s k r me_seated) opens k.view view' (index_of k.layout word) found
      (changed k.layout k.view step found) slots' batches' finds refl refl refl refl in
      ap (λ (w : WorldState). memory k.layout w.words) e
      ∙ memory-set k.layout s.words (word_of k.layout k.number (view_at k.layout r.views k.number) step)
      (changed k.layout (v before) step (found_by before step)) there r.lawful.size

  abbrev pub lawful' : IsLawful (world_of k.layout words' views' r.merger slots' batches')
  lawful' = record {
    sound = r.lawful.sound;
    size = length-set s.words (index_of k.layout word) (changed k.layout k.view step found) ∙ r.lawful.size;
    chains = chains';
    orders = orders';
    law = subst (λ (y : Memory × View × ℕ). LawOf k.layout y.0 (set r.views k.number (view_after k.layout k.number y.1 step y.2)) r.merger
        (slots_after k.number r.slots step y.2) (batches_after y.1 r.batches step) (chains_after k.layout y.1 r.lawful.chains step y.2)
        (orders_after k.layout y.1 r.lawful.orders step y.2))
        (λ i. (sym same_memory i, sym finds.0 i, sym finds.2 i)) (kept_by before step opens);
  }

  same_slots : slots_by before step ≡ slots'
  same_slots = ap (λ (n : ℕ). slots_after k.number r.slots step n) (sym finds.2)

  same_orders : orders_by before step ≡ orders'
  same_orders = λ i. orders_after k.layout (sym finds.0 i) r.lawful.orders step (sym finds.2 i)

  -- a spot of a seat's stays one
  kept_spot : (held : Option ℕ) (past p key : ℕ) → IsSpot k.layout (memory k.layout s.words) r.lawful.orders held past p key
      → IsSpot k.layout (memory k.layout words') orders' held past p key
  kept_spot held past p key = spot_kept k.layout (memory k.layout s.words) (memory k.layout words') r.lawful.orders orders' held past p key
      (λ e epoch stands. (
        subst (λ (lists : Orders). In p (lists (e % 2))) same_orders (ordered_by before step opens (e % 2) p stands),
        (λ i. key_at (same_memory i) p) ∙ keys_by before step opens (e % 2) p stands,
      ))

  -- the lists only grow
  pub grown_order : (region : ℕ) → Extends (r.lawful.orders region) (orders' region)
  grown_order region = subst (λ (lists : Orders). Extends (r.lawful.orders region) (lists region)) same_orders (grows_by before step opens region)

  pub grown : HaveGrown r.slots slots'
  grown = subst (HaveGrown r.slots) same_slots record { longer = longer_by before step opens; stay = slots_kept_by before step opens }

  pub told_stays : (list : List Slot) → Begins r.slots list → Begins slots' list
  told_stays list b = begins_stay r.slots slots' list grown b

  -- what a seat knew of the history stays
  pub past_stays : (j : Known) → IsSeated k.layout s.words r.merger r.slots r.batches r.lawful.chains r.lawful.orders r.views j → j.past
      ≡ take j.view.past (settled slots')
  past_stays j h =
      let decided : (t : ℕ) → t < j.view.past → outcome_at r.slots t ≢ None =
      λ t lt. r.lawful.law.past j.number t (subst (λ (u : View). t < u.past) (sym h.view) lt) in
      let bound : j.view.past ≤ length r.slots = subst (λ (u : View). u.past ≤ length r.slots) h.view (past_below before.ground j.number) in
      h.past ∙ decided_stay r.slots slots' j.view.past grown bound decided

  -- the batches that begin below a time up to the clock stay
  pub below_stay : (t : ℕ) → t ≤ memory k.layout s.words Clock → batches_below t r.batches ≡ batches_below t batches'
  below_stay t le = sym (batches_stay before step opens t le) ∙ ap (λ (u : View). batches_below t (batches_after u r.batches step)) (sym finds.0)

  pub batches_known : (j : Known) → IsSeated k.layout s.words r.merger r.slots r.batches r.lawful.chains r.lawful.orders r.views j → j.batches
      ≡ batches_below j.view.past batches'
  batches_known j h = h.listed ∙ below_stay j.view.past (subst (λ (u : View). u.past ≤ memory k.layout s.words Clock) h.view (r.lawful.law.past_clock j.number))

  -- a view after the step, and the one that stood there before
  back : (i : ℕ) (j : Known) → get_elem? after.views i ≡ some j → ((i ≡ id) × (next ≡ j)) ⊎ ((i ≢ id) × (get_elem? s.views i ≡ some j))
  back i j e = at_set s.views id i next j e

  abbrev Was : ℕ → Known → Type 0
  Was i j = (old : Known) × (get_elem? s.views i ≡ some old) × (old.number ≡ j.number) × (old.seated ≡ j.seated) × (old.dealt ≡ j.dealt)
      × (told_of old ≡ told_of j) × (old.heard ≡ j.heard) × (old.merges ≡ j.merges)

  was : (i : ℕ) (j : Known) → get_elem? after.views i ≡ some j → Was i j
  was i j e = ⊎_elim
      (λ (t : (i ≡ id) × (next ≡ j)). subst (λ (y : ℕ × Known). Was y.0 y.1) (λ m. (sym t.0 m, t.1 m)) (k, at, refl, refl, refl, refl, refl, refl))
      (λ (t : (i ≢ id) × (get_elem? s.views i ≡ some j)). (j, t.1, refl, refl, refl, refl, refl, refl)) (back i j e)

  pub inside' : k.number < length r.views
  inside' = number_inside s k r me_seated

  pub next_seated : IsSeated k.layout words' r.merger slots' batches' chains' orders' views' next
  next_seated = record {
    layout = refl;
    inside = me_seated.inside;
    view = get_or-set_same r.views k.number view' (idle k.layout) inside';
    rows = rows_stay k.layout k.number k.view step found me_seated.rows;
    past = refl;
    listed = refl;
    row = λ c held w named. refl;
    cells = λ w known. refl;
    ways = λ cell t known chain way few along. ([], along);
    floor = own_floor k.layout k.number k.view r.merger (memory k.layout s.words) k.floor step found finds_word r.lawful.law.merged me_seated.floor;
    ends = ends_stay k.layout k.view r.lawful.chains step found (region_after k.region step) (chain_after k.chain step) next.trail
        (own_ends k.layout k.view r.lawful.chains k.trail k.region k.chain step me_seated.ends);
    line = own_line k.layout k.number k.view r.lawful.chains k.trail k.region k.chain step found word_there me_seated.line;
    spots = λ p key has. kept_spot view'.held view'.past p key (own_spots k.layout k.number k.view
        (memory k.layout s.words) r.lawful.orders k.spots step found me_seated.spots p key has);
    order = λ _. extends_self (orders' (own_region k.layout view'));
  }

  -- the words of runs stay
  pub run_word : (w : Word) → IsRunWord w → memory k.layout words' w ≡ memory k.layout s.words w
  run_word w is = (λ i. same_memory i w) ∙ stays w is where
    stays : (w : Word) → IsRunWord w → memory_by before step w ≡ memory k.layout s.words w
    stays (Count place) is = (runs_by before step opens place).count
    stays (Entry place entry part) is = (runs_by before step opens place).words entry part
    stays w is = absurd is

  -- and, while a seat holds a component, the words of the cells that it knows, and their chains but
  -- for their heads
  module _ (j : Known) (h : IsSeated k.layout s.words r.merger r.slots r.batches r.lawful.chains r.lawful.orders r.views j) where
    j_held : each k.layout View.held r.views j.number ≡ j.view.held
    j_held = ap (λ (u : View). u.held) h.view

    j_past : Begins r.slots j.past
    j_past = record { until = j.view.past; is = h.past; decided = λ t lt. r.lawful.law.past j.number t (subst (λ (u : View). t < u.past) (sym h.view) lt) }

    j_inside : j.number < length r.views
    j_inside = let a = r.lawful.law.seated in let b = h.inside in omega arith

    -- another seat holds what it held
    holds_on : (j.number ≡ k.number → ⊥) → (c : ℕ) → j.view.held ≡ Some c → each k.layout View.held (views_by before step) j.number ≡ Some c
    holds_on other c held = ap (λ (u : View). u.held) (get_or-set_other r.views k.number j.number
        (view_after k.layout k.number (v before) step (found_by before step)) (idle k.layout) other ∙ h.view) ∙ held

    module _ (still : (c : ℕ) → j.view.held ≡ Some c → each k.layout View.held (views_by before step) j.number ≡ Some c) where
      keeps : (c : ℕ) → j.view.held ≡ Some c → KeepsComponent k.layout (memory k.layout s.words) (memory_by before step) (length r.slots)
          (length (slots_by before step)) c
      keeps c e = held_kept_by before step opens j.number c (j_held ∙ e) (still c e)

      pub cell_word : (w : Word) → IsKnownWord j w → memory k.layout words' w ≡ memory k.layout s.words w
      cell_word w known = (λ i. same_memory i w)
          ∙ known_word_stays before.ground j.number j j_past j_inside j_held (memory_by before step) (length (slots_by before step))
          (linked_kept_by before step opens) keeps w (subst (λ (z : Layout). IsKnownWord (record j { layout = z }) w) h.layout known)

      pub cell_ways : (cell t : ℕ) → IsKnownIn j cell t → LeadsOn k.layout (memory k.layout s.words) (memory k.layout words') (region_of k.layout cell)
      cell_ways cell t known = subst (λ (m : Memory). LeadsOn k.layout (memory k.layout s.words) m (region_of k.layout cell)) (sym same_memory)
          (known_ways before.ground j.number j j_past j_inside j_held (memory_by before step) (length (slots_by before step))
          (linked_kept_by before step opens) keeps cell t (subst (λ (z : Layout). IsKnownIn (record j { layout = z }) cell t) h.layout known))

  seated' : (i : ℕ) (j : Known) → get_elem? after.views i ≡ some j → j.seated ≡ true
      → IsSeated k.layout words' r.merger slots' batches' chains' orders' views' j
  seated' i j e sat = ⊎_elim
      (λ (t : (i ≡ id) × (next ≡ j)). subst (IsSeated k.layout words' r.merger slots' batches' chains' orders' views') t.1 next_seated)
      (λ (t : (i ≢ id) × (get_elem? s.views i ≡ some j)). let h = r.seats.seated i j t.1 sat in record {
        layout = h.layout;
        inside = h.inside;
        view = get_or-set_other r.views k.number j.number view' (idle k.layout) (λ q. t.0 (r.seats.apart i id j k t.1 at sat sits q)) ∙ h.view;
        rows = h.rows;
        past = past_stays j h;
        listed = batches_known j h;
        row = λ c held w named. h.row c held w named ∙ sym (run_word w named.0);
        cells = λ w known. h.cells w known ∙ sym (cell_word j h (holds_on j h (λ q. t.0 (r.seats.apart i id j k t.1 at sat sits q))) w known);
        ways = λ cell u known. leads_trans k.layout (memory k.layout j.row) (memory k.layout s.words) (memory k.layout words') (region_of k.layout cell)
            (h.ways cell u known) (cell_ways j h (holds_on j h (λ q. t.0 (r.seats.apart i id j k t.1 at sat sits q))) cell u known);
        floor = h.floor;
        ends = ends_stay k.layout k.view r.lawful.chains step found j.region j.chain j.trail h.ends;
        line = h.line;
        spots = λ p key has. kept_spot j.view.held j.view.past p key (h.spots p key has);
        order = λ has. extends_trans j.order (r.lawful.orders (own_region k.layout j.view)) (orders' (own_region k.layout j.view)) (h.order has)
            (grown_order (own_region k.layout j.view));
      }) (back i j e)

  -- what the merger knows of its own words stays
  merging_row : (j : Known) → IsMerging k.layout s.words r.merger r.slots r.lawful.orders j → (w : Word) → IsOwn k.layout r.merger w
      → memory k.layout j.row w ≡ memory k.layout words' w
  merging_row j h w is = h.row w is ∙ sym (own_kept before step opens w is) ∙ sym (λ i. same_memory i w)

  abbrev pub after_ground : Ground
  after_ground = lawful_ground (world_of k.layout words' views' r.merger slots' batches') lawful'

  -- the clock never falls
  pub clock_rises : memory k.layout s.words Clock ≤ memory k.layout words' Clock
  clock_rises = let a = clock_by before step opens in let b : memory k.layout words' Clock ≡ memory_by before step Clock = λ i. same_memory i Clock in
      omega arith

  -- and the clock, while it holds the lock
  clock_stays : r.merger.exclusive ≡ true → length slots' ≡ length r.slots
  clock_stays e = sym (clock_merger after_ground e) ∙ (λ i. same_memory i Clock) ∙ own_kept before step opens Clock e ∙ clock_merger before.ground e

  known_stays : known_end k.layout r.merger (length slots') ≡ known_end k.layout r.merger (length r.slots)
  known_stays = by_bool (λ b. cond b (length slots') (cond (is_frozen r.merger.phase) (epoch_end k.layout r.merger)
      (r.merger.merged * k.layout.cells)) ≡ cond b (length r.slots) (cond (is_frozen r.merger.phase) (epoch_end k.layout r.merger)
      (r.merger.merged * k.layout.cells))) r.merger.exclusive
      clock_stays (λ _. refl)

  -- and the list of a frozen epoch
  list_stays : is_frozen r.merger.phase ≡ true → frozen_times k.layout r.merger orders' ≡ frozen_times k.layout r.merger r.lawful.orders
  list_stays frozen = ap (map (λ p. time_in k.layout r.merger.merged (p - 1)))
      (sym (λ i. same_orders i (r.merger.merged % 2)) ∙ list_kept before step opens frozen)

  merging_stays : (j : Known) → IsMerging k.layout s.words r.merger r.slots r.lawful.orders j → IsMerging k.layout words' r.merger slots' orders' j
  merging_stays j h = record {
    layout = h.layout;
    unseated = h.unseated;
    view = h.view;
    past = told_stays j.past h.past;
    reaches = let e = known_stays in let a = h.reaches in omega arith;
    sized = h.sized;
    row = merging_row j h;
    trail = λ frozen. h.trail frozen ∙ sym (list_stays frozen);
  }

  merging' : (i : ℕ) (j : Known) → get_elem? after.views i ≡ some j → j.merges ≡ true → IsMerging k.layout words' r.merger slots' orders' j
  merging' i j e p = ⊎_elim
      (λ (t : (i ≡ id) × (next ≡ j)). let mine : k.merges ≡ true = ap (λ (y : Known). y.merges) t.1 ∙ p in
      absurd (let f = (r.seats.merging id k at mine).unseated in cc (f, sits)))
      (λ (t : (i ≢ id) × (get_elem? s.views i ≡ some j)). merging_stays j (r.seats.merging i j t.1 p)) (back i j e)

  pub seats' : AreSeats k.layout words' r.merger slots' batches' chains' orders' views' after.views
  seats' = record {
    seated = seated';
    merging = merging';
    told = λ i j e. let w = was i j e in let h = r.seats.told i w.0 w.1 in record {
      begins = subst (λ (l : History). Begins slots' l.slots) w.5 (told_stays w.0.told h.begins);
      listed = subst (λ (l : History). l.batches ≡ batches_below (end_of l) batches') w.5 (h.listed ∙ below_stay (end_of (told_of w.0)) h.within);
      within = let a = h.within in let e = ap end_of w.5 in let g = clock_rises in omega arith;
      below = let a = h.below in let e = w.6 in let g = clock_rises in omega arith;
    };
    apart = λ i i' j j' e e' a a' q. let w = was i j e in let w' = was i' j' e' in
        r.seats.apart i i' w.0 w'.0 w.1 w'.1 (w.3 ∙ a) (w'.3 ∙ a') (w.2 ∙ q ∙ sym w'.2);
    dealer = λ i j e p. let w = was i j e in let d = r.seats.dealer i w.0 w.1 (w.7 ∙ p) in record {
      below = λ i' j' e' sat. let w' = was i' j' e' in let b = d.below i' w'.0 w'.1 (w'.3 ∙ sat) in let y = w.4 in let y' = w'.2 in omega arith;
      idle_above = λ m le. let b = d.below id k at sits in let y = w.4 in get_or-set_other r.views k.number m view' (idle k.layout) (λ q. omega arith)
          ∙ d.idle_above m (omega arith);
    };
    one = λ i i' j j' e e' p p'. let w = was i j e in let w' = was i' j' e' in r.seats.one i i' w.0 w'.0 w.1 w'.1 (w.7 ∙ p) (w'.7 ∙ p');
  }

  -- the rule holds after the step
  abbrev pub ruled' : Ruled k.layout after
  ruled' = record { views = views'; merger = r.merger; slots = slots'; batches = batches'; lawful = lawful'; seats = seats' }

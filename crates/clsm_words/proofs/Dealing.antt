-- How the table opens, a seat is dealt, and one tells another.
use Rattle.std.proofs.Common.{◌≡◌, ◌≢◌, ℕ, zero, suc, ◌+◌, ◌<◌, ◌≤◌, ◌⊎◌, true, false, List, [], ◌∷◌, ◌++◌, length, set, replicate, refl}
use Rattle.std.proofs.Common.{ap, ◌∙◌, sym, subst, inl, inr, ⊎_elim, arith, Option}
use mathlib.Core.Option.{some, some-injective, some-ne-none}
use lib.ListN.{get_elem?}
use Rattle.atomic_table.specs.Table.{State, Splits, Joins, opening}
use Rattle.atomic_table.proofs.Lists.{at_set, set_again}
use Rattle.clsm_model.specs.declared.batch.Batch.{Batch}
use Rattle.clsm_model.specs.declared.slot.Slot.{Slot}
use Rattle.clsm_model.specs.History.{plain}
use Rattle.clsm_model.proofs.Batches.{below_zero}
use Rattle.clsm_law.specs.declared.layout.Layout.{Layout}
use Rattle.clsm_law.specs.declared.word.Word.TheVariants.{Clock, Cell, State as StateOf}
use Rattle.clsm_law.specs.declared.word.Word.{Word}
use Rattle.clsm_law.specs.declared.view.View.{View}
use Rattle.clsm_law.specs.declared.merger.MergerView.{MergerView}
use Rattle.clsm_law.specs.Layout.{memory}
use Rattle.clsm_law.specs.Views.{idle}
use Rattle.clsm_law.specs.Relation.{Chains, Orders}
use Rattle.clsm_law.specs.Merging.{opening as opening_merger}
use Rattle.clsm_law.specs.Worlds.{view_at}
use Rattle.clsm_law.specs.Machine.{IsLawful, opened}
use Rattle.clsm_law.proofs.Rows.Memory.{is_layout}
use Rattle.clsm_law.proofs.Opening.{opened_lawful, idle_at}
use Rattle.clsm_words.specs.Seats.{MessageState}
use Rattle.clsm_words.specs.Plays.{Learns}
use Rattle.clsm_words.specs.declared.known.Known.{Known}
use Rattle.clsm_words.specs.Knowing.{unplayed, new_merger, deals, known_of, told_of, messenger, learns}
use Rattle.clsm_words.specs.Knowing.{IsKnownWord, Sound}
use Rattle.clsm_words.specs.Merging.{IsSoundMerger}
use Rattle.clsm_words.specs.Ruled.{world_of, IsSeated, IsTold, IsMerging, IsDealing, AreSeats, Ruled}
use Rattle.clsm_words.proofs.Trails.{end_none}
use Rattle.clsm_words.proofs.Rows.{idle_rows}
use Rattle.clsm_words.proofs.Knows.{own_batches, own_past, past_clock, past_long, sound_of}
use Rattle.clsm_words.proofs.MergerKnows.{sound_merger}

at_end : {A : Type 0} (l : List A) (a b : A) (j : ℕ) → get_elem? (l ++ a ∷ []) j ≡ some b → (get_elem? l j ≡ some b) ⊎ ((j ≡ length l) × (a ≡ b))
at_end [] a b zero e = inr (refl, some-injective a b e)
at_end [] a b (suc j) e = absurd (some-ne-none b (sym e))
at_end (x ∷ xs) a b zero e = inl e
at_end (x ∷ xs) a b (suc j) e = ⊎_elim (λ (h : get_elem? xs j ≡ some b). inl h) (λ (h : (j ≡ length xs) × (a ≡ b)). inr (ap suc h.0, h.1)) (at_end xs a b j e)

-- nothing is told
untold : (clock : ℕ) (slots : List (Option Slot)) (batches : List Batch) → IsTold clock slots batches (plain []) 0
untold clock slots batches = record {
  begins = record { until = 0; is = refl; decided = λ t lt. absurd (omega arith) };
  listed = sym (below_zero batches);
  within = omega arith;
  below = omega arith;
}

-- ---- the opening

-- it knows of no time
knows_none : (z : Layout) (number : ℕ) (word : Word) → IsKnownWord (unplayed z number) word → ⊥
knows_none z number (StateOf cell) known = known.1.2
knows_none z number (Cell cell part) known = known.1.2
knows_none z number word known = known

newcomer_seated : (z : Layout) (words : List ℕ) (m : MergerView) (slots : List (Option Slot)) (batches : List Batch) (chains : Chains) (orders : Orders)
    (views : List View) (number : ℕ) → number < z.seats → view_at z views number ≡ idle z
    → IsSeated z words m slots batches chains orders views (unplayed z number)
newcomer_seated z words m slots batches chains orders views number lt is = record {
  layout = refl;
  inside = lt;
  view = is;
  rows = idle_rows z;
  past = refl;
  listed = sym (below_zero batches);
  row = λ c held. absurd cc;
  floor = λ c held. absurd cc;
  cells = λ word known. absurd (knows_none z number word known);
  ways = λ cell t known. absurd known.2;
  ends = end_none (chains 0 0);
  line = λ some. absurd (some refl);
  spots = λ p key none. absurd cc;
  order = λ some. absurd (some refl);
}

-- the merger's seat at the opening
new_merging : (z : Layout) (orders : Orders) → IsMerging z (opened z).words (opening_merger z) [] orders (new_merger z)
new_merging z orders = record {
  layout = refl;
  unseated = refl;
  view = refl;
  past = (untold 0 [] []).begins;
  reaches = omega arith;
  sized = (opened_lawful z (is_layout z)).size;
  row = λ word own. refl;
  trail = λ frozen. absurd cc;
}

abbrev opening_lawful : (z : Layout) (words : List ℕ) → words ≡ (opened z).words
    → IsLawful (world_of z words (replicate z.seats (idle z)) (opening_merger z) [] [])
opening_lawful z words e = subst (λ (ws : List ℕ). IsLawful (world_of z ws (replicate z.seats (idle z)) (opening_merger z) [] [])) (sym e)
    (opened_lawful z (is_layout z))

pub opens : (z : Layout) (words : List ℕ) → words ≡ (opened z).words → Ruled z (opening words [] (new_merger z))
opens z words e = record {
  views = replicate z.seats (idle z);
  merger = opening_merger z;
  slots = [];
  batches = [];
  lawful = opening_lawful z words e;
  seats = record {
    seated = λ i k e' sat. absurd (let m : false ≡ k.seated = ap (λ (k : Known). k.seated) (only i k e').1 in cc (m, sat));
    merging = λ i k e' _. subst (λ (y : List ℕ × Known). IsMerging z y.0 (opening_merger z) [] (opening_lawful z words e).orders y.1)
        (λ m. (sym e m, (only i k e').1 m)) (new_merging z (opening_lawful z words e).orders);
    told = λ i k e'. subst (λ (k : Known). IsTold (memory z words Clock) [] [] (told_of k) k.heard) (only i k e').1 (untold (memory z words Clock) [] []);
    apart = λ i j k k' e' f' _ _ _. (only i k e').0 ∙ sym (only j k' f').0;
    dealer = λ i k e' _. subst (λ (k : Known). IsDealing z (replicate z.seats (idle z)) (new_merger z ∷ []) k.dealt) (only i k e').1 record {
      below = λ j k' f' sat. absurd (let m : false ≡ k'.seated = ap (λ (k : Known). k.seated) (only j k' f').1 in cc (m, sat));
      idle_above = λ i _. idle_at z z.seats i;
    };
    one = λ i j k k' e' f' _ _. (only i k e').0 ∙ sym (only j k' f').0;
  };
}
  where
    only : (i : ℕ) (k : Known) → get_elem? (new_merger z ∷ []) i ≡ some k → (i ≡ 0) × (new_merger z ≡ k)
    only zero k e = (refl, some-injective _ k e)
    only (suc i) k e = absurd (some-ne-none k (sym e))

-- a fresh seat knows what each seat knows
pub fresh_sound : (z : Layout) (number : ℕ) → number < z.seats → Sound (unplayed z number)
unfolding opens
fresh_sound z number lt = let r = opens z (opened z).words refl in sound_of (opening (opened z).words [] (new_merger z)) (unplayed z number) r
    (newcomer_seated z (opened z).words r.merger r.slots r.batches r.lawful.chains r.lawful.orders (replicate z.seats (idle z)) number lt
    (idle_at z z.seats number)) refl

pub new_sound : (z : Layout) → IsSoundMerger (new_merger z)
unfolding opens
new_sound z = sound_merger (opening (opened z).words [] (new_merger z)) (new_merger z) (opens z (opened z).words refl)
    (new_merging z (opens z (opened z).words refl).lawful.orders) refl

pub learns_sound : (k k' : Known) (message : MessageState) → Learns k message k' → Sound k → Sound k'
learns_sound k k' message learns s = subst Sound (sym learns) record {
  seated = s.seated;
  inside = s.inside;
  there = s.there;
  small = s.small;
  small_for = s.small_for;
  unstaged = s.unstaged;
  rows = s.rows;
  length_is = s.length_is;
  in_turn = s.in_turn;
  agrees = s.agrees;
  right = s.right;
  fits = s.fits;
  rising = s.rising;
  in_time = s.in_time;
  own_region = s.own_region;
  own_places = λ p drawn some known. let h = s.own_places p drawn some known in
      record { inside = h.inside; region = h.region };
  ranked = s.ranked;
  opened = s.opened;
  reads = λ c held. let h = s.reads c held in
      record { near = h.near; below_merged = h.below_merged; below_snapshot = h.below_snapshot; runs = h.runs };
  keyed = s.keyed;
  spotted =
      λ p key has. let h = s.spotted p key has in record { epoch = h.epoch; walked = h.walked; some = h.some; inside = h.inside; region = h.region };
}

pub learns_sound_merger : (k k' : Known) (message : MessageState) → Learns k message k' → IsSoundMerger k → IsSoundMerger k'
learns_sound_merger k k' message learns s = subst IsSoundMerger (sym learns) record {
  merges = s.merges;
  there = s.there;
  seats = s.seats;
  reaches = s.reaches;
  clock = s.clock;
  mergeable = s.mergeable;
  runs = s.runs;
  floors = s.floors;
  short = s.short;
  listed = λ frozen. let h = s.listed frozen in
      record { few = h.few; inside = h.inside; standing = h.standing; rise = h.rise };
}

-- ---- dealing

-- the old view o with what j dealt and was told
abbrev recounted : Known → Known → Known
recounted o j = record o { dealt = j.dealt; told = j.told; told_batches = j.told_batches; heard = j.heard }

-- an old view may have other numbers of what it dealt and was told
pub record Like (o j : Known) : Type 0 where
  pub seated : o.seated ≡ j.seated
  pub merges : o.merges ≡ j.merges
  pub number : o.number ≡ j.number
  pub rest : recounted o j ≡ j

alike : (k : Known) → Like k k
alike k = record { seated = refl; merges = refl; number = refl; rest = refl }

like_seated : (z : Layout) (words : List ℕ) (m : MergerView) (slots : List (Option Slot)) (batches : List Batch) (chains : Chains) (orders : Orders)
    (views : List View) (o j : Known) → Like o j → IsSeated z words m slots batches chains orders views o
    → IsSeated z words m slots batches chains orders views j
like_seated z words m slots batches chains orders views o j l h = subst (IsSeated z words m slots batches chains orders views) l.rest record {
  layout = h.layout;
  inside = h.inside;
  view = h.view;
  rows = h.rows;
  past = h.past;
  listed = h.listed;
  row = h.row;
  floor = h.floor;
  cells = h.cells;
  ways = h.ways;
  ends = h.ends;
  line = h.line;
  spots = h.spots;
  order = h.order;
}

like_merging : (z : Layout) (words : List ℕ) (m : MergerView) (slots : List (Option Slot)) (orders : Orders) (o j : Known) → Like o j
    → IsMerging z words m slots orders o → IsMerging z words m slots orders j
like_merging z words m slots orders o j l h = subst (IsMerging z words m slots orders) l.rest record {
  layout = h.layout;
  unseated = h.unseated;
  view = h.view;
  past = h.past;
  reaches = h.reaches;
  sized = h.sized;
  row = h.row;
  trail = h.trail;
}

-- the merger's seat deals the callers' seats, one after another
module _ (id : ℕ) (k : Known) (merges : k.merges ≡ true) (room : k.dealt < k.layout.seats) (s : State ℕ Known) (r : Ruled k.layout s)
    (at : get_elem? s.views id ≡ some k) where
  abbrev right : Known
  right = unplayed k.layout k.dealt

  abbrev mid : List Known
  mid = set s.views id (deals k)

  -- one of the old views: the dealer, or another, which deals nothing
  abbrev Old : ℕ → Known → Type 0
  Old i j = (o : Known) × (get_elem? s.views i ≡ some o) × Like o j × (IsTold (memory k.layout s.words Clock) r.slots r.batches (told_of j) j.heard)
      × (j.merges ≡ true → j.dealt ≡ k.dealt + 1)

  dealt_like : Like k (deals k)
  dealt_like = record { seated = refl; merges = refl; number = refl; rest = refl }

  old : (i : ℕ) (j : Known) → get_elem? mid i ≡ some j → Old i j
  old i j e = ⊎_elim
      (λ (t : (i ≡ id) × (deals k ≡ j)). subst (λ (y : ℕ × Known). Old y.0 y.1) (λ m. (sym t.0 m, t.1 m)) (k, at, dealt_like, r.seats.told id k at, λ _. refl))
      (λ (t : (i ≢ id) × (get_elem? s.views i ≡ some j)). (j, t.1, alike j, r.seats.told i j t.1, λ p. absurd (t.0 (r.seats.one i id j k t.1 at p merges))))
      (at_set s.views id i (deals k) j e)

  split : (i : ℕ) (j : Known) → get_elem? (mid ++ right ∷ []) i ≡ some j → Old i j ⊎ ((i ≡ length mid) × (right ≡ j))
  split i j e = ⊎_elim (λ (h : get_elem? mid i ≡ some j). inl (old i j h)) (λ (h : (i ≡ length mid) × (right ≡ j)). inr h) (at_end mid right j i e)

  below : (i : ℕ) (j : Known) → Old i j → j.seated ≡ true → j.number < k.dealt
  below i j o sat = let b = (r.seats.dealer id k at merges).below i o.0 o.1 (o.2.seated ∙ sat) in let e = o.2.number in omega arith

  -- the new one does not merge
  merges_not : (j : Known) → right ≡ j → j.merges ≡ true → ⊥
  merges_not j e p = let m : false ≡ j.merges = ap (λ (y : Known). y.merges) e in absurd (cc (m, p))

  -- whoever merges is the dealer
  deals_at : (i : ℕ) (j : Known) → get_elem? (mid ++ right ∷ []) i ≡ some j → j.merges ≡ true → i ≡ id
  deals_at i j e p = ⊎_elim
      (λ (h : get_elem? mid i ≡ some j). ⊎_elim (λ (t : (i ≡ id) × (deals k ≡ j)). t.0)
      (λ (t : (i ≢ id) × (get_elem? s.views i ≡ some j)). r.seats.one i id j k t.1 at p merges) (at_set s.views id i (deals k) j h))
      (λ (h : (i ≡ length mid) × (right ≡ j)). absurd (merges_not j h.1 p))
      (at_end mid right j i e)

  right_seated : IsSeated k.layout s.words r.merger r.slots r.batches r.lawful.chains r.lawful.orders r.views right
  right_seated = newcomer_seated k.layout s.words r.merger r.slots r.batches r.lawful.chains r.lawful.orders r.views k.dealt room
      ((r.seats.dealer id k at merges).idle_above k.dealt (omega arith))

  dealt_seats : AreSeats k.layout s.words r.merger r.slots r.batches r.lawful.chains r.lawful.orders r.views (mid ++ right ∷ [])
  dealt_seats = record {
    seated = λ i j e sat. ⊎_elim
        (λ (o : Old i j). like_seated k.layout s.words r.merger r.slots r.batches r.lawful.chains r.lawful.orders r.views o.0 j o.2
        (r.seats.seated i o.0 o.1 (o.2.seated ∙ sat)))
        (λ (h : (i ≡ length mid) × (right ≡ j)). subst (IsSeated k.layout s.words r.merger r.slots r.batches r.lawful.chains r.lawful.orders r.views) h.1
        right_seated)
        (split i j e);
    merging = λ i j e p. ⊎_elim
        (λ (o : Old i j). like_merging k.layout s.words r.merger r.slots r.lawful.orders o.0 j o.2 (r.seats.merging i o.0 o.1 (o.2.merges ∙ p)))
        (λ (h : (i ≡ length mid) × (right ≡ j)). absurd (merges_not j h.1 p))
        (split i j e);
    told = λ i j e. ⊎_elim
        (λ (o : Old i j). o.3)
        (λ (h : (i ≡ length mid) × (right ≡ j)). subst (λ (j : Known). IsTold (memory k.layout s.words Clock) r.slots r.batches (told_of j) j.heard) h.1
        (untold (memory k.layout s.words Clock) r.slots r.batches))
        (split i j e);
    apart = λ i i' j j' e e' sat sat' q. ⊎_elim
        (λ (o : Old i j). ⊎_elim
        (λ (o' : Old i' j'). r.seats.apart i i' o.0 o'.0 o.1 o'.1 (o.2.seated ∙ sat) (o'.2.seated ∙ sat') (o.2.number ∙ q ∙ sym o'.2.number))
        (λ (h' : (i' ≡ length mid) × (right ≡ j')). absurd (let b = below i j o sat in let m : k.dealt ≡ j'.number = ap (λ (y : Known). y.number) h'.1 in
        omega arith))
        (split i' j' e'))
        (λ (h : (i ≡ length mid) × (right ≡ j)). ⊎_elim
        (λ (o' : Old i' j'). absurd (let b = below i' j' o' sat' in let m : k.dealt ≡ j.number = ap (λ (y : Known). y.number) h.1 in omega arith))
        (λ (h' : (i' ≡ length mid) × (right ≡ j')). h.0 ∙ sym h'.0)
        (split i' j' e'))
        (split i j e);
    dealer = λ i j e p. ⊎_elim
        (λ (o : Old i j). let now = o.4 p in record {
          below = λ i' j' e' sat. ⊎_elim
              (λ (o' : Old i' j'). let b = below i' j' o' sat in omega arith)
              (λ (h' : (i' ≡ length mid) × (right ≡ j')). let m : k.dealt ≡ j'.number = ap (λ (y : Known). y.number) h'.1 in omega arith)
              (split i' j' e');
          idle_above = λ m le. (r.seats.dealer id k at merges).idle_above m (omega arith);
        })
        (λ (h : (i ≡ length mid) × (right ≡ j)). absurd (merges_not j h.1 p))
        (split i j e);
    one = λ i i' j j' e e' p p'. deals_at i j e p ∙ sym (deals_at i' j' e' p');
  }

  pub dealt_on : Ruled k.layout record { words = s.words; homes = s.homes; views = mid ++ right ∷ [] }
  dealt_on = record { views = r.views; merger = r.merger; slots = r.slots; batches = r.batches; lawful = r.lawful; seats = dealt_seats }

pub deals_one : (id : ℕ) (k : Known) → k.merges ≡ true → k.dealt < k.layout.seats → Splits (Ruled k.layout) id k (deals k) (unplayed k.layout k.dealt)
deals_one id k merges room s r at = dealt_on id k merges room s r at

-- ---- telling

-- what only carries a past is no seat
abbrev IsMessenger : ℕ → List (Option Slot) → List Batch → Known → Type 0
IsMessenger clock slots batches j = (j.seated ≡ false) × (j.merges ≡ false) × IsTold clock slots batches (told_of j) j.heard

-- it was one of these views, told what it is told, and it dealt as many
abbrev WasIn : ℕ → List (Option Slot) → List Batch → List Known → ℕ → Known → Type 0
WasIn clock slots batches a i j = (o : Known) × (get_elem? a i ≡ some o) × Like o j × (o.dealt ≡ j.dealt) × IsTold clock slots batches (told_of j) j.heard

module _ (z : Layout) (words : List ℕ) (m : MergerView) (slots : List (Option Slot)) (batches : List Batch) (chains : Chains) (orders : Orders)
    (views : List View) (a b : List Known) (q : AreSeats z words m slots batches chains orders views a) where
  abbrev Was : ℕ → Known → Type 0
  Was = WasIn (memory z words Clock) slots batches a

  module _ (back : (i : ℕ) (j : Known) → get_elem? b i ≡ some j → IsMessenger (memory z words Clock) slots batches j ⊎ Was i j) where
    sat_was : (i : ℕ) (j : Known) → get_elem? b i ≡ some j → j.seated ≡ true → Was i j
    sat_was i j e sat = ⊎_elim (λ (m : IsMessenger (memory z words Clock) slots batches j). absurd (let f : true ≡ false = sym sat ∙ m.0 in cc))
        (λ (w : Was i j). w) (back i j e)

    merged_was : (i : ℕ) (j : Known) → get_elem? b i ≡ some j → j.merges ≡ true → Was i j
    merged_was i j e p = ⊎_elim (λ (m : IsMessenger (memory z words Clock) slots batches j). absurd (let f : true ≡ false = sym p ∙ m.1 in cc))
        (λ (w : Was i j). w) (back i j e)

    regroup : AreSeats z words m slots batches chains orders views b
    regroup = record {
      seated = λ i j e sat. let w = sat_was i j e sat in like_seated z words m slots batches chains orders views w.0 j w.2
          (q.seated i w.0 w.1 (w.2.seated ∙ sat));
      merging = λ i j e p. let w = merged_was i j e p in like_merging z words m slots orders w.0 j w.2 (q.merging i w.0 w.1 (w.2.merges ∙ p));
      told = λ i j e. ⊎_elim (λ (m : IsMessenger (memory z words Clock) slots batches j). m.2) (λ (w : Was i j). w.4) (back i j e);
      apart = λ i i' j j' e e' sat sat' same. let w = sat_was i j e sat in let w' = sat_was i' j' e' sat' in
          q.apart i i' w.0 w'.0 w.1 w'.1 (w.2.seated ∙ sat) (w'.2.seated ∙ sat') (w.2.number ∙ same ∙ sym w'.2.number);
      dealer = λ i j e p. let w = merged_was i j e p in let d = q.dealer i w.0 w.1 (w.2.merges ∙ p) in record {
        below = λ i' j' e' sat. let w' = sat_was i' j' e' sat in let b = d.below i' w'.0 w'.1 (w'.2.seated ∙ sat) in let y = w.3 in let y' = w'.2.number in
            omega arith;
        idle_above = λ m le. d.idle_above m (let y = w.3 in omega arith);
      };
      one = λ i i' j j' e e' p p'. let w = merged_was i j e p in let w' = merged_was i' j' e' p' in
          q.one i i' w.0 w'.0 w.1 w'.1 (w.2.merges ∙ p) (w'.2.merges ∙ p');
    }

-- a seat tells its past and its due
module _ (id : ℕ) (k : Known) (sits : k.seated ≡ true) (s : State ℕ Known) (r : Ruled k.layout s) (at : get_elem? s.views id ≡ some k) where
  abbrev sent : Known
  sent = messenger (known_of k) k.view.due

  sent_told : IsTold (memory k.layout s.words Clock) r.slots r.batches (known_of k) k.view.due
  sent_told = let ok = r.seats.seated id k at sits in record {
    begins = own_past s k r ok;
    listed = own_batches s k r ok;
    within = let a = past_long s k r ok in let b = past_clock s k r ok in omega arith;
    below = subst (λ (u : View). u.due ≤ memory k.layout s.words Clock) ok.view (r.lawful.law.dues k.number);
  }

  told_seats : AreSeats k.layout s.words r.merger r.slots r.batches r.lawful.chains r.lawful.orders r.views (set s.views id k ++ sent ∷ [])
  told_seats = regroup k.layout s.words r.merger r.slots r.batches r.lawful.chains r.lawful.orders r.views s.views (set s.views id k ++ sent ∷ []) r.seats
      (λ i j e. ⊎_elim
      (λ (h : get_elem? (set s.views id k) i ≡ some j). let h' : get_elem? s.views i ≡ some j = subst (λ (vs : List Known). get_elem? vs i ≡ some j)
      (set_again s.views id k at) h in
      inr (j, h', alike j, refl, r.seats.told i j h'))
      (λ (h : (i ≡ length (set s.views id k)) × (sent ≡ j)). inl (subst (IsMessenger (memory k.layout s.words Clock) r.slots r.batches) h.1
      (refl, refl, sent_told)))
      (at_end (set s.views id k) sent j i e))

  pub told_on : Ruled k.layout record { words = s.words; homes = s.homes; views = set s.views id k ++ sent ∷ [] }
  told_on = record { views = r.views; merger = r.merger; slots = r.slots; batches = r.batches; lawful = r.lawful; seats = told_seats }

pub tells_one : (id : ℕ) (k : Known) → k.seated ≡ true → Splits (Ruled k.layout) id k k (messenger (known_of k) k.view.due)
tells_one id k sits s r at = told_on id k sits s r at

-- another learns of it
module _ (z : Layout) (id other : ℕ) (k m : Known) (s : State ℕ Known) (r : Ruled z s) (at : get_elem? s.views id ≡ some k)
    (there : get_elem? s.views other ≡ some m) where
  abbrev both : Known
  both = learns k m

  both_like : Like k both
  both_like = record { seated = refl; merges = refl; number = refl; rest = refl }

  abbrev spent : Known
  spent = messenger (plain []) 0

  abbrev joined : List Known
  joined = set (set s.views id both) other spent

  both_told : IsTold (memory z s.words Clock) r.slots r.batches (told_of m) both.heard
  both_told = record {
    begins = (r.seats.told other m there).begins;
    listed = (r.seats.told other m there).listed;
    within = (r.seats.told other m there).within;
    below = let a = (r.seats.told id k at).below in let b = (r.seats.told other m there).below in
        omega arith;
  }

  abbrev WasThere : ℕ → Known → Type 0
  WasThere = WasIn (memory z s.words Clock) r.slots r.batches s.views

  joined_back : (i : ℕ) (j : Known) → get_elem? joined i ≡ some j → IsMessenger (memory z s.words Clock) r.slots r.batches j ⊎ WasThere i j
  joined_back i j e = ⊎_elim
      (λ (t : (i ≡ other) × (spent ≡ j)). inl (subst (IsMessenger (memory z s.words Clock) r.slots r.batches) t.1
      (refl, refl, untold (memory z s.words Clock) r.slots r.batches)))
      (λ (t : (i ≢ other) × (get_elem? (set s.views id both) i ≡ some j)). ⊎_elim
      (λ (u : (i ≡ id) × (both ≡ j)). inr (subst (λ (y : ℕ × Known). WasThere y.0 y.1) (λ l. (sym u.0 l, u.1 l)) (k, at, both_like, refl, both_told)))
      (λ (u : (i ≢ id) × (get_elem? s.views i ≡ some j)). inr (j, u.1, alike j, refl, r.seats.told i j u.1))
      (at_set s.views id i both j t.1))
      (at_set (set s.views id both) other i spent j e)

  pub learned_on : Ruled z record { words = s.words; homes = s.homes; views = joined }
  learned_on = record {
    views = r.views;
    merger = r.merger;
    slots = r.slots;
    batches = r.batches;
    lawful = r.lawful;
    seats = regroup z s.words r.merger r.slots r.batches r.lawful.chains r.lawful.orders r.views s.views joined r.seats joined_back;
  }

pub learns_one : (z : Layout) (id other : ℕ) (k m : Known) → m.seated ≡ false → m.merges ≡ false
    → Joins (Ruled z) id k other m (learns k m) (messenger (plain []) 0)
learns_one z id other k m carries none s r at apart there =
    learned_on z id other k m s r at (⊎_elim (λ (t : (other ≡ id) × (learns k m ≡ m)). absurd (apart t.0))
    (λ (t : (other ≢ id) × (get_elem? s.views other ≡ some m)). t.1) (at_set s.views id other (learns k m) m there))

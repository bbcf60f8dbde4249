-- Rows by falling key, window by window.
use Rattle.std.proofs.Common.{◌≡◌, ◌∙◌, ℕ, ◌+◌, ◌*◌, ◌<◌, ◌≤◌, ◌==◌, Bool, true, false, cond, List, [], ◌∷◌, ◌++◌, length, map, reverse, take}
use Rattle.std.proofs.Common.{ap, refl, subst, sym, arith, inl, inr, Option, Some, None}
use Rattle.std.proofs.lemmas.Bool.{cases_lt}
use Rattle.std.proofs.lemmas.List.{length-map, length-take-le, reverse-append, reverse-reverse}
use Rattle.std.proofs.lemmas.Map.Keys.{sorted_tail}
use Rattle.std.specs.Map.{keys_of}
use Rattle.std.specs.Ordering.{nat_cmp}
use Rattle.clsm_model.specs.History.{or_else}
use Rattle.clsm_model.specs.Map.{KeysRise, Pair, value_at}
use Rattle.clsm_model.proofs.Pages.{EachKey, each_below, or_none, rise-append, rise-nil, rise_first, value_at-append, value_at-behind, value_at-here}
use Rattle.clsm_levels.specs.Entry.{entries_of, first_below, value_of}
use Rattle.clsm_words.specs.declared.known.Known.{Known}
use Rattle.clsm_words.specs.Keeping.{LooksAside}
use Rattle.clsm_scan.specs.Collected.{AreAll, IsCollected, IsStopped, left_at}
use Rattle.clsm_scan.specs.Downwards.{IsCutDown, IsStoppedDown}
use Rattle.clsm_scan.specs.Filling.{AreFilled}
use Rattle.clsm_scan.specs.Sources.{found_in_component}
use Rattle.clsm_scan.proofs.AllWalks.{runs_same}
use Rattle.clsm_scan.proofs.ComponentCursors.{collected_same}

-- ---- pairs and their keys

none_behind : (x : Pair) (xs : List Pair) (k : ℕ) → value_at (x ∷ xs) k ≡ None → value_at xs k ≡ None
none_behind x xs k = elim (k == x.0) as (λ (b : Bool). cond b (Some x.1) (value_at xs k) ≡ None → value_at xs k ≡ None) [
  | true ↦ λ e. cc e
  | false ↦ λ e. e
]

-- where nothing is below a key, each pair is from there on
each_from : (m : ℕ) (pairs : List Pair) → ((k : ℕ) → k < m → value_at pairs k ≡ None) → EachKey (λ (k : ℕ). m ≤ k) pairs
each_from m [] none = tt
each_from m (x ∷ xs) none = (
  elim (cases_lt x.0 m) [
    | inl lt ↦ absurd (let some : Some x.1 ≡ None = sym (value_at-here x xs) ∙ none x.0 lt in cc some)
    | inr le ↦ le
  ],
  each_from m xs (λ k lt. none_behind x xs k (none k lt)),
)

-- what holds of each key, and not of this one
none_outside : (P : ℕ → Type 0) (xs : List Pair) (k : ℕ) → EachKey P xs → (P k → ⊥) → value_at xs k ≡ None
none_outside P [] k each not = refl
none_outside P (x ∷ xs) k each not = value_at-behind x xs k (λ e. not (subst P (sym e) each.0)) ∙ none_outside P xs k each.1 not

each_behind : (P : ℕ → Type 0) (xs ys : List Pair) → EachKey P (xs ++ ys) → EachKey P ys
each_behind P [] ys each = each
each_behind P (x ∷ xs) ys each = each_behind P xs ys each.1

rise_behind : (xs ys : List Pair) → KeysRise (xs ++ ys) → KeysRise ys
rise_behind [] ys rise = rise
rise_behind (x ∷ xs) ys rise = rise_behind xs ys (sorted_tail nat_cmp x.0 (keys_of (xs ++ ys)) rise)

rise_below : (xs : List Pair) (row : Pair) (ys : List Pair) → KeysRise (xs ++ row ∷ ys) → EachKey (λ (k : ℕ). k < row.0) xs
rise_below [] row ys rise = tt
rise_below (x ∷ xs) row ys rise = (
  (each_behind (λ (k : ℕ). x.0 < k) xs (row ∷ ys) (rise_first x (xs ++ row ∷ ys) rise)).0,
  rise_below xs row ys (sorted_tail nat_cmp x.0 (keys_of (xs ++ row ∷ ys)) rise),
)

number_in : (m n : ℕ) → Some m ≡ Some n → m ≡ n
number_in m n e = cc e

module _ (value : ℕ → Option (List ℕ)) where
  -- all up to a key, and all above it
  pub all_joined : (lo top hi : ℕ) (xs ys : List Pair) → lo ≤ top + 1 → top ≤ hi → AreAll value lo top xs → AreAll value (top + 1) hi ys
      → AreAll value lo hi (xs ++ ys)
  all_joined lo top hi xs ys low high left right = record {
    rise = rise-append (top + 1) xs ys left.rise right.rise (each_below (top + 1) xs (λ k le. left.above k (omega arith))) (each_from (top + 1) ys right.below);
    inside = λ k from until. value_at-append xs ys k ∙ elim (cases_lt k (top + 1)) [
      | inl lt ↦ ap (or_else (value_at xs k)) (right.below k lt) ∙ or_none (value_at xs k) ∙ left.inside k from (omega arith)
      | inr le ↦ ap (λ (o : Option (List ℕ)). or_else o (value_at ys k)) (left.above k (omega arith)) ∙ right.inside k le until
    ];
    below = λ k lt. value_at-append xs ys k ∙ ap (λ (o : Option (List ℕ)). or_else o (value_at ys k)) (left.below k lt) ∙ right.below k (omega arith);
    above = λ k lt. value_at-append xs ys k ∙ ap (λ (o : Option (List ℕ)). or_else o (value_at ys k)) (left.above k (omega arith)) ∙ right.above k lt;
  }

  -- a stopped page begins before the next one
  pub stopped_later : (lo hi most more : ℕ) (rows : List Pair) → 1 ≤ most → IsStopped value lo hi (Some most) rows more → lo < more
  stopped_later lo hi most more [] some is = absurd (let none = number_in most 0 is.full in omega arith)
  stopped_later lo hi most more (x ∷ xs) some is =
      let before = is.gives.ends.0 in
      let from = (each_from lo (x ∷ xs) is.gives.below).0 in
      omega arith

  -- ---- all rows, cut at one of them

  module _ (lo hi key : ℕ) (words : List ℕ) (lower upper : List Pair) (all : AreAll value lo hi (lower ++ (key, words) ∷ upper)) where
    abbrev row : Pair
    row = (key, words)

    later : KeysRise (row ∷ upper)
    later = rise_behind lower (row ∷ upper) all.rise

    lower_none : (k : ℕ) → key ≤ k → value_at lower k ≡ None
    lower_none k le = none_outside (λ (j : ℕ). j < key) lower k (rise_below lower row upper all.rise) (λ (lt : k < key). omega arith)

    found : (k : ℕ) → key ≤ k → value_at (lower ++ row ∷ upper) k ≡ value_at (row ∷ upper) k
    found k le = value_at-append lower (row ∷ upper) k ∙ ap (λ (o : Option (List ℕ)). or_else o (value_at (row ∷ upper) k)) (lower_none k le)

    here : value_at (lower ++ row ∷ upper) key ≡ Some words
    here = found key (omega arith) ∙ value_at-here row upper

    behind : (k : ℕ) → key < k → value_at (lower ++ row ∷ upper) k ≡ value_at upper k
    behind k lt = found k (omega arith) ∙ value_at-behind row upper k (λ e. omega arith)

    cut_from : lo ≤ key
    cut_from = elim (cases_lt key lo) [
      | inl lt ↦ absurd (let none : Some words ≡ None = sym here ∙ all.below key lt in cc none)
      | inr le ↦ le
    ]

    cut_until : key ≤ hi
    cut_until = elim (cases_lt hi key) [
      | inl lt ↦ absurd (let none : Some words ≡ None = sym here ∙ all.above key lt in cc none)
      | inr le ↦ le
    ]

    cut_there : value key ≡ Some words
    cut_there = sym (all.inside key cut_from cut_until) ∙ here

    upper_all : AreAll value (key + 1) hi upper
    upper_all = record {
      rise = sorted_tail nat_cmp key (keys_of upper) later;
      inside = λ k from until. sym (behind k (omega arith)) ∙ all.inside k (let le = cut_from in omega arith) until;
      below = λ k lt. none_outside (λ (j : ℕ). key < j) upper k (rise_first row upper later) (λ (lt' : key < k). omega arith);
      above = λ k lt. sym (behind k (let le = cut_until in omega arith)) ∙ all.above k lt;
    }

  -- ---- rows that are handed down

  pub down_none : (lo hi : ℕ) → hi < lo → AreAll value lo hi []
  down_none lo hi lt = record {
    rise = rise-nil;
    inside = λ k from until. absurd (omega arith);
    below = λ k lt'. refl;
    above = λ k lt'. refl;
  }

  pub handed_all : (from top hi : ℕ) (window before after : List Pair) → from ≤ top + 1 → top ≤ hi → after ≡ before ++ reverse window
      → AreAll value from top window → AreAll value (top + 1) hi (reverse before) → AreAll value from hi (reverse after)
  handed_all from top hi window before after low high put read given =
      let turned : reverse after ≡ window ++ reverse before =
      ap (λ (l : List Pair). reverse l) put ∙ reverse-append before (reverse window) ∙ ap (λ (l : List Pair). l ++ reverse before) (reverse-reverse window) in
      subst (AreAll value from hi) (sym turned) (all_joined from top hi window (reverse before) low high read given)

  pub handed_cut : (lo from top hi max key : ℕ) (window before after : List Pair) → lo ≤ from → top ≤ hi → IsCutDown window before after max key
      → AreAll value from top window → AreAll value (top + 1) hi (reverse before) → IsStoppedDown value lo hi max after key
  handed_cut lo from top hi max key window before after low high cut read given =
      let all = subst (AreAll value from top) cut.split read in
      let least = cut_from from top key cut.words cut.lower cut.upper all in
      let most = cut_until from top key cut.words cut.lower cut.upper all in
      record {
        gives = handed_all (key + 1) top hi cut.upper before after (omega arith) high cut.put (upper_all from top key cut.words cut.lower cut.upper all) given;
        from = omega arith;
        until = omega arith;
        there = (cut.words, cut_there from top key cut.words cut.lower cut.upper all);
        full = cut.full;
      }

-- ---- a window that was read after looks

found_stays : (k k' : Known) (component until : ℕ) → k.view.held ≡ Some component → LooksAside k k' → (key : ℕ)
    → found_in_component k' component until key ≡ found_in_component k component until key
found_stays k k' component until held looks key =
    let runs = runs_same k k' component until held looks key in
    let past = looks.looks.past in
    let layout = looks.looks.reads.seat.layout in
    λ i. or_else (first_below (entries_of (past i) (component * (layout i).cells) until) key until) (runs i)

pub window_read : (k k' : Known) (component until lo hi : ℕ) (max : Option ℕ) (rows : List Pair) (more : Option ℕ) → k.view.held ≡ Some component
    → LooksAside k k' → IsCollected (left_at (found_in_component k' component until)) lo hi max rows more
    → IsCollected (left_at (found_in_component k component until)) lo hi max rows more
window_read k k' component until lo hi max rows more held looks is =
    collected_same (left_at (found_in_component k' component until)) (left_at (found_in_component k component until)) lo hi max rows more
    (λ key above below. ap value_of (sym (found_stays k k' component until held looks key))) is

-- ---- places that are filled

pub filled_none : {R : Type 0} (IsRow : R → Type 0) (rows : List R) (count : ℕ) → count ≡ 0 → AreFilled IsRow rows count
filled_none IsRow rows count none = subst (AreFilled IsRow rows) (sym none) (record { within = omega arith; each = tt })

pub pairs_within : {R : Type 0} (IsRow : R → Type 0) (pair : R → Pair) (rows : List R) (count : ℕ) → AreFilled IsRow rows count
    → length (map pair (take count rows)) ≡ count
pairs_within IsRow pair rows count ready = length-map (take count rows) pair ∙ length-take-le count rows ready.within

pub pairs_none : {R : Type 0} (pair : R → Pair) (rows : List R) (count : ℕ) → count ≡ 0 → map pair (take count rows) ≡ []
pairs_none pair rows count none = ap (λ (n : ℕ). map pair (take n rows)) none

-- The walks along a component's two epochs find together what a search of all its writes finds.
use Rattle.std.proofs.Common.{◌≡◌, ℕ, zero, suc, ◌+◌, ◌*◌, ◌<◌, ◌≤◌, ◌⊎◌, ◌++◌, Bool, cond, min, List, length, get_or, sym, ap, ◌∙◌, subst, arith, inl, inr}
use Rattle.std.proofs.Common.{⊎_elim, append_assoc, add-mul, refl, Option, Some, None, false}
use Rattle.std.proofs.lemmas.Bool.{cases_lt, lt-ltb, le-ltb}
use Rattle.clsm_model.specs.declared.slot.Slot.{Slot}
use Rattle.clsm_model.specs.declared.slot.Slot.TheVariants.{Nothing}
use Rattle.clsm_model.specs.History.{or_else}
use Rattle.clsm_levels.specs.declared.entry.Entry.{Entry}
use Rattle.clsm_levels.specs.Entry.{entries_of, entry_of, first_below}
use Rattle.clsm_levels.proofs.Histories.{entries_below, entries_more, entries_none}
use Rattle.clsm_levels.proofs.Searches.{first_below-above, first_below-append}
use Rattle.clsm_words.specs.declared.known.Known.{Known}
use Rattle.clsm_words.specs.Knowing.{IsHeldEpoch}
use Rattle.clsm_levels.specs.Yields.{IsNextFrom}
use Rattle.clsm_words.specs.declared.known.Spot.{Spot}
use Rattle.clsm_search.specs.declared.list.Epoch.{Epoch}
use Rattle.clsm_search.specs.Ordering.{IsNewestFrom, found_in_epoch, time_at}
use Rattle.clsm_search.specs.Searching.{slot_in, value_in}
use Rattle.clsm_search.proofs.EpochWrites.{next_none, next_some}
use Rattle.clsm_scan.specs.declared.any_walk.AnyWalk.{AnyWalk}
use Rattle.clsm_scan.specs.declared.any_walk.AnyWalk.TheVariants.{AlongEpoch}
use Rattle.clsm_scan.specs.Optional.{If, found_in}
use Rattle.clsm_scan.specs.Sources.{MayScan, epoch_walk}
use Rattle.clsm_scan.specs.Walking.{spot_entry}
use Rattle.clsm_scan.specs.Walks.{any_found, any_over}

-- ---- writes from one time to another, split at a time between

entries_split : (slots : List Slot) (a m b : ℕ) → a ≤ m → m ≤ b → entries_of slots a b ≡ entries_of slots m b ++ entries_of slots a m
entries_split slots a m zero le le' = let none : m ≡ 0 = omega arith in
    ap (entries_of slots a) (sym none) ∙ ap (λ (l : List Entry). l ++ entries_of slots a m) (sym (entries_none slots m 0 (omega arith)))
entries_split slots a m (suc b) le le' = elim (cases_lt b m) [
  | inl lt ↦
      let same : suc b ≡ m = omega arith in
      ap (entries_of slots a) same ∙ ap (λ (l : List Entry). l ++ entries_of slots a m) (sym (entries_none slots m (suc b) (omega arith)))
  | inr ge ↦
      let mine = entry_of b (get_or slots b Nothing) in
      entries_more slots a b (omega arith) ∙ ap (λ (l : List Entry). mine ++ l) (entries_split slots a m b le ge)
      ∙ sym (append_assoc mine (entries_of slots m b) (entries_of slots a m))
      ∙ ap (λ (l : List Entry). l ++ entries_of slots a m) (sym (entries_more slots m b ge))
]

-- what a search finds below a time, of the writes from another on
abbrev found_from : List Slot → ℕ → ℕ → ℕ → Option Entry
found_from slots a key b = first_below (entries_of slots a b) key b

none_from : (slots : List Slot) (a key b : ℕ) → b ≤ a → found_from slots a key b ≡ None
none_from slots a key b le = ap (λ (l : List Entry). first_below l key b) (entries_none slots a b le)

found_split : (slots : List Slot) (a m key b : ℕ) → a ≤ m → m ≤ b → found_from slots a key b ≡ or_else (found_from slots m key b) (found_from slots a key m)
found_split slots a m key b le le' =
    ap (λ (l : List Entry). first_below l key b) (entries_split slots a m b le le')
    ∙ first_below-append (entries_of slots m b) (entries_of slots a m) key b
    ∙ ap (or_else (found_from slots m key b)) (first_below-above (entries_of slots a m) key m b (entries_below slots a m) le')

-- ---- one epoch

module _ (k : Known) (component until number first : ℕ) where
  abbrev cells : ℕ
  cells = k.layout.cells

  abbrev walk : Option AnyWalk
  walk = epoch_walk component number first cells until

  abbrev begun : AnyWalk
  begun = AlongEpoch (record {
    epoch = record { component = component; number = number; first = first; until = min until (first + cells) };
    stand = record { ahead = None; leaps = false };
    last = None;
  })

  pub over_epoch : MayScan k component until → (first < until → (first ≡ number * cells) × ((number ≡ component) ⊎ (number ≡ component + 1)))
      → If (any_over k) walk
  over_epoch may is = elim (cases_lt first until) [
    | inl lt ↦ subst (λ (b : Bool). If (any_over k) (cond b (Some begun) None)) (sym (lt-ltb first until lt)) (
      record {
        held = may.held;
        walked = subst (λ (o : Option ℕ). IsHeldEpoch k.layout o (length k.past) number) (sym may.held) (⊎_elim (λ (same : number ≡ component). inl same)
            (λ (next : number ≡ component + 1). inr (next, let at = (is lt).0 in let settled = may.settled in omega arith)) (is lt).1);
        begins = (is lt).0;
        within = omega arith;
        settled = let settled = may.settled in omega arith;
      },
      tt,
    )
    | inr ge ↦ subst (λ (b : Bool). If (any_over k) (cond b (Some begun) None)) (sym (le-ltb first until ge)) tt
  ]

  -- where the epoch begins below until, the walk finds its writes below that
  pub found_begun : (key end : ℕ) → first < until → end ≡ min until (first + cells) → found_in (any_found k) walk key ≡ found_from k.past first key end
  found_begun key end lt is = ap (λ (b : Bool). found_in (any_found k) (cond b (Some begun) None) key) (lt-ltb first until lt)
      ∙ ap (found_from k.past first key) (sym is)

  pub found_unbegun : (key : ℕ) → until ≤ first → found_in (any_found k) walk key ≡ None
  found_unbegun key ge = ap (λ (b : Bool). found_in (any_found k) (cond b (Some begun) None) key) (le-ltb first until ge)

-- ---- both

-- the epochs' first times are `first` and `second`, as far as these are below until
module _ (k : Known) (component until later first second : ℕ) (may : MayScan k component until) (begins : first < until → first ≡ component * k.layout.cells)
    (begins' : second < until → second ≡ component * k.layout.cells + k.layout.cells)
    (order : first ≤ second) (low : first ≤ component * k.layout.cells) (low' : second ≤ component * k.layout.cells + k.layout.cells) where
  abbrev from : ℕ
  from = component * k.layout.cells

  abbrev newer : ℕ → Option Entry
  newer key = found_in (any_found k) (epoch_walk component later second k.layout.cells until) key

  abbrev older : ℕ → Option Entry
  older key = found_in (any_found k) (epoch_walk component component first k.layout.cells until) key

  twice : (component + 2) * k.layout.cells ≡ from + 2 * k.layout.cells
  twice = add-mul component 2 k.layout.cells

  pub epochs_found : (key : ℕ) → or_else (newer key) (older key) ≡ found_from k.past from key until
  epochs_found key = elim (cases_lt first until) [
    | inr none ↦ ap (λ (o : Option Entry). or_else o (older key)) (found_unbegun k component until later second key (omega arith))
        ∙ found_unbegun k component until component first key none ∙ sym (none_from k.past from key until (omega arith))
    | inl lt ↦
        let at = begins lt in
        elim (cases_lt second until) [
          | inr none ↦
              ap (λ (o : Option Entry). or_else o (older key)) (found_unbegun k component until later second key none)
              ∙ found_begun k component until component first key until lt (omega arith)
              ∙ ap (λ (n : ℕ). found_from k.past n key until) at
          | inl lt' ↦
              let at' = begins' lt' in
              let within = may.within in
              let border : ℕ = from + k.layout.cells in
              ap (λ (o : Option Entry). or_else o (older key))
              (found_begun k component until later second key until lt' (omega (arith, twice)) ∙ ap (λ (n : ℕ). found_from k.past n key until) at')
              ∙ ap (or_else (found_from k.past border key until))
              (found_begun k component until component first key border lt (omega arith) ∙ ap (λ (n : ℕ). found_from k.past n key border) at)
              ∙ sym (found_split k.past from border key until (omega arith) (omega arith))
        ]
  ]

-- ---- what a walk comes by is the next of the epoch's writes

pub newest_next : (k : Known) (e : Epoch) (from : ℕ) (o : Option Spot) → IsNewestFrom k e from o → IsNextFrom (found_in_epoch k e) from (spot_entry k e o)
newest_next k e from None newest = next_none k e from newest
newest_next k e from (Some spot) newest =
    next_some k e from spot (record {
      key = spot.key;
      time = time_at k e spot.place;
      value = value_in (slot_in k (time_at k e spot.place));
    }) newest refl refl refl

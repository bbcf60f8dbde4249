-- The walks along a component's epochs and runs, as one.
use Rattle.std.proofs.Common.{◌≡◌, ℕ, ◌+◌, ◌*◌, ◌^◌, ◌<◌, ◌≤◌, min, refl, sym, ap, ◌∙◌, arith, add-mul, inl, inr, List, [], Option, Some}
use Rattle.std.proofs.Math.Nat.{mul-le-mul_right, mul_comm}
use Rattle.clsm_model.specs.History.{or_else}
use Rattle.clsm_levels.specs.declared.entry.Entry.{Entry}
use Rattle.clsm_words.specs.declared.known.Known.{Known}
use Rattle.clsm_words.specs.Keeping.{LooksAside}
use Rattle.clsm_scan.specs.declared.any_walk.AnyWalk.{AnyWalk}
use Rattle.clsm_scan.specs.declared.merged.Merged.{Merged}
use Rattle.clsm_scan.specs.declared.merged.Stream.{Stream}
use Rattle.clsm_scan.specs.Optional.{If, found_in}
use Rattle.clsm_scan.specs.Sources.{MayScan, epoch_walk, found_in_epochs, found_in_runs, level_one_walk, level_zero_walk}
use Rattle.clsm_scan.specs.Streams.{HasAdded, first_of, up_to}
use Rattle.clsm_scan.specs.Walks.{any_found, any_found_stays, any_over}
use Rattle.clsm_scan.proofs.AddedWalks.{walk_finds}
use Rattle.clsm_scan.proofs.ComponentCursors.{one_over, runs_found, zero_over}
use Rattle.clsm_scan.proofs.Places.{up_to_inside}
use Rattle.clsm_scan.proofs.EpochCursors.{epochs_found, over_epoch}

-- the later epoch's number and the first times of both, computed in 64 bits
pub record AreComputed (component cells until later first second : ℕ) : Type 0 where
  pub some : 0 < cells
  pub small : until < 2 ^ 64
  pub first_is : first ≡ min (component * cells) 18446744073709551615
  pub second_is : second ≡ min (first + cells) 18446744073709551615
  pub later_is : later ≡ min (component + 1) 18446744073709551615

module _ (k : Known) (component until later first second : ℕ) (may : MayScan k component until)
    (are : AreComputed component k.layout.cells until later first second) where
  abbrev cells : ℕ
  cells = k.layout.cells

  begins : first < until → first ≡ component * cells
  begins lt = let small = are.small in let is = are.first_is in omega arith

  begins' : second < until → second ≡ component * cells + cells
  begins' lt = let small = are.small in let is = are.first_is in let is' = are.second_is in omega arith

  next : second < until → later ≡ component + 1
  next lt =
      let some : 1 ≤ cells = are.some in
      let least : 1 * component ≤ cells * component = mul-le-mul_right component some in
      let swap = mul_comm component cells in
      let at = begins' lt in
      let small = are.small in
      let is = are.later_is in
      omega arith

  first_later : second < until → second ≡ later * cells
  first_later lt =
      let once : (component + 1) * cells ≡ component * cells + 1 * cells = add-mul component 1 cells in
      let number : later * cells ≡ (component + 1) * cells = ap (λ (n : ℕ). n * cells) (next lt) in
      let at = begins' lt in
      omega arith

  abbrev newer : Option AnyWalk
  newer = epoch_walk component later second cells until

  abbrev older : Option AnyWalk
  older = epoch_walk component component first cells until

  pub newer_over : If (any_over k) newer
  newer_over = over_epoch k component until later second may (λ lt. (first_later lt, inr (next lt)))

  pub older_over : If (any_over k) older
  older_over = over_epoch k component until component first may (λ lt. (begins lt, inl refl))

  pub both_found : (key : ℕ) → or_else (found_in (any_found k) newer key) (found_in (any_found k) older key) ≡ found_in_epochs k component until key
  both_found key = epochs_found k component until later first second may begins begins' (let is = are.first_is in let is' = are.second_is in omega arith)
      (let is = are.first_is in omega arith) (let is = are.first_is in let is' = are.second_is in omega arith) key

-- ---- the runs, after looks

zero_same : (k k' : Known) (component until place : ℕ) → k.view.held ≡ Some component → LooksAside k k' → (key : ℕ)
    → found_in (any_found k') (level_zero_walk component place until) key ≡ found_in (any_found k) (level_zero_walk component place until) key
zero_same k k' component until place held looks = walk_finds k k' (level_zero_walk component place until) looks (zero_over k component until place held)

pub runs_same : (k k' : Known) (component until : ℕ) → k.view.held ≡ Some component → LooksAside k k' → (key : ℕ)
    → found_in_runs k' component until key ≡ found_in_runs k component until key
runs_same k k' component until held looks key =
    let two = zero_same k k' component until 2 held looks key in
    let one = zero_same k k' component until 1 held looks key in
    let zero = zero_same k k' component until 0 held looks key in
    let last = any_found_stays k k' (level_one_walk component until) looks (one_over k component until held) key in
    sym (runs_found k' component until key) ∙ (λ i. or_else (two i) (or_else (one i) (or_else (zero i) (last i)))) ∙ runs_found k component until key

-- ---- what all of them find, up to the greatest key

pub added_all : (lo hi : ℕ) (k : Known) (m : Merged) (k' : Known) (m' : Merged) (found : ℕ → Option Entry) → HasAdded lo k m k' m' found
    → m.streams.items ≡ [] → m.hi ≡ hi → (key : ℕ) → lo ≤ key → key ≤ hi → up_to m'.hi (first_of k' m'.streams.items) key ≡ found key
added_all lo hi k m k' m' found is none top key from until =
    let same = is.hi in
    up_to_inside m'.hi (first_of k' m'.streams.items) key (omega arith) ∙ is.finds key from (omega arith)
    ∙ ap (λ (ss : List Stream). or_else (first_of k ss key) (found key)) none

-- The stamps in the order of time: each record has one, and they rise.
use Rattle.std.proofs.Common.{◌≡◌, ◌≢◌, ℕ, ◌<◌, ◌≤◌, ◌==◌, Bool, false, List, length, get_or, refl, sym, ap, ◌∙◌, subst, arith, zero-add}
use Rattle.std.proofs.lemmas.Bool.{eq-eqb, ne_eqb, true≢false}
use Rattle.std.proofs.lemmas.Bool.Decides.{nat_tests}
use Rattle.std.proofs.lemmas.List.{get_or-map, get_or_default, length-map}
use Rattle.std.proofs.lemmas.List.FromFn.{get_or-enumerate_from, length-enumerate_from}
use Rattle.std.proofs.lemmas.List.Sorted.{All-permutation, Contains-permutation, sorted_far}
use Rattle.std.proofs.lemmas.Map.Keys.{IsDistinct-IsPermutation, IsDistinct-from_apart, apart_from_distinct}
use Rattle.std.specs.List.{All, IsDistinct, enumerate_from}
use Rattle.clsm_model.specs.declared.record.CallRecord.{CallRecord}
use Rattle.clsm_audit.specs.declared.stamp.Stamp.{Stamp}
use Rattle.clsm_audit.specs.Order.{IsInTimeOrder, comes_before, stamp_of, stamps_of}
use Rattle.clsm_audit.proofs.Indices.{nobody}
use Rattle.clsm_audit.proofs.Orders.{comes_before-order, comes_before-place, place}

-- what a list of stamps has past its end
abbrev pub nowhere : Stamp
nowhere = record { time = 0; is_write = false; index = 0 }

-- ---- the stamps before they are sorted

length-stamps_of : (records : List CallRecord) → length (stamps_of records) ≡ length records
length-stamps_of records = length-map (enumerate_from 0 records) (λ p. stamp_of p.0 p.1) ∙ length-enumerate_from 0 records

stamp-here : (records : List CallRecord) (i : ℕ) (d : Stamp) → i < length records → get_or (stamps_of records) i d ≡ stamp_of i (get_or records i nobody)
stamp-here records i d within =
    get_or-map (λ (p : ℕ × CallRecord). stamp_of p.0 p.1) (enumerate_from 0 records) i (0, nobody) d
    (let l : length (enumerate_from 0 records) ≡ length records = length-enumerate_from 0 records in omega arith)
    ∙ ap (λ (p : ℕ × CallRecord). stamp_of p.0 p.1) (get_or-enumerate_from 0 records i (0, nobody) within)
    ∙ ap (λ (n : ℕ). stamp_of n (get_or records i nobody)) (zero-add i)

-- the stamp is that of the record at its index
abbrev pub IsStampIn : List CallRecord → Stamp → Type 0
IsStampIn records x = (x.index < length records) × (x ≡ stamp_of x.index (get_or records x.index nobody))

all_stamps : (records : List CallRecord) → All (IsStampIn records) (stamps_of records)
all_stamps records k d within =
    let lt : k < length records = let l : length (stamps_of records) ≡ length records = length-stamps_of records in omega arith in
    subst (IsStampIn records) (sym (stamp-here records k d lt)) (lt, refl)

-- two stamps have the same index
abbrev same_index : Stamp → Stamp → Bool
same_index x y = x.index == y.index

same_index-flips : (x y : Stamp) → same_index x y ≡ same_index y x
same_index-flips x y = grind (arith, nat_tests)

all_apart : (records : List CallRecord) → IsDistinct same_index (stamps_of records)
all_apart records = IsDistinct-from_apart same_index (stamps_of records) (λ i j d lt within.
    let l : length (stamps_of records) ≡ length records = length-stamps_of records in
    let first = stamp-here records i d (omega arith) in
    let second = stamp-here records j d (omega arith) in
    ap (λ (x : Stamp). same_index x (get_or (stamps_of records) j d)) first ∙ ap (λ (y : Stamp). i == y.index) second ∙ ne_eqb i j (λ e. omega arith))

-- ---- the sorted stamps

module _ (records : List CallRecord) (stamps : List Stamp) (order : IsInTimeOrder records stamps) where
  -- each stamp is that of a record
  pub stamp_in : (k : ℕ) (d : Stamp) → k < length stamps → IsStampIn records (get_or stamps k d)
  stamp_in k d within = All-permutation (IsStampIn records) (stamps_of records) stamps order.same (all_stamps records) k d within

  -- each record has a stamp
  pub stamp_for : (i : ℕ) (d : Stamp) → i < length records → (k : ℕ) × (k < length stamps) × ((get_or stamps k d).index ≡ i)
  stamp_for i d within =
      let x = stamp_of i (get_or records i nobody) in
      let l : length (stamps_of records) ≡ length records = length-stamps_of records in
      let found = Contains-permutation (stamps_of records) stamps x order.same (i, (omega arith), stamp-here records i x within) in
      (found.0, found.1, ap (λ (s : Stamp). s.index) (get_or_default stamps found.0 d x found.1 ∙ found.2))

  -- they rise in time
  pub stamps_rise : (j k : ℕ) (d : Stamp) → j ≤ k → k < length stamps → place (get_or stamps j d) ≤ place (get_or stamps k d)
  stamps_rise j k d le within =
      let x = get_or stamps j d in
      let y = get_or stamps k d in
      let not_before = sym (comes_before-place y x) ∙ sorted_far comes_before comes_before-order stamps order.sorted j k d le within in
      grind (arith, nat_tests, not_before)

  -- no two are those of one record
  pub stamps_apart : (j k : ℕ) (d : Stamp) → j < k → k < length stamps → (get_or stamps j d).index ≢ (get_or stamps k d).index
  stamps_apart j k d lt within e =
      true≢false (sym (eq-eqb (get_or stamps j d).index (get_or stamps k d).index e)
      ∙ apart_from_distinct same_index stamps j k d (IsDistinct-IsPermutation same_index same_index-flips (stamps_of records) stamps order.same
      (all_apart records)) lt within)

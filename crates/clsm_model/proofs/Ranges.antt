-- The part of a plain map from one key to another.
use Rattle.std.proofs.Common.{◌≡◌, ℕ, ◌<◌, ◌&&◌, not, Bool, true, false, cond, List, [], ◌∷◌, None, Result, Ok, Err, IfOk, nat_le, refl, sym, ◌∙◌, ap, arith}
use Rattle.std.proofs.lemmas.Bool.{eqb-true, le-leb, lt-leb}
use Rattle.std.proofs.lemmas.Bool.Decides.{nat_tests}
use Rattle.std.specs.declared.ops.Bound.TheVariants.{Included}
use Rattle.std.proofs.lemmas.List.Kept.{IsStrictlySortedBy-filter}
use Rattle.std.proofs.lemmas.Map.Entries.{lookup-filter-keys}
use Rattle.std.specs.List.{filter}
use Rattle.std.specs.BTreeMap.{is_at}
use Rattle.std.specs.BTreeMap.Range.{entries_between}
use Rattle.std.specs.Map.{keys_of}
use Rattle.std.specs.Ordering.{nat_cmp, is_le, is_lt}
use Rattle.clsm_model.specs.History.{History}
use Rattle.clsm_model.specs.Map.{Pair, IsMap, IsRange, KeysRise, between, value_at}
use Rattle.clsm_model.proofs.Maps.{is_eq-nat_cmp, value_at-lookup}

-- the key k is from lo to hi
abbrev is_inside : ℕ → ℕ → ℕ → Bool
is_inside lo hi k = nat_le lo k && nat_le k hi

pub keys_of-filter : (p : ℕ → Bool) (pairs : List Pair) → keys_of (filter (λ pair. p pair.0) pairs) ≡ filter p (keys_of pairs)
keys_of-filter p [] = refl
keys_of-filter p (pair ∷ pairs) = grind (arith, keys_of-filter p pairs)

KeysRise-between : (lo hi : ℕ) (pairs : List Pair) → KeysRise pairs → KeysRise (between lo hi pairs)
KeysRise-between lo hi pairs rise = rw (keys_of-filter (is_inside lo hi) pairs) (IsStrictlySortedBy-filter nat_cmp (is_inside lo hi) _ rise)

-- each key from lo to hi keeps its value, and the others have none
value_at-between : (lo hi k : ℕ) (pairs : List Pair) → value_at (between lo hi pairs) k ≡ cond (is_inside lo hi k) (value_at pairs k) None
value_at-between lo hi k pairs =
    rw (value_at-lookup (between lo hi pairs) k, value_at-lookup pairs k)
    (lookup-filter-keys (is_at (nat_cmp k)) (is_inside lo hi) (is_inside lo hi k)
    (λ q found. ap (is_inside lo hi) (sym (eqb-true k q (sym (is_eq-nat_cmp k q) ∙ found)))) pairs)

pub IsRange-between : (h : History) (s lo hi : ℕ) (pairs : List Pair) → IsMap h s pairs → IsRange h s lo hi (between lo hi pairs)
IsRange-between h s lo hi pairs map = record {
  rise = KeysRise-between lo hi pairs map.rise;
  inside = λ k above below. value_at-between lo hi k pairs ∙ rw (le-leb lo k above, le-leb k hi below) (map.values k);
  below = λ k under. value_at-between lo hi k pairs ∙ rw (lt-leb lo k under) refl;
  above = λ k over. value_at-between lo hi k pairs ∙ elim (nat_le lo k) as
      (λ b. cond (b && nat_le k hi) (value_at pairs k) None ≡ None) [ true ↦ rw (lt-leb k hi over) refl | false ↦ refl ];
}

-- ---- where a range of the map's entries is looked up

is_le-nat_cmp : (j k : ℕ) → is_le (nat_cmp j k) ≡ nat_le j k
is_le-nat_cmp j k = grind (arith, nat_tests)

not_lt-nat_cmp : (j k : ℕ) → not (is_lt (nat_cmp j k)) ≡ nat_le k j
not_lt-nat_cmp j k = grind (arith, nat_tests)

pub between-entries : (lo hi : ℕ) (pairs : List Pair) → entries_between nat_cmp (Included lo) (Included hi) pairs ≡ between lo hi pairs
between-entries lo hi pairs = λ i. filter (λ pair. is_le-nat_cmp lo pair.0 i && not_lt-nat_cmp hi pair.0 i) pairs

-- no key is from a greater one to a less
pub between-none : (lo hi : ℕ) (pairs : List Pair) → hi < lo → between lo hi pairs ≡ []
between-none lo hi [] lt = refl
between-none lo hi (pair ∷ pairs) lt = grind (arith, nat_tests, between-none lo hi pairs lt)

-- the same of rows that a call gives
pub IsRange-rows : {V E : Type 0} (rows_of : V → List Pair) (lo hi : ℕ) (pairs : List Pair) (r : Result V E) → IfOk r (λ v. rows_of v ≡ between lo hi pairs)
    → IfOk r (λ v. (h : History) (s : ℕ) → IsMap h s pairs → IsRange h s lo hi (rows_of v))
IsRange-rows rows_of lo hi pairs (Ok v) is = λ h s map. rw is (IsRange-between h s lo hi pairs map)
IsRange-rows rows_of lo hi pairs (Err e) is = is

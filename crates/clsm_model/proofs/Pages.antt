-- The plain map of a history as a function of it, and pages as the beginnings of whole ranges.
use Rattle.std.proofs.Common.{◌≡◌, ◌≢◌, ℕ, ◌+◌, ◌<◌, ◌≤◌, ◌==◌, ◌&&◌, nat_le, nat_lt, zero, suc, Bool, true, false, cond, Less, List, [], ◌∷◌, ◌++◌, get_or}
use Rattle.std.proofs.Common.{length, take, drop, Option, Some, None, refl, sym, ap, ◌∙◌, subst, arith, ⊎_elim}
use Rattle.std.proofs.Math.Seq.{take-append_seam, drop-append_seam}
use Rattle.std.proofs.lemmas.Bool.{cases_eq, cases_lt, eqb-true, and_parts, eq-eqb, leb-true, ltb-true, ne_eqb}
use Rattle.std.proofs.lemmas.Bool.Decides.{nat_tests}
use Rattle.std.proofs.lemmas.List.{drop_all, take_all}
use Rattle.std.proofs.lemmas.List.Kept.{IsStrictlySortedBy-filter}
use Rattle.std.proofs.lemmas.Map.Entries.{lookup-filter-keys}
use Rattle.std.proofs.lemmas.Map.Keys.{IsStrictlyIncreasing-from_sorted, sorted_from_strictly_increasing, sorted_head, sorted_tail}
use Rattle.std.specs.BTreeMap.{is_at}
use Rattle.std.specs.List.{AllByRecursion, filter}
use Rattle.std.specs.List.Sorted.{IsStrictlyIncreasing}
use Rattle.std.specs.Map.{keys_of}
use Rattle.std.specs.Ordering.{nat_cmp}
use Rattle.clsm_model.specs.declared.slot.Slot.{Slot}
use Rattle.clsm_model.specs.declared.slot.Slot.TheVariants.{Nothing, Wrote}
use Rattle.clsm_model.specs.History.{History, or_else, slot_at, value}
use Rattle.clsm_model.specs.Map.{Applies, IsMap, IsRange, KeysRise, Pair, between, value_at}
use Rattle.clsm_model.specs.Right.{IsPage, first_key}
use Rattle.clsm_model.proofs.Maps.{IsMap-next, is_eq-nat_cmp, value_at-lookup}
use Rattle.clsm_model.proofs.Ranges.{IsRange-between, keys_of-filter}

-- ---- pairs behind pairs

-- what holds of each key
abbrev pub EachKey : (ℕ → Type 0) → List Pair → Type 0
EachKey P pairs = AllByRecursion (λ pair. P pair.0) pairs

-- the pairs whose keys pass
abbrev passing : (ℕ → Bool) → List Pair → List Pair
passing p pairs = filter (λ pair. p pair.0) pairs

-- the pair of the key, and those behind it
pub value_at-here : (x : Pair) (xs : List Pair) → value_at (x ∷ xs) x.0 ≡ Some x.1
value_at-here x xs = ap (λ (b : Bool). cond b (Some x.1) (value_at xs x.0)) (eq-eqb x.0 x.0 refl)

pub value_at-behind : (x : Pair) (xs : List Pair) (k : ℕ) → k ≢ x.0 → value_at (x ∷ xs) k ≡ value_at xs k
value_at-behind x xs k ne = ap (λ (b : Bool). cond b (Some x.1) (value_at xs k)) (ne_eqb k x.0 ne)

pub value_at-append : (xs ys : List Pair) (k : ℕ) → value_at (xs ++ ys) k ≡ or_else (value_at xs k) (value_at ys k)
value_at-append [] ys k = refl
value_at-append (x ∷ xs) ys k =
    elim (k == x.0) as (λ (b : Bool). cond b (Some x.1) (value_at (xs ++ ys) k) ≡ or_else (cond b (Some x.1) (value_at xs k)) (value_at ys k)) [
      | true ↦ refl
      | false ↦ value_at-append xs ys k
    ]

-- with none behind it the first is what there is
pub or_none : {A : Type 0} (o : Option A) → or_else o None ≡ o
or_none None = refl
or_none (Some x) = refl

value_at-passing : (p : ℕ → Bool) (pairs : List Pair) (k : ℕ) → value_at (passing p pairs) k ≡ cond (p k) (value_at pairs k) None
value_at-passing p pairs k =
    rw (value_at-lookup (passing p pairs) k, value_at-lookup pairs k)
    (lookup-filter-keys (is_at (nat_cmp k)) p (p k) (λ q found. ap p (sym (eqb-true k q (sym (is_eq-nat_cmp k q) ∙ found)))) pairs)

rise-passing : (p : ℕ → Bool) (pairs : List Pair) → KeysRise pairs → KeysRise (passing p pairs)
rise-passing p pairs rise = rw (keys_of-filter p pairs) (IsStrictlySortedBy-filter nat_cmp p _ rise)

each-passing : (p : ℕ → Bool) (P : ℕ → Type 0) → ((k : ℕ) → p k ≡ true → P k) → (pairs : List Pair) → EachKey P (passing p pairs)
each-passing p P f [] = tt
each-passing p P f (x ∷ xs) =
    elim (p x.0) as (λ (b : Bool). p x.0 ≡ b → EachKey P (cond b (x ∷ passing p xs) (passing p xs))) [
      | true ↦ λ t. (f x.0 t, each-passing p P f xs)
      | false ↦ λ t. each-passing p P f xs
    ] refl

pub each-append : (P : ℕ → Type 0) (xs ys : List Pair) → EachKey P xs → EachKey P ys → EachKey P (xs ++ ys)
each-append P [] ys h g = g
each-append P (x ∷ xs) ys h g = (h.0, each-append P xs ys h.1 g)

pub each_weaker : (P Q : ℕ → Type 0) → ((k : ℕ) → P k → Q k) → (pairs : List Pair) → EachKey P pairs → EachKey Q pairs
each_weaker P Q f [] h = tt
each_weaker P Q f (x ∷ xs) h = (f x.0 h.0, each_weaker P Q f xs h.1)

-- ---- keys that rise

pub rise-nil : KeysRise []
rise-nil = sorted_from_strictly_increasing [] (λ k lt. absurd (omega arith))

pub rise-cons : (x : Pair) (xs : List Pair) → EachKey (λ k. x.0 < k) xs → KeysRise xs → KeysRise (x ∷ xs)
rise-cons x xs h r = sorted_from_strictly_increasing (keys_of (x ∷ xs)) (λ k lt. up xs k h (IsStrictlyIncreasing-from_sorted (keys_of xs) r) lt) where
  up : (ys : List Pair) (k : ℕ) → EachKey (λ q. x.0 < q) ys → IsStrictlyIncreasing (keys_of ys) → k + 1 < length (x.0 ∷ keys_of ys)
      → get_or (x.0 ∷ keys_of ys) k 0 < get_or (x.0 ∷ keys_of ys) (k + 1) 0
  up [] k g i lt = absurd (omega arith)
  up (y ∷ ys) zero g i lt = g.0
  up (y ∷ ys) (suc k) g i lt = let next : suc k + 1 ≡ suc (k + 1) = omega arith in rw next (i k (omega arith))

pub rise_first : (x : Pair) (xs : List Pair) → KeysRise (x ∷ xs) → EachKey (λ k. x.0 < k) xs
rise_first x xs r = above xs (sorted_head nat_cmp x.0 (keys_of xs) r) where
  less : (m n : ℕ) → nat_cmp m n ≡ Less → m < n
  less m n e = grind (arith, nat_tests)

  above : (ys : List Pair) → AllByRecursion (λ k. nat_cmp x.0 k ≡ Less) (keys_of ys) → EachKey (λ k. x.0 < k) ys
  above [] h = tt
  above (y ∷ ys) h = (less x.0 y.0 h.0, above ys h.1)

-- keys that rise below m, and from m on
pub rise-append : (m : ℕ) (xs ys : List Pair) → KeysRise xs → KeysRise ys → EachKey (λ k. k < m) xs → EachKey (λ k. m ≤ k) ys → KeysRise (xs ++ ys)
rise-append m [] ys r q low high = q
rise-append m (x ∷ xs) ys r q low high =
    let lt = low.0 in
    rise-cons x (xs ++ ys) (each-append (λ k. x.0 < k) xs ys (rise_first x xs r) (each_weaker (λ k. m ≤ k) (λ k. x.0 < k) (λ k le. omega arith) ys high))
    (rise-append m xs ys (sorted_tail nat_cmp x.0 (keys_of xs) r) q low.1 high)

-- ---- the map of a history

-- the pair of the key, where a value was written
abbrev pub written_at : ℕ → Option (List ℕ) → List Pair
written_at key None = []
written_at key (Some words) = (key, words) ∷ []

-- the map with the slot played on it
abbrev pub play : Slot → List Pair → List Pair
play Nothing pairs = pairs
play (Wrote seat key written) pairs = filter (λ pair. nat_lt pair.0 key) pairs ++ (written_at key written ++ filter (λ pair. nat_lt key pair.0) pairs)

-- the map of the history below the time
abbrev pub map_of : History → ℕ → List Pair
map_of h zero = []
map_of h (suc t) = play (slot_at h t) (map_of h t)

value_at-written : (key k : ℕ) (written : Option (List ℕ)) → value_at (written_at key written) k ≡ cond (k == key) written None
value_at-written key k None = grind (arith, nat_tests)
value_at-written key k (Some words) = refl

one_of_three : (key k : ℕ) (written before : Option (List ℕ)) → or_else (cond (nat_lt k key) before None)
    (or_else (cond (k == key) written None) (cond (nat_lt key k) before None)) ≡ cond (key == k) written before
one_of_three key k None before = grind (arith, nat_tests)
one_of_three key k (Some words) before = grind (arith, nat_tests)

plays-play : (slot : Slot) (pairs : List Pair) → Applies slot pairs (play slot pairs)
plays-play Nothing pairs k = refl
plays-play (Wrote seat key written) pairs k =
    let low = passing (λ q. nat_lt q key) pairs in
    let high = passing (λ q. nat_lt key q) pairs in
    value_at-append low (written_at key written ++ high) k
    ∙ ap (λ (o : Option (List ℕ)). or_else (value_at low k) o) (value_at-append (written_at key written) high k)
    ∙ rw (value_at-passing (λ q. nat_lt q key) pairs k, value_at-passing (λ q. nat_lt key q) pairs k, value_at-written key k written)
    (one_of_three key k written (value_at pairs k))

rise-play : (slot : Slot) (pairs : List Pair) → KeysRise pairs → KeysRise (play slot pairs)
rise-play Nothing pairs rise = rise
rise-play (Wrote seat key written) pairs rise =
    rise-append key (filter (λ pair. nat_lt pair.0 key) pairs) (written_at key written ++ filter (λ pair. nat_lt key pair.0) pairs)
    (rise-passing (λ q. nat_lt q key) pairs rise) (rises written) (each-passing (λ q. nat_lt q key) (λ q. q < key) (λ q t. ltb-true q key t) pairs)
    (each written) where
      above : EachKey (λ q. key < q) (filter (λ pair. nat_lt key pair.0) pairs)
      above = each-passing (λ q. nat_lt key q) (λ q. key < q) (λ q t. ltb-true key q t) pairs

      rises : (o : Option (List ℕ)) → KeysRise (written_at key o ++ filter (λ pair. nat_lt key pair.0) pairs)
      rises None = rise-passing (λ q. nat_lt key q) pairs rise
      rises (Some words) = rise-cons (key, words) (filter (λ pair. nat_lt key pair.0) pairs) above (rise-passing (λ q. nat_lt key q) pairs rise)

      each : (o : Option (List ℕ)) → EachKey (λ q. key ≤ q) (written_at key o ++ filter (λ pair. nat_lt key pair.0) pairs)
      each None = each_weaker (λ q. key < q) (λ q. key ≤ q) (λ q lt. omega arith) (filter (λ pair. nat_lt key pair.0) pairs) above
      each (Some words) = (omega arith, each_weaker (λ q. key < q) (λ q. key ≤ q) (λ q lt. omega arith) (filter (λ pair. nat_lt key pair.0) pairs) above)

-- it is the plain map of the history
pub is_map_of : (h : History) (s : ℕ) → IsMap h s (map_of h s)
is_map_of h zero = record { rise = rise-nil; values = λ k. refl }
is_map_of h (suc t) =
    let before = is_map_of h t in
    subst (λ (n : ℕ). IsMap h n (play (slot_at h t) (map_of h t))) (let e : t + 1 ≡ suc t = omega arith in e)
    (IsMap-next h t (slot_at h t) (map_of h t) (play (slot_at h t) (map_of h t)) refl (rise-play (slot_at h t) (map_of h t) before.rise)
    (plays-play (slot_at h t) (map_of h t)) before)

-- and its part from lo to hi the range
pub is_range_of : (h : History) (s lo hi : ℕ) → IsRange h s lo hi (between lo hi (map_of h s))
is_range_of h s lo hi = IsRange-between h s lo hi (map_of h s) (is_map_of h s)

-- ---- pages

-- a key of the pairs has a value there
pub each_below : (m : ℕ) (pairs : List Pair) → ((k : ℕ) → m ≤ k → value_at pairs k ≡ None) → EachKey (λ k. k < m) pairs
each_below m [] none = tt
each_below m (x ∷ xs) none = (
  ⊎_elim (λ (lt : x.0 < m). lt) (λ (le : m ≤ x.0). let some : Some x.1 ≡ None = sym (value_at-here x xs) ∙ none x.0 le in absurd (cc some)) (cases_lt x.0 m),
  each_below m xs (λ k le. none_behind k le),
)
  where
    none_behind : (k : ℕ) → m ≤ k → value_at xs k ≡ None
    none_behind k le = elim (k == x.0) as (λ (b : Bool). cond b (Some x.1) (value_at xs k) ≡ None → value_at xs k ≡ None) [
      | true ↦ λ e. cc e
      | false ↦ λ e. e
    ] (none k le)

each_between : (lo hi : ℕ) (pairs : List Pair) → EachKey (λ k. lo ≤ k) (between lo hi pairs)
each_between lo hi pairs = each-passing (λ k. nat_le lo k && nat_le k hi) (λ k. lo ≤ k) (λ k t. leb-true lo k (and_parts (nat_le lo k) (nat_le k hi) t).0) pairs

-- the range from a key with a value on is that key, and the range behind it
range_from : (h : History) (s more hi : ℕ) (words : List ℕ) → more ≤ hi → value h more s ≡ Some words
    → IsRange h s more hi ((more, words) ∷ between (suc more) hi (map_of h s))
range_from h s more hi words high is =
    let rest = between (suc more) hi (map_of h s) in
    let later = is_range_of h s (suc more) hi in
    record {
      rise = rise-cons (more, words) rest (each_weaker (λ k. suc more ≤ k) (λ k. more < k) (λ k lt. omega arith) rest
          (each_between (suc more) hi (map_of h s))) later.rise;
      inside = λ k from until. ⊎_elim
          (λ (e : k ≡ more). ap (value_at ((more, words) ∷ rest)) e ∙ value_at-here (more, words) rest ∙ sym is ∙ ap (λ (n : ℕ). value h n s) (sym e))
          (λ (ne : k ≢ more). value_at-behind (more, words) rest k ne ∙ later.inside k (omega arith) until)
          (cases_eq k more);
      below = λ k lt. value_at-behind (more, words) rest k (λ e. omega arith) ∙ later.below k (omega arith);
      above = λ k lt. value_at-behind (more, words) rest k (λ e. omega arith) ∙ later.above k lt;
    }

-- rows up to a key that they leave out, and the range from that key on
range-append : (h : History) (s lo hi more : ℕ) (rows tail : List Pair) → KeysRise rows → ((k : ℕ) → lo ≤ k → k < more → value_at rows k ≡ value h k s)
    → ((k : ℕ) → k < lo → value_at rows k ≡ None) → ((k : ℕ) → more ≤ k → value_at rows k ≡ None)
    → lo ≤ more → more ≤ hi → EachKey (λ k. more ≤ k) tail → IsRange h s more hi tail → IsRange h s lo hi (rows ++ tail)
range-append h s lo hi more rows tail rise inside below above low high from range = record {
  rise = rise-append more rows tail rise range.rise (each_below more rows above) from;
  inside = λ k least most. value_at-append rows tail k ∙ ⊎_elim
      (λ (lt : k < more). ap (or_else (value_at rows k)) (range.below k lt) ∙ or_none (value_at rows k) ∙ inside k least lt)
      (λ (le : more ≤ k). ap (λ (o : Option (List ℕ)). or_else o (value_at tail k)) (above k le) ∙ range.inside k le most)
      (cases_lt k more);
  below = λ k lt. value_at-append rows tail k ∙ ap (λ (o : Option (List ℕ)). or_else o (value_at tail k)) (below k lt) ∙ range.below k (omega arith);
  above = λ k lt. value_at-append rows tail k ∙ ap (λ (o : Option (List ℕ)). or_else o (value_at tail k)) (above k (omega arith)) ∙ range.above k lt;
}

-- rows that are the range from lo up to a key with a value, which they leave out, are a page: that
-- key is the next
pub page_of : (h : History) (s lo hi more : ℕ) (words : List ℕ) (rows : List Pair) (max : ℕ) → length rows ≡ max → KeysRise rows
    → ((k : ℕ) → lo ≤ k → k < more → value_at rows k ≡ value h k s) → ((k : ℕ) → k < lo → value_at rows k ≡ None)
    → ((k : ℕ) → more ≤ k → value_at rows k ≡ None)
    → lo ≤ more → more ≤ hi → value h more s ≡ Some words → (all : List Pair) × IsRange h s lo hi all × IsPage all max rows (Some more)
page_of h s lo hi more words rows max long rise inside below above low high is =
    let rest = between (suc more) hi (map_of h s) in
    let tail : List Pair = (more, words) ∷ rest in
    let from : EachKey (λ k. more ≤ k) tail =
    (omega arith, each_weaker (λ k. suc more ≤ k) (λ k. more ≤ k) (λ k lt. omega arith) rest (each_between (suc more) hi (map_of h s))) in (
      rows ++ tail,
      range-append h s lo hi more rows tail rise inside below above low high from (range_from h s more hi words high is),
      record {
        front = sym (ap (λ (n : ℕ). take n (rows ++ tail)) (sym long) ∙ take-append_seam rows tail);
        next = ap first_key (sym (ap (λ (n : ℕ). drop n (rows ++ tail)) (sym long) ∙ drop-append_seam rows tail));
      },
    )

-- rows that are the whole range, and not too many, are its only page
pub page_of_all : (h : History) (s lo hi : ℕ) (rows : List Pair) (max : ℕ) → IsRange h s lo hi rows → length rows ≤ max → (all : List Pair)
    × IsRange h s lo hi all × IsPage all max rows None
page_of_all h s lo hi rows max range few = (rows, range, record { front = sym (take_all max rows few); next = ap first_key (sym (drop_all max rows few)) })

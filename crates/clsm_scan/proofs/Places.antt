-- Streams at places of a list: one that is replaced, one that leaves, and the first with the least
-- key.
use Rattle.std.proofs.Common.{◌≡◌, ℕ, zero, suc, ◌+◌, ◌<◌, ◌≤◌, List, [], ◌∷◌, ◌++◌, length, remove, slice_get, slice_index_or, slice_set}
use Rattle.std.proofs.Common.{ap, ◌∙◌, refl, sym, arith, Bool, true, false, cond, nat_le, inl, inr, subst, Option, Some, None}
use Rattle.std.proofs.lemmas.Bool.{cases_lt, le-leb, leb-true}
use Rattle.std.specs.List.{AllByRecursion}
use Rattle.clsm_model.specs.History.{or_else}
use Rattle.clsm_model.proofs.Pages.{or_none}
use Rattle.clsm_levels.specs.declared.entry.Entry.{Entry}
use Rattle.clsm_levels.specs.Yields.{IsNextFrom}
use Rattle.clsm_words.specs.declared.known.Known.{Known}
use Rattle.clsm_scan.specs.declared.any_walk.AnyWalk.TheVariants.{AlongEpoch}
use Rattle.clsm_scan.specs.declared.merged.Stream.{Stream}
use Rattle.clsm_scan.specs.Heads.{key_of}
use Rattle.clsm_scan.specs.Optional.{last_in}
use Rattle.clsm_scan.specs.Streams.{AreAhead, AreFrom, ArePast, IsLeast, first_found, first_of, key_at, last_at, next_same, up_to}
use Rattle.clsm_scan.specs.Walks.{any_found, any_last}

-- what is read past the end, where nothing is read
abbrev pub nowhere : Stream
nowhere = record {
  walk = AlongEpoch (record {
    epoch = record { component = 0; number = 0; first = 0; until = 0 };
    stand = record { ahead = None; leaps = false };
    last = None;
  });
  key = 0;
}

-- ---- what holds of all

module _ (P : Stream → Type 0) where
  pub all_at : (ss : List Stream) (at : ℕ) (d : Stream) → at < length ss → AllByRecursion P ss → P (slice_index_or ss at d)
  all_at [] at d lt all = absurd (omega arith)
  all_at (s ∷ ss) zero d lt all = all.0
  all_at (s ∷ ss) (suc at) d lt all = all_at ss at d (omega arith) all.1

  pub all_set : (ss : List Stream) (at : ℕ) (y : Stream) → P y → AllByRecursion P ss → AllByRecursion P (slice_set ss at y)
  all_set [] at y here all = tt
  all_set (s ∷ ss) zero y here all = (here, all.1)
  all_set (s ∷ ss) (suc at) y here all = (all.0, all_set ss at y here all.1)

  pub all_remove : (ss : List Stream) (at : ℕ) → AllByRecursion P ss → AllByRecursion P (remove ss at)
  all_remove [] zero all = tt
  all_remove [] (suc at) all = tt
  all_remove (s ∷ ss) zero all = all.1
  all_remove (s ∷ ss) (suc at) all = (all.0, all_remove ss at all.1)

  pub all_push : (ss : List Stream) (y : Stream) → AllByRecursion P ss → P y → AllByRecursion P (ss ++ y ∷ [])
  all_push [] y all here = (here, tt)
  all_push (s ∷ ss) y all here = (all.0, all_push ss y all.1 here)

-- ---- what is found

pub else_else : (a b c : Option Entry) → or_else a (or_else b c) ≡ or_else (or_else a b) c
else_else None b c = refl
else_else (Some e) b c = refl

module _ (k : Known) (key : ℕ) where
  pub first_set : (ss : List Stream) (at : ℕ) (d y : Stream) → any_found k y.walk key ≡ any_found k (slice_index_or ss at d).walk key
      → first_of k (slice_set ss at y) key ≡ first_of k ss key
  first_set [] at d y same = refl
  first_set (s ∷ ss) zero d y same = ap (λ (o : Option Entry). or_else o (first_of k ss key)) same
  first_set (s ∷ ss) (suc at) d y same = ap (or_else (any_found k s.walk key)) (first_set ss at d y same)

  pub first_remove : (ss : List Stream) (at : ℕ) (d : Stream) → at < length ss → any_found k (slice_index_or ss at d).walk key ≡ None
      → first_of k (remove ss at) key ≡ first_of k ss key
  first_remove [] at d lt none = absurd (omega arith)
  first_remove (s ∷ ss) zero d lt none = sym (ap (λ (o : Option Entry). or_else o (first_of k ss key)) none)
  first_remove (s ∷ ss) (suc at) d lt none = ap (or_else (any_found k s.walk key)) (first_remove ss at d (omega arith) none)

  pub first_push : (ss : List Stream) (y : Stream) → first_of k (ss ++ y ∷ []) key ≡ or_else (first_of k ss key) (any_found k y.walk key)
  first_push [] y = or_none (any_found k y.walk key)
  first_push (s ∷ ss) y = ap (or_else (any_found k s.walk key)) (first_push ss y)
      ∙ else_else (any_found k s.walk key) (first_of k ss key) (any_found k y.walk key)

-- one that leaves need not be what it was
pub remove_set : (ss : List Stream) (at : ℕ) (y : Stream) → remove (slice_set ss at y) at ≡ remove ss at
remove_set [] at y = refl
remove_set (s ∷ ss) zero y = refl
remove_set (s ∷ ss) (suc at) y = ap (λ (l : List Stream). s ∷ l) (remove_set ss at y)

-- ---- those that are past

module _ (from : ℕ) where
  pub past_here : (ss : List Stream) (at : ℕ) (d : Stream) → at < length ss → from ≤ (slice_index_or ss at d).key → ArePast from at ss
      → ArePast from (suc at) ss
  past_here [] at d lt here past = absurd (omega arith)
  past_here (s ∷ ss) zero d lt here past = (here, tt)
  past_here (s ∷ ss) (suc at) d lt here past = (past.0, past_here ss at d (omega arith) here past.1)

  pub past_set : (ss : List Stream) (at : ℕ) (y : Stream) → from ≤ y.key → ArePast from at ss → ArePast from (suc at) (slice_set ss at y)
  past_set [] at y here past = tt
  past_set (s ∷ ss) zero y here past = (here, tt)
  past_set (s ∷ ss) (suc at) y here past = (past.0, past_set ss at y here past.1)

  pub past_remove : (ss : List Stream) (at : ℕ) → ArePast from at ss → ArePast from at (remove ss at)
  past_remove ss zero past = tt
  past_remove [] (suc at) past = tt
  past_remove (s ∷ ss) (suc at) past = (past.0, past_remove ss at past.1)

  pub past_all : (ss : List Stream) (n : ℕ) → length ss ≤ n → ArePast from n ss → AreFrom from ss
  past_all [] n le past = tt
  past_all (s ∷ ss) zero le past = absurd (omega arith)
  past_all (s ∷ ss) (suc n) le past = (past.0, past_all ss n (omega arith) past.1)

-- ---- the first with the least key

pub key_index : (ss : List Stream) (at : ℕ) (d : Stream) → at < length ss → key_at ss at ≡ (slice_index_or ss at d).key
key_index [] at d lt = absurd (omega arith)
key_index (s ∷ ss) zero d lt = refl
key_index (s ∷ ss) (suc at) d lt = key_index ss at d (omega arith)

-- the first with the least key of those before a place
abbrev pub IsLeastBefore : ℕ → List Stream → ℕ → Type 0
IsLeastBefore end ss lead =
    (at : ℕ) → at < end → at < length ss → (key_at ss lead ≤ key_at ss at) × (at < lead → key_at ss lead < key_at ss at)

pub least_one : (ss : List Stream) → IsLeastBefore 1 ss 0
least_one ss at lt inside =
    let same : 0 ≡ at = omega arith in (subst (λ (n : ℕ). key_at ss 0 ≤ key_at ss n) same (omega arith), λ lt'. absurd (omega arith))

-- one of a lesser key leads
pub least_lesser : (ss : List Stream) (end lead : ℕ) → key_at ss end < key_at ss lead → IsLeastBefore end ss lead → IsLeastBefore (end + 1) ss end
least_lesser ss end lead lesser least at lt inside = elim (cases_lt at end) [
  | inl before ↦ let both = (least at before inside).0 in (omega arith, λ lt'. omega arith)
  | inr here ↦ let same : end ≡ at = omega arith in (subst (λ (n : ℕ). key_at ss end ≤ key_at ss n) same (omega arith), λ lt'. absurd (omega arith))
]

-- or that before it stays
pub least_stays : (ss : List Stream) (end lead : ℕ) → lead < end → key_at ss lead ≤ key_at ss end → IsLeastBefore end ss lead → IsLeastBefore (end + 1) ss lead
least_stays ss end lead first le least at lt inside = elim (cases_lt at end) [
  | inl before ↦ least at before inside
  | inr here ↦ let same : end ≡ at = omega arith in (subst (λ (n : ℕ). key_at ss lead ≤ key_at ss n) same le, λ lt'. absurd (omega arith))
]

-- so it is, and it is there, if any is
pub record IsLeastSoFar (ss : List Stream) (end lead : ℕ) : Type 0 where
  pub inside : 0 < length ss → lead < length ss
  pub passed : lead < end
  pub least : IsLeastBefore end ss lead

pub so_far_lesser : (ss : List Stream) (end lead : ℕ) → end < length ss → key_at ss end < key_at ss lead → IsLeastSoFar ss end lead
    → IsLeastSoFar ss (end + 1) end
so_far_lesser ss end lead lt lesser is = record { inside = λ some. lt; passed = omega arith; least = least_lesser ss end lead lesser is.least }

pub so_far_stays : (ss : List Stream) (end lead : ℕ) → key_at ss lead ≤ key_at ss end → IsLeastSoFar ss end lead → IsLeastSoFar ss (end + 1) lead
so_far_stays ss end lead le is =
    let passed = is.passed in record { inside = is.inside; passed = omega arith; least = least_stays ss end lead passed le is.least }

-- its key is that of the write that its walk came by last
last_key : (k : Known) (from hi : ℕ) (ss : List Stream) (at : ℕ) → at < length ss → AreAhead k from hi ss → key_of (last_at k ss at) ≡ Some (key_at ss at)
last_key k from hi [] at lt ahead = absurd (omega arith)
last_key k from hi (s ∷ ss) zero lt ahead = ahead.0.at
last_key k from hi (s ∷ ss) (suc at) lt ahead = last_key k from hi ss at (omega arith) ahead.1

key_within : (k : Known) (from hi : ℕ) (ss : List Stream) (at : ℕ) → at < length ss → AreAhead k from hi ss → key_at ss at ≤ hi
key_within k from hi [] at lt ahead = absurd (omega arith)
key_within k from hi (s ∷ ss) zero lt ahead = ahead.0.within
key_within k from hi (s ∷ ss) (suc at) lt ahead = key_within k from hi ss at (omega arith) ahead.1

get_none : (ss : List Stream) (at : ℕ) → length ss ≤ at → slice_get ss at ≡ None
get_none [] at le = refl
get_none (s ∷ ss) zero le = absurd (omega arith)
get_none (s ∷ ss) (suc at) le = get_none ss at (omega arith)

-- nothing is found before the next key
pub before_key : (found : ℕ → Option Entry) (from : ℕ) (o : Option Entry) (key : ℕ) → key_of o ≡ Some key → IsNextFrom found from o
    → (k : ℕ) → from ≤ k → k < key → found k ≡ None
before_key found from None key is next k le lt = absurd (cc is)
before_key found from (Some e) key is next k le lt = let at : e.key ≡ key = cc is in next.2 k le (omega arith)

none_found : (found found' : ℕ → Option Entry) (k : ℕ) → found k ≡ None → found' k ≡ None → first_found found found' k ≡ None
none_found found found' k e e' = ap (λ (o : Option Entry). or_else o (found' k)) e ∙ e'

-- the newer's comes first
newer_next : (found found' : ℕ → Option Entry) (from : ℕ) (o : Option Entry) (key : ℕ) → key_of o ≡ Some key → IsNextFrom found from o
    → ((k : ℕ) → from ≤ k → k < key → found' k ≡ None) → IsNextFrom (first_found found found') from o
newer_next found found' from None key is next none = absurd (cc is)
newer_next found found' from (Some e) key is next none =
    let at : e.key ≡ key = cc is in (
      next.0,
      ap (λ (o : Option Entry). or_else o (found' e.key)) next.1,
      λ k le lt. none_found found found' k (next.2 k le lt) (none k le (omega arith)),
    )

-- or one of the older ones
older_next : (found found' : ℕ → Option Entry) (from : ℕ) (o : Option Entry) (key : ℕ) → key_of o ≡ Some key → IsNextFrom found' from o
    → ((k : ℕ) → from ≤ k → k ≤ key → found k ≡ None) → IsNextFrom (first_found found found') from o
older_next found found' from None key is next none = absurd (cc is)
older_next found found' from (Some e) key is next none =
    let at : e.key ≡ key = cc is in (
      next.0,
      ap (λ (o : Option Entry). or_else o (found' e.key)) (none e.key next.0 (omega arith)) ∙ next.1,
      λ k le lt. none_found found found' k (none k le (omega arith)) (next.2 k le lt),
    )

module _ (k : Known) (from hi : ℕ) where
  -- none of the walks has a write before the least key
  none_below : (ss : List Stream) (bound : ℕ) → AreAhead k from hi ss → AreFrom from ss → ((at : ℕ) → at < length ss → bound ≤ key_at ss at)
      → (key : ℕ) → from ≤ key → key < bound → first_of k ss key ≡ None
  none_below [] bound ahead past least key le lt = refl
  none_below (s ∷ ss) bound ahead past least key le lt =
      let above : bound ≤ s.key = least 0 (omega arith) in
      none_found (any_found k s.walk) (first_of k ss) key
      (before_key (any_found k s.walk) from (any_last k s.walk) s.key ahead.0.at (ahead.0.next past.0) key le (omega arith))
      (none_below ss bound ahead.1 past.1 (λ at lt'. least (suc at) (omega arith)) key le lt)

  -- the write of the first with the least key is the next one of all
  least_next : (ss : List Stream) (lead : ℕ) → AreAhead k from hi ss → AreFrom from ss → IsLeast lead ss → lead < length ss
      → IsNextFrom (first_of k ss) from (last_at k ss lead)
  least_next [] lead ahead past least lt = absurd (omega arith)
  least_next (s ∷ ss) zero ahead past least lt =
      newer_next (any_found k s.walk) (first_of k ss) from (any_last k s.walk) s.key ahead.0.at (ahead.0.next past.0)
      (none_below ss s.key ahead.1 past.1 (λ at lt'. (least (suc at) (omega arith)).0))
  least_next (s ∷ ss) (suc n) ahead past least lt =
      let before : key_at ss n < s.key = (least 0 (omega arith)).1 (omega arith) in
      older_next (any_found k s.walk) (first_of k ss) from (last_at k ss n) (key_at ss n) (last_key k from hi ss n (omega arith) ahead.1)
      (least_next ss n ahead.1 past.1 (λ at lt'. let both = least (suc at) (omega arith) in (both.0, λ lt''. both.1 (omega arith))) (omega arith))
      (λ key le le'. before_key (any_found k s.walk) from (any_last k s.walk) s.key ahead.0.at (ahead.0.next past.0) key le (omega arith))

-- ---- up to the greatest key

pub up_to_inside : (hi : ℕ) (found : ℕ → Option Entry) (key : ℕ) → key ≤ hi → up_to hi found key ≡ found key
up_to_inside hi found key le = ap (λ (b : Bool). cond b (found key) None) (le-leb key hi le)

up_to_none : (hi : ℕ) (found : ℕ → Option Entry) (key : ℕ) → found key ≡ None → up_to hi found key ≡ None
up_to_none hi found key none = elim (nat_le key hi) as (λ (b : Bool). cond b (found key) None ≡ None) [ true ↦ none | false ↦ refl ]

pub up_to_same : (hi from : ℕ) (found found' : ℕ → Option Entry) → ((key : ℕ) → from ≤ key → key ≤ hi → found key ≡ found' key)
    → (key : ℕ) → from ≤ key → up_to hi found key ≡ up_to hi found' key
up_to_same hi from found found' same key le =
    elim (nat_le key hi) as (λ (b : Bool). nat_le key hi ≡ b → cond b (found key) None ≡ cond b (found' key) None) [
      | true ↦ λ is. same key le (leb-true key hi is)
      | false ↦ λ is. refl
    ] refl

up_to_next : (hi : ℕ) (found : ℕ → Option Entry) (from : ℕ) (o : Option Entry) (key : ℕ) → key_of o ≡ Some key → key ≤ hi → IsNextFrom found from o
    → IsNextFrom (up_to hi found) from o
up_to_next hi found from None key is le next = absurd (cc is)
up_to_next hi found from (Some e) key is le next =
    let at : e.key ≡ key = cc is in
    (next.0, up_to_inside hi found e.key (omega arith) ∙ next.1, λ k le' lt. up_to_none hi found k (next.2 k le' lt))

-- what was read of all of them
pub lead_next : (k : Known) (from hi : ℕ) (ss : List Stream) (lead : ℕ) → AreAhead k from hi ss → AreFrom from ss → IsLeast lead ss
    → (0 < length ss → lead < length ss) → IsNextFrom (up_to hi (first_of k ss)) from (last_at k ss lead)
lead_next k from hi [] lead ahead past least inside = λ key le. up_to_none hi (first_of k []) key refl
lead_next k from hi (s ∷ ss) lead ahead past least inside =
    let lt : lead < length (s ∷ ss) = inside (omega arith) in
    up_to_next hi (first_of k (s ∷ ss)) from (last_at k (s ∷ ss) lead) (key_at (s ∷ ss) lead) (last_key k from hi (s ∷ ss) lead lt ahead)
    (key_within k from hi (s ∷ ss) lead lt ahead) (least_next k from hi (s ∷ ss) lead ahead past least lt)

-- ---- a read, by looks from what was before

module _ (k k' : Known) (from hi hi' : ℕ) (ss ss' : List Stream) (top : hi' ≡ hi)
    (same : (key : ℕ) → from ≤ key → key ≤ hi → first_of k' ss' key ≡ first_of k ss key) where
  pub read_same : (key : ℕ) → from ≤ key → up_to hi' (first_of k' ss') key ≡ up_to hi (first_of k ss) key
  read_same key le = ap (λ (n : ℕ). up_to n (first_of k' ss') key) top ∙ up_to_same hi from (first_of k' ss') (first_of k ss) same key le

  pub read_next : (lead : ℕ) → AreAhead k' from hi' ss' → AreFrom from ss' → IsLeast lead ss' → (0 < length ss' → lead < length ss')
      → IsNextFrom (up_to hi (first_of k ss)) from (last_at k' ss' lead)
  read_next lead ahead past least inside = next_same (up_to hi' (first_of k' ss')) (up_to hi (first_of k ss)) from (last_at k' ss' lead)
      (λ key le. sym (read_same key le)) (lead_next k' from hi' ss' lead ahead past least inside)

pub read_key : (k : Known) (from hi : ℕ) (ss : List Stream) (lead : ℕ) (key : Option ℕ) → (lead < length ss → key ≡ Some (key_at ss lead))
    → (length ss ≤ lead → key ≡ None) → AreAhead k from hi ss → key ≡ key_of (last_at k ss lead)
read_key k from hi ss lead key there none ahead = elim (cases_lt lead (length ss)) [
  | inl lt ↦ there lt ∙ sym (last_key k from hi ss lead lt ahead)
  | inr le ↦ none le ∙ sym (ap (λ (o : Option Stream). key_of (last_in (λ (s : Stream). any_last k s.walk) o)) (get_none ss lead le))
]

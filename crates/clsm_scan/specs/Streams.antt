-- Walks as one, the newest first, each with the key of the write that it came by last.
use Rattle.std.specs.Prelude.{◌≡◌, ℕ, suc, zero, ◌+◌, ◌<◌, ◌≤◌, nat_le, cond, List, [], ◌∷◌, length, Option, Some, None, slice_get, refl}
use Rattle.std.specs.List.{AllByRecursion}
use Rattle.std.proofs.Common.{ap, ◌∙◌, arith, subst, sym}
use Rattle.clsm_model.specs.History.{or_else}
use Rattle.clsm_levels.specs.declared.entry.Entry.{Entry}
use Rattle.clsm_levels.specs.Yields.{IsNextFrom}
use Rattle.clsm_words.specs.declared.known.Known.{Known}
use Rattle.clsm_words.specs.declared.words.WordTable.{WordTable}
use Rattle.clsm_words.specs.Keeping.{LooksAside}
use Rattle.clsm_words.specs.Seats.{RawState}
use Rattle.clsm_scan.specs.declared.merged.Merged.{Merged}
use Rattle.clsm_scan.specs.declared.merged.Stream.{Stream}
use Rattle.clsm_scan.specs.Heads.{key_of}
use Rattle.clsm_scan.specs.Reading.{MayReadFrom}
use Rattle.clsm_scan.specs.Optional.{last_in}
use Rattle.clsm_scan.specs.Walks.{any_found, any_found_stays, any_last, any_last_stays, any_over, any_over_stays, any_stands, any_stands_stays}

-- what the first finds at the key, or else the second
abbrev pub first_found : (ℕ → Option Entry) → (ℕ → Option Entry) → ℕ → Option Entry
first_found found found' k = or_else (found k) (found' k)

-- what the first of the walks finds that finds anything at the key
abbrev pub first_of : Known → List Stream → ℕ → Option Entry
first_of k [] key = None
first_of k (s ∷ ss) key = or_else (any_found k s.walk key) (first_of k ss key)

-- what is found of the keys up to the greatest one
abbrev pub up_to : ℕ → (ℕ → Option Entry) → ℕ → Option Entry
up_to hi found key = cond (nat_le key hi) (found key) None

-- each walk is along an epoch or a run
abbrev pub AreOver : Known → List Stream → Type 0
AreOver k = AllByRecursion (λ s. any_over k s.walk)

-- The stream's key is that of the last write that its walk came by, which is the next one from this
-- key on, or else is passed; the walk stands behind it
pub record IsAhead (k : Known) (from hi : ℕ) (s : Stream) : Type 0 where
  pub at : key_of (any_last k s.walk) ≡ Some s.key
  pub within : s.key ≤ hi
  pub stands : any_stands k s.walk (s.key + 1)
  pub next : from ≤ s.key → IsNextFrom (any_found k s.walk) from (any_last k s.walk)

abbrev pub AreAhead : Known → ℕ → ℕ → List Stream → Type 0
AreAhead k from hi = AllByRecursion (IsAhead k from hi)

-- the walks are over what the seat holds, and stand as those of a scan that goes on from this key
abbrev pub IsMerging : WordTable → RawState → ℕ → Merged → Type 0
IsMerging words seat from m = MayReadFrom (λ k m. AreOver k m.streams.items) (λ k m from. AreAhead k from m.hi m.streams.items) words seat m from

-- the write that the walk at the place came by last
abbrev pub last_at : Known → List Stream → ℕ → Option Entry
last_at k ss at = last_in (λ s. any_last k s.walk) (slice_get ss at)

-- ---- looks leave all of it

pub next_same : (found found' : ℕ → Option Entry) (from : ℕ) (o : Option Entry) → ((k : ℕ) → from ≤ k → found' k ≡ found k) → IsNextFrom found from o
    → IsNextFrom found' from o
next_same found found' from None same next = λ k le. same k le ∙ next k le
next_same found found' from (Some e) same next = (next.0, same e.key next.0 ∙ next.1, λ k le lt. same k le ∙ next.2 k le lt)

pub next_later : (found : ℕ → Option Entry) (from later key : ℕ) (o : Option Entry) → key_of o ≡ Some key → from ≤ later → later ≤ key → IsNextFrom found from o
    → IsNextFrom found later o
next_later found from later key None is le here next = absurd (cc is)
next_later found from later key (Some e) is le here next =
    let at : e.key ≡ key = cc is in (omega arith, next.1, λ k from_later lt. next.2 k (omega arith) lt)

pub ahead_stays : (k k' : Known) (from hi : ℕ) (s : Stream) → LooksAside k k' → any_over k s.walk → IsAhead k from hi s → IsAhead k' from hi s
ahead_stays k k' from hi s looks over is =
    let last = any_last_stays k k' s.walk looks over in
    record {
      at = ap key_of last ∙ is.at;
      within = is.within;
      stands = any_stands_stays k k' s.walk (s.key + 1) looks over is.stands;
      next = λ le. subst (IsNextFrom (any_found k' s.walk) from) (sym last)
          (next_same (any_found k s.walk) (any_found k' s.walk) from (any_last k s.walk)
          (λ key le'. any_found_stays k k' s.walk looks over key) (is.next le));
    }

pub ahead_later : (k : Known) (from later hi : ℕ) (s : Stream) → from ≤ later → IsAhead k from hi s → IsAhead k later hi s
ahead_later k from later hi s le is = record {
  at = is.at;
  within = is.within;
  stands = is.stands;
  next = λ (here : later ≤ s.key). next_later (any_found k s.walk) from later s.key (any_last k s.walk) is.at le here (is.next (omega arith));
}

module _ (k k' : Known) (looks : LooksAside k k') where
  pub all_over_stays : (ss : List Stream) → AreOver k ss → AreOver k' ss
  all_over_stays [] over = tt
  all_over_stays (s ∷ ss) over = (any_over_stays k k' s.walk looks over.0, all_over_stays ss over.1)

  pub all_ahead_stays : (from hi : ℕ) (ss : List Stream) → AreOver k ss → AreAhead k from hi ss → AreAhead k' from hi ss
  all_ahead_stays from hi [] over ahead = tt
  all_ahead_stays from hi (s ∷ ss) over ahead = (ahead_stays k k' from hi s looks over.0 ahead.0, all_ahead_stays from hi ss over.1 ahead.1)

  pub first_of_stays : (ss : List Stream) → AreOver k ss → (key : ℕ) → first_of k' ss key ≡ first_of k ss key
  first_of_stays [] over key = refl
  first_of_stays (s ∷ ss) over key = λ i. or_else (any_found_stays k k' s.walk looks over.0 key i) (first_of_stays ss over.1 key i)

  pub up_to_stays : (hi : ℕ) (ss : List Stream) → AreOver k ss → (key : ℕ) → up_to hi (first_of k' ss) key ≡ up_to hi (first_of k ss) key
  up_to_stays hi ss over key = λ i. cond (nat_le key hi) (first_of_stays ss over key i) None

  pub last_at_stays : (ss : List Stream) (at : ℕ) → AreOver k ss → last_at k' ss at ≡ last_at k ss at
  last_at_stays [] at over = refl
  last_at_stays (s ∷ ss) zero over = any_last_stays k k' s.walk looks over.0
  last_at_stays (s ∷ ss) (suc at) over = last_at_stays ss at over.1

pub all_ahead_later : (k : Known) (from later hi : ℕ) (ss : List Stream) → from ≤ later → AreAhead k from hi ss → AreAhead k later hi ss
all_ahead_later k from later hi [] le ahead = tt
all_ahead_later k from later hi (s ∷ ss) le ahead = (ahead_later k from later hi s le ahead.0, all_ahead_later k from later hi ss le ahead.1)

-- ---- places

-- each of the first walks, so many of them, came by a write with a key from this one on
abbrev pub ArePast : ℕ → ℕ → List Stream → Type 0
ArePast from zero ss = Unit {0}
ArePast from (suc n) [] = Unit {0}
ArePast from (suc n) (s ∷ ss) = (from ≤ s.key) × ArePast from n ss

-- all of them did
abbrev pub AreFrom : ℕ → List Stream → Type 0
AreFrom from = AllByRecursion (λ s. from ≤ s.key)

-- the key of the stream at the place
abbrev pub key_at : List Stream → ℕ → ℕ
key_at [] at = 0
key_at (s ∷ ss) zero = s.key
key_at (s ∷ ss) (suc at) = key_at ss at

-- no key is less than that at the place, and none before it is the same
abbrev pub IsLeast : ℕ → List Stream → Type 0
IsLeast lead ss = (at : ℕ) → at < length ss → (key_at ss lead ≤ key_at ss at) × (at < lead → key_at ss lead < key_at ss at)

-- ---- walks that are added, older than those before

-- looks added what finds this of the keys from `lo` on and up to the greatest one
pub record HasAdded (lo : ℕ) (k : Known) (m : Merged) (k' : Known) (m' : Merged) (found : ℕ → Option Entry) : Type 0 where
  pub looks : LooksAside k k'
  pub hi : m'.hi ≡ m.hi
  pub over : AreOver k' m'.streams.items
  pub ahead : AreAhead k' lo m'.hi m'.streams.items
  pub finds : (key : ℕ) → lo ≤ key → key ≤ m.hi → first_of k' m'.streams.items key ≡ first_found (first_of k m.streams.items) found key

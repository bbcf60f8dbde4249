-- Searches for the last write of a kind: in one record, and in all of them.
use Rattle.std.proofs.Common.{◌≡◌, ℕ, ◌+◌, ◌<◌, ◌≤◌, zero, suc, List, [], ◌∷◌, length, get_or, Option, Some, None, IfSome, IsSome, MatchOption, refl, sym}
use Rattle.std.proofs.Common.{ap, subst, arith, ⊎_elim}
use Rattle.std.proofs.lemmas.Bool.{cases_lt}
use Rattle.std.specs.List.{slice_get}
use Rattle.std.specs.Option.{IsSomeAnd}
use Rattle.clsm_model.specs.declared.slot.Slot.{Slot}
use Rattle.clsm_model.specs.declared.record.CallRecord.{CallRecord}
use Rattle.clsm_model.specs.Right.{Member, change_by, member_write}
use Rattle.clsm_audit.specs.declared.wanted.FoundWrite.{FoundWrite}
use Rattle.clsm_audit.specs.declared.wanted.Wanted.{Wanted}
use Rattle.clsm_audit.specs.Sought.{Fits, HasNoneIn, IsLastIn, IsLastWrite, IsMade, IsMadeAt, MakesAt}
use Rattle.clsm_audit.specs.Written.{WritesAt, time_past, write_of}
use Rattle.clsm_audit.proofs.Indices.{if_here, past_end}
use Rattle.clsm_audit.proofs.Seconds.{at_index}
use Rattle.clsm_audit.proofs.Times.{writes_within}

-- ---- the members of a batch

pub member_there : (seat : ℕ) (members : List Member) (n : ℕ) (m : Member) → n < length members → m ≡ get_or members n m → member_write seat members n
    ≡ change_by seat m.0 m.1
member_there seat [] n m lt is = absurd (omega arith)
member_there seat (x ∷ xs) zero m lt is = ap (λ (y : Member). change_by seat y.0 y.1) (sym is)
member_there seat (x ∷ xs) (suc n) m lt is = member_there seat xs n m (omega arith) is

pub member_past : (seat : ℕ) (members : List Member) (n : ℕ) → length members ≤ n → member_write seat members n ≡ None
member_past seat [] n le = refl
member_past seat (x ∷ xs) zero le = absurd (omega arith)
member_past seat (x ∷ xs) (suc n) le = member_past seat xs n (omega arith)

-- ---- one record

pub makes_writes : (wanted : Wanted) (t : ℕ) (r : CallRecord) → MakesAt wanted t r → WritesAt t r
makes_writes wanted t r makes = some (write_of r t) makes where
  some : (o : Option Slot) → IsSomeAnd o (Fits wanted) → IsSome o
  some None is = absurd is
  some (Some slot) is = refl

-- before its first time, and from its end on, a record makes none
pub none_before : (wanted : Wanted) (r : CallRecord) (t : ℕ) → t < r.time → ¬ MakesAt wanted t r
none_before wanted r t lt makes = let is = writes_within r t (makes_writes wanted t r makes) in omega (arith, is.1)

pub none_past : (wanted : Wanted) (r : CallRecord) (t : ℕ) → time_past r ≤ t → ¬ MakesAt wanted t r
none_past wanted r t le makes = let is = writes_within r t (makes_writes wanted t r makes) in omega (arith, is.2)

-- what was found below a time is what is found below a later one, where there is none between
pub found_until : (wanted : Wanted) (index : ℕ) (r : CallRecord) (from u v : ℕ) (last : Option FoundWrite) → u ≤ v
    → ((t : ℕ) → u ≤ t → t < v → ¬ MakesAt wanted t r)
    → MatchOption last (HasNoneIn wanted r from u) (IsLastIn wanted index r from u)
    → MatchOption last (HasNoneIn wanted r from v) (IsLastIn wanted index r from v)
found_until wanted index r from u v None le none before = λ t low high. ⊎_elim (λ (lt : t < u). before t low lt) (λ (ge : u ≤ t). none t ge high) (cases_lt t u)
found_until wanted index r from u v (Some found) le none before = record {
  index_is = before.index_is;
  not_before = before.not_before;
  before = let lt = before.before in omega arith;
  made = before.made;
  last = λ t low high. ⊎_elim (λ (lt : t < u). before.last t low lt) (λ (ge : u ≤ t). none t ge high) (cases_lt t u);
}

pub found_next : (wanted : Wanted) (index : ℕ) (r : CallRecord) (from n v : ℕ) (slot : Slot) → from ≤ n → v ≡ n + 1 → IsMadeAt wanted n r (Some slot)
    → IsLastIn wanted index r from v (record { index = index; time = n; slot = slot })
found_next wanted index r from n v slot le is made = record {
  index_is = refl;
  not_before = le;
  before = omega arith;
  made = record { is = made.0; fits = made.1 };
  last = λ t low high. absurd (omega arith);
}

-- ---- all records

-- none of the records before the index n makes one between the two times
abbrev pub HasNoneBefore : List CallRecord → Wanted → ℕ → ℕ → ℕ → Type 0
HasNoneBefore records wanted n low below = (i t : ℕ) → i < n → low < t → t < below → IfSome (slice_get records i) (λ r. ¬ MakesAt wanted t r)

-- the last one of the records before the index n
pub record IsLastBefore (records : List CallRecord) (wanted : Wanted) (n below : ℕ) (found : FoundWrite) : Type 0 where
  pub before : found.time < below
  pub made : IsSomeAnd (slice_get records found.index) (IsMade wanted found)
  pub last : HasNoneBefore records wanted n found.time below

abbrev pub IsSearched : List CallRecord → Wanted → ℕ → ℕ → ℕ → Option FoundWrite → Type 0
IsSearched records wanted n below from None = (from ≡ 0) × ((i t : ℕ) → i < n → t < below → IfSome (slice_get records i) (λ r. ¬ MakesAt wanted t r))
IsSearched records wanted n below from (Some found) = (from ≡ found.time) × IsLastBefore records wanted n below found

quiet : (records : List CallRecord) (wanted : Wanted) (n below from : ℕ) (last : Option FoundWrite) → IsSearched records wanted n below from last
    → HasNoneBefore records wanted n from below
quiet records wanted n below from None before i t lt low high = before.1 i t lt high
quiet records wanted n below from (Some found) before i t lt low high = before.1.last i t lt (let e = before.0 in omega arith) high

module _ (records : List CallRecord) (wanted : Wanted) (n below : ℕ) (r : CallRecord) (within : n < length records) (is : r ≡ get_or records n r) where
  -- of the records before the next index
  next_index : (t : ℕ) → ((i : ℕ) → i < n → IfSome (slice_get records i) (λ q. ¬ MakesAt wanted t q)) → ¬ MakesAt wanted t r → (i : ℕ) → i < n + 1
      → IfSome (slice_get records i) (λ q. ¬ MakesAt wanted t q)
  next_index t earlier here i lt = ⊎_elim
      (λ (lt' : i < n). earlier i lt')
      (λ (ge : n ≤ i). subst (λ (j : ℕ). IfSome (slice_get records j) (λ q. ¬ MakesAt wanted t q)) (let e : n ≡ i = omega arith in e)
      (if_here (λ q. ¬ MakesAt wanted t q) records n r within is here))
      (cases_lt i n)

  pub searched_found : (from : ℕ) (last : Option FoundWrite) (found : FoundWrite) → IsSearched records wanted n below from last
      → IsLastIn wanted n r from below found → IsSearched records wanted (n + 1) below found.time (Some found)
  searched_found from last found before here = (
    refl,
    record {
      before = here.before;
      made = subst (λ (i : ℕ). IsSomeAnd (slice_get records i) (IsMade wanted found)) (sym here.index_is)
          ((at_index (IsMade wanted found) records n r within is).0 here.made);
      last = λ i t lt low high. next_index t (λ j lt'. quiet records wanted n below from last before j t lt' (let le = here.not_before in omega arith) high)
          (here.last t low high) i lt;
    },
  )

  pub searched_none : (from : ℕ) (last : Option FoundWrite) → IsSearched records wanted n below from last → HasNoneIn wanted r from below
      → IsSearched records wanted (n + 1) below from last
  searched_none from None before here =
      (before.0, λ i t lt high. next_index t (λ j lt'. before.1 j t lt' high) (here t (let e = before.0 in omega arith) high) i lt)
  searched_none from (Some found) before here = (
    before.0,
    record {
      before = before.1.before;
      made = before.1.made;
      last = λ i t lt low high. next_index t (λ j lt'. before.1.last j t lt' low high) (here t (let e = before.0 in omega arith) high) i lt;
    },
  )

pub searched_all : (records : List CallRecord) (wanted : Wanted) (n below from : ℕ) (last : Option FoundWrite) → length records ≤ n
    → IsSearched records wanted n below from last → IsLastWrite records wanted below last
searched_all records wanted n below from None all before = λ i t high. ⊎_elim
    (λ (lt : i < n). before.1 i t lt high)
    (λ (ge : n ≤ i). past_end (λ q. ¬ MakesAt wanted t q) records i (omega arith))
    (cases_lt i n)
searched_all records wanted n below from (Some found) all before = record {
  before = before.1.before;
  made = before.1.made;
  last = λ i t low high. ⊎_elim
      (λ (lt : i < n). before.1.last i t lt low high)
      (λ (ge : n ≤ i). past_end (λ q. ¬ MakesAt wanted t q) records i (omega arith))
      (cases_lt i n);
}

-- What holds of the record at an index, and of each record up to the end.
use Rattle.std.proofs.Common.{◌≡◌, ℕ, ◌+◌, ◌<◌, ◌≤◌, List, [], ◌∷◌, ◌++◌, length, get_or, take, drop, Option, Some, None, IfSome, refl, sym, ap, ◌∙◌, subst}
use Rattle.std.proofs.Common.{⊎_elim, arith}
use Rattle.std.proofs.lemmas.Bool.{cases_lt}
use Rattle.std.proofs.lemmas.List.{append-nil, drop_all, get_or_default, take_all, take_more}
use Rattle.std.proofs.lemmas.Option.{slice_get_past, slice_get_read}
use Rattle.std.specs.List.{slice_get}
use Rattle.clsm_model.specs.declared.config.Config.{Config}
use Rattle.clsm_model.specs.declared.record.CallRecord.{CallRecord}
use Rattle.clsm_model.specs.declared.record.Deed.TheVariants.{Snapshot}
use Rattle.clsm_audit.specs.declared.fault.FaultKind.{FaultKind}
use Rattle.clsm_audit.specs.declared.fault.FaultKind.TheVariants.{Unknown, TwoAtOneTime, TimeRanBack, WrongReply}
use Rattle.clsm_audit.specs.Faults.{HasNone, IsFirstFault, IsFirstNot, IsFirstOf, IsLawful}

-- what a list of records has past its end
abbrev pub nobody : CallRecord
nobody = record { seat = 0; time = 0; deed = Snapshot }

-- the record at an index below the end, with itself as what stands past it
pub itself : (records : List CallRecord) (i : ℕ) → i < length records → get_or records i nobody ≡ get_or records i (get_or records i nobody)
itself records i within = get_or_default records i nobody (get_or records i nobody) within

-- the record at an index is what the list has there
pub get_here : (records : List CallRecord) (i : ℕ) (r : CallRecord) → i < length records → r ≡ get_or records i r → slice_get records i ≡ Some r
get_here records i r within is = slice_get_read records (length records) i r refl within is

-- what holds of the record at the index, and back
pub if_here : (P : CallRecord → Type 0) (records : List CallRecord) (i : ℕ) (r : CallRecord) → i < length records → r ≡ get_or records i r → P r
    → IfSome (slice_get records i) P
if_here P records i r within is p = rw (get_here records i r within is) p

pub here_if : (P : CallRecord → Type 0) (records : List CallRecord) (i : ℕ) (r : CallRecord) → i < length records → r ≡ get_or records i r
    → IfSome (slice_get records i) P → P r
here_if P records i r within is p = rw (get_here records i r within is) at p

-- from the end on there is no record
pub past_end : (P : CallRecord → Type 0) (records : List CallRecord) (i : ℕ) → length records ≤ i → IfSome (slice_get records i) P
past_end P records i past = subst (λ (o : Option CallRecord). IfSome o P) (sym (slice_get_past records i past)) tt

-- what holds of each record below an index that the end does not pass holds of each
pub each_index : (P : ℕ → CallRecord → Type 0) (records : List CallRecord) (n : ℕ) → length records ≤ n
    → ((i : ℕ) → i < n → IfSome (slice_get records i) (P i)) → (i : ℕ) → IfSome (slice_get records i) (P i)
each_index P records n all below i = ⊎_elim (λ (lt : i < n). below i lt) (λ (le : n ≤ i). past_end (P i) records i (omega arith)) (cases_lt i n)

-- the records up to one, and that one
pub taken_more : (records : List CallRecord) (i : ℕ) (r : CallRecord) → i < length records → r ≡ get_or records i r → take i records ++ r ∷ []
    ≡ take (i + 1) records
taken_more records i r within is = ap (λ (q : CallRecord). take i records ++ q ∷ []) is ∙ sym (take_more records i r within)

-- a list that was written as a whole
pub written_whole : {A : Type 0} (n : ℕ) (new old : List A) → length new ≡ n → length old ≡ n → take n (new ++ drop (length new) old) ≡ new
written_whole n new old long long' = ap (λ (rest : List _). take n (new ++ rest)) (drop_all (length new) old (omega arith)) ∙ ap (take n) (append-nil new)
    ∙ take_all n new (omega arith)

-- ---- what a search says where it found no index

pub all_hold : (Holds : ℕ → Type 0) (found : Option ℕ) → found ≡ None → IsFirstNot Holds found → (i : ℕ) → Holds i
all_hold Holds found none is i = is.below i (subst (λ (o : Option ℕ). IfSome o (λ first. i < first)) (sym none) tt)

pub none_has : (IsFault : ℕ → Type 0) (found : Option ℕ) → found ≡ None → IsFirstOf IsFault found → HasNone IsFault
none_has IsFault found none is = subst (IsFirstOf IsFault) none is

-- ---- and where it found one

-- lawful records have no first fault
pub no_fault : (config : Config) (records : List CallRecord) → IsLawful config records → (kind : FaultKind) (i : ℕ) → IsFirstFault config records kind i → ⊥
no_fault config records lawful Unknown i first = lawful.known i first.here
no_fault config records lawful TwoAtOneTime i first = lawful.alone i first.1.here
no_fault config records lawful TimeRanBack i first = lawful.rises i first.2.here
no_fault config records lawful WrongReply i first = lawful.right i first.3.here

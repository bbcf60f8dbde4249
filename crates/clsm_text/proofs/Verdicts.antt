-- The audit of the records that lines say.
use Rattle.std.proofs.Common.{◌≡◌, ℕ, zero, suc, ◌<◌, List, [], ◌∷◌, length, get_or}
use Rattle.std.proofs.Common.{IfSome, slice_get, Bool, true, Option, Some, None, ◌++◌, codes}
use Rattle.std.specs.Io.KnownBytes.{Appends, Keeps}
use Rattle.std.proofs.KnownBytes.{Appends-kept, Appends-nil, Appends-trans}
use Rattle.std.proofs.Common.{sym, subst, arith, refl, ap, inl, inr, append-nil, IsSomeAnd}
use Rattle.std.proofs.lemmas.Bool.Decides.{leb_tells}
use Rattle.std.proofs.lemmas.Option.{slice_get_past}
use Rattle.std.proofs.lemmas.List.{get_or_read}
use Rattle.clsm_model.specs.declared.config.Config.{Config}
use Rattle.clsm_model.specs.declared.record.CallRecord.{CallRecord}
use Rattle.clsm_audit.specs.Faults.{IsFirstFault, IsLawful, IsRefusal}
use Rattle.clsm_audit.specs.declared.fault.AuditError.{AuditError}
use Rattle.clsm_audit.specs.declared.fault.AuditError.TheVariants.{Fault}
use Rattle.clsm_audit.specs.declared.fault.FaultKind.{FaultKind}
use Rattle.clsm_audit.specs.declared.fault.FaultKind.TheVariants.{Unknown, TwoAtOneTime}
use Rattle.clsm_audit.specs.declared.fault.FaultKind.TheVariants.{TimeRanBack, WrongReply}
use Rattle.clsm_audit.specs.RealTime.{IsFirstTooEarly, IsOrderError, IsTooEarly, TimedCall, call_at, call_by, place_in}
use Rattle.clsm_audit.specs.declared.order.OrderError.{OrderError}
use Rattle.clsm_audit.specs.declared.order.OrderError.TheVariants.{Stale}
use Rattle.clsm_audit.specs.declared.place.Moments.{Moments}
use Rattle.clsm_text.specs.Line.{lines_of}
use Rattle.clsm_text.specs.Audit.{Grows, HasFaultOn, IsListOf, IsStaleOn, IsVerdict, PrintsFault, PrintsVerdict, StandsOn}
use Rattle.clsm_text.specs.Audit.{records_of, status_of, verdict_text}
use Rattle.clsm_text.specs.declared.verdict.Verdict.{Verdict}
use Rattle.clsm_text.specs.declared.verdict.Verdict.TheVariants.{Lawful, Fault as VerdictFault, Stale as VerdictStale}
use Rattle.clsm_text.proofs.Lists.{get_inside}

-- what fails at an index fails inside the list
fails_inside : {A : Type 0} (P : A → Type 0) (xs : List A) (i : ℕ) → ¬ IfSome (slice_get xs i) P →
    i < length xs
fails_inside P [] i fails = absurd (fails tt)
fails_inside P (x ∷ xs) zero fails = omega arith
fails_inside P (x ∷ xs) (suc i) fails = let more = fails_inside P xs i fails in omega arith

-- a fault is one of a record
pub fault_inside : (config : Config) (records : List CallRecord) (kind : FaultKind) (index : ℕ) →
    IsFirstFault config records kind index → index < length records
fault_inside config records Unknown index fault = fails_inside _ records index fault.here
fault_inside config records TwoAtOneTime index fault = get_inside _ records index fault.1.here
fault_inside config records TimeRanBack index fault = fails_inside _ records index fault.2.here
fault_inside config records WrongReply index fault = fails_inside _ records index fault.3.here

-- a refusal for a fault
pub refused : (config : Config) (seen records : List CallRecord) (error : AuditError)
    (kind : FaultKind) (index : ℕ) → seen ≡ records → error ≡ Fault kind index →
    IsRefusal config seen error → IsFirstFault config records kind index
refused config seen records error kind index same is refusal =
    let fault : IsFirstFault config seen kind index = subst (IsRefusal config seen) is refusal in
    subst (λ (rs : List CallRecord). IsFirstFault config rs kind index) same fault

module _ (config : Config) (order : Bool) (bytes : List ℕ) (records : List CallRecord) (numbers : List ℕ) (moments : List Moments)
    (list : IsListOf order (lines_of bytes) records numbers moments) where
  -- a record stands on its line
  at_line : (index number : ℕ) → index < length records → number ≡ get_or numbers index number → StandsOn list.said index number
  at_line index number inside is =
      let early : index < length numbers = omega (arith, inside, list.count) in
      subst (StandsOn list.said index) (sym (get_or_read numbers index number early is 0)) (list.stand index early)

  -- the record with the fault stands on its line
  pub lines_fault : (kind : FaultKind) (index number : ℕ) → IsFirstFault config records kind index →
      number ≡ get_or numbers index number → HasFaultOn config order bytes kind number
  lines_fault kind index number fault is =
      record {
        said = list.said;
        says = list.says;
        index = index;
        fault = subst (λ (rs : List CallRecord). IsFirstFault config rs kind index)
            list.records_are fault;
        stands = at_line index number (fault_inside config records kind index fault) is;
      }

-- a call that is too early is one of the records
pub early_inside : (records : List CallRecord) (moments : List Moments) (i j : ℕ) → IsTooEarly records moments i j → i < length records
early_inside records moments i j early =
    elim (leb_tells (length records) i) [
      | inl (_, past) ↦
          let none : call_at records moments i ≡ None =
          ap (λ (o : Option CallRecord). call_by (place_in records i o) (slice_get moments i)) (slice_get_past records i past) in
          absurd (outside (call_at records moments j) (call_at records moments i) none early)
      | inr (_, before) ↦ omega arith
    ] where
      outside : (a c : Option TimedCall) → c ≡ None
          → IsSomeAnd a (λ earlier. IsSomeAnd c (λ call. (earlier.moments.end < call.moments.begin) × (call.place.from < earlier.place.past))) → ⊥
      outside None c none early = early
      outside (Some earlier) None none early = early
      outside (Some earlier) (Some call) none early = cc none

-- it stands on its line
pub lines_stale : (config : Config) (bytes : List ℕ) (records : List CallRecord) (numbers : List ℕ) (moments : List Moments) →
    IsListOf true (lines_of bytes) records numbers moments → (index earlier number : ℕ) → IsLawful config records →
    IsFirstTooEarly records moments index earlier → number ≡ get_or numbers index number → IsStaleOn config bytes number
lines_stale config bytes records numbers moments list index earlier number lawful early is = record {
  said = list.said;
  says = list.says;
  index = index;
  earlier = earlier;
  lawful = subst (IsLawful config) list.records_are lawful;
  too_early = subst (λ (ms : List Moments). IsFirstTooEarly (records_of list.said) ms index earlier) list.moments_are
      (subst (λ (rs : List CallRecord). IsFirstTooEarly rs moments index earlier) list.records_are early);
  stands = at_line config true bytes records numbers moments list index number (early_inside records moments index earlier early.here) is;
}

-- a refusal of the order
pub refused_order : (records : List CallRecord) (moments : List Moments) (error : OrderError) (index earlier : ℕ) → error ≡ Stale index earlier →
    IsOrderError records moments error → IsFirstTooEarly records moments index earlier
refused_order records moments error index earlier is refusal = subst (IsOrderError records moments) is refusal

-- ---- what is printed

-- the verdict alone
pub prints_plain : (history : Bool) (before after : Option (List ℕ)) (verdict : Verdict) →
    Appends before after (verdict_text verdict ++ codes "\n") → PrintsVerdict history before after verdict
prints_plain history before after Lawful printed = (
  (λ hidden. printed),
  record { more = []; printed = subst (Appends before after) (sym (append-nil (verdict_text Lawful ++ codes "\n"))) printed },
)
prints_plain history before after (VerdictFault kind number) printed = printed
prints_plain history before after (VerdictStale number) printed = printed

-- and a history behind it
pub prints_history : (history : Bool) (before now after : Option (List ℕ)) → history ≡ true →
    Appends before now (verdict_text Lawful ++ codes "\n") → Grows now after → PrintsVerdict history before after Lawful
prints_history history before now after asked printed (more, grown) = (
  (λ hidden. absurd (cc)),
  record { more = more; printed = Appends-trans before now after (verdict_text Lawful ++ codes "\n") more printed grown },
)

-- known bytes grow by nothing, by a text, and further
pub grows_start : (output : Option (List ℕ)) → Grows output output
grows_start output = ([], Appends-nil output)

pub grows_by : (before after : Option (List ℕ)) (text : List ℕ) → Appends before after text → Grows before after
grows_by before after text printed = (text, printed)

pub grows_on : (before now after : Option (List ℕ)) → Grows before now → Grows now after → Grows before after
grows_on before now after (text, printed) (more, grown) =
    (text ++ more, Appends-trans before now after text more printed grown)

-- it is given out
pub prints_kept : (history : Bool) (before after kept : Option (List ℕ)) (verdict : Verdict) →
    PrintsVerdict history before after verdict → Keeps after kept → PrintsVerdict history before kept verdict
prints_kept history before after kept Lawful printed keeps = (
  (λ hidden. Appends-kept before after kept _ (printed.0 hidden) keeps),
  record { more = printed.1.more; printed = Appends-kept before after kept _ printed.1.printed keeps },
)
prints_kept history before after kept (VerdictFault kind number) printed keeps =
    Appends-kept before after kept _ printed keeps
prints_kept history before after kept (VerdictStale number) printed keeps =
    Appends-kept before after kept _ printed keeps

-- by the status it is known which verdict is printed
pub prints_lawful : (history : Bool) (before after : Option (List ℕ)) (verdict : Verdict) →
    PrintsVerdict history before after verdict → status_of verdict ≡ 0 → PrintsVerdict history before after Lawful
prints_lawful history before after Lawful printed status = printed
prints_lawful history before after (VerdictFault kind number) printed status = absurd (omega (arith, status))
prints_lawful history before after (VerdictStale number) printed status = absurd (omega (arith, status))

pub prints_fault : (config : Config) (order : Bool) (input : Option (List ℕ)) (history : Bool) (before after : Option (List ℕ))
    (verdict : Verdict) → IfSome input (λ bytes. IsVerdict config order bytes verdict) →
    PrintsVerdict history before after verdict → status_of verdict ≡ 2 → IfSome input (PrintsFault config order before after)
prints_fault config order None history before after verdict is printed status = tt
prints_fault config order (Some bytes) history before after Lawful is printed status = absurd (omega (arith, status))
prints_fault config order (Some bytes) history before after (VerdictFault kind number) is printed status =
    record { verdict = VerdictFault kind number; is_fault = refl; is_right = is; printed = printed }
prints_fault config order (Some bytes) history before after (VerdictStale number) is printed status =
    record { verdict = VerdictStale number; is_fault = refl; is_right = is; printed = printed }

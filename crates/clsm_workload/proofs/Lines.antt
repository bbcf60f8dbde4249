-- Lines that are held back before they are written.
use Rattle.std.proofs.Common.{◌≡◌, ◌∙◌, ℕ, ◌+◌, ◌<◌, ◌≤◌, List, [], ◌∷◌, ◌++◌, append_assoc, length, take, get_or}
use Rattle.std.proofs.Common.{Option, None, Some, ap, refl, sym, subst}
use Rattle.std.specs.Prelude.{flat_map}
use Rattle.std.specs.Io.KnownBytes.{Appends, Keeps, append_known}
use Rattle.std.proofs.lemmas.List.{flat_map_more, map-append, take_all, take_more}
use Rattle.clsm_audit.specs.declared.place.Moments.{Moments}
use Rattle.clsm_model.specs.declared.record.CallRecord.{CallRecord}
use Rattle.clsm_workload.specs.Printed.{PrintsTimed, record_text, records_text, timed_text}

-- one line more is held, and perhaps all were written then
held_more : (a b c : Option (List ℕ)) (held printed line : List ℕ) → Appends a (append_known b held) printed
    → Keeps (append_known b (held ++ line)) c → Appends a c (printed ++ line)
held_more None b c held printed line before kept = tt
held_more (Some x) None c held printed line before kept = absurd before
held_more (Some x) (Some y) None held printed line before kept = absurd kept
held_more (Some x) (Some y) (Some z) held printed line before kept =
    kept ∙ (sym (append_assoc y held line) ∙ (ap (λ l. l ++ line) before ∙ append_assoc x printed line))

-- all that is held is written
held_all : (a b c : Option (List ℕ)) (held printed : List ℕ) → Appends a (append_known b held) printed → Appends b c held → Appends a c printed
held_all None b c held printed before passed = tt
held_all (Some x) None c held printed before passed = absurd before
held_all (Some x) (Some y) None held printed before passed = absurd passed
held_all (Some x) (Some y) (Some z) held printed before passed = passed ∙ before

-- nothing is held yet
pub held_none : (a : Option (List ℕ)) (held : List ℕ) → held ≡ [] → Appends a (append_known a held) []
held_none None held is = tt
held_none (Some x) held is = ap (λ l. x ++ l) is

pub timed_none : (a : Option (List ℕ)) (held : List ℕ) → held ≡ [] → PrintsTimed [] a (append_known a held)
timed_none a held is = record { timed = []; each = refl; prints = held_none a held is }

one_more : (records : List CallRecord) (i : ℕ) (r d : CallRecord) → i < length records → r ≡ get_or records i d
    → take i records ++ r ∷ [] ≡ take (i + 1) records
one_more records i r d inside is = ap (λ x. take i records ++ x ∷ []) is ∙ sym (take_more records i d inside)

-- a loop's step, and its end
pub records_more : (records : List CallRecord) (i : ℕ) (r d : CallRecord) (a b c : Option (List ℕ)) (held new : List ℕ) → i < length records
    → r ≡ get_or records i d → Appends a (append_known b held) (records_text (take i records)) → new ≡ held ++ record_text r
    → Keeps (append_known b new) c → Appends a c (records_text (take (i + 1) records))
records_more records i r d a b c held new inside is before grown kept =
    subst (Appends a c) (flat_map_more record_text [] (take i records) r ∙ ap records_text (one_more records i r d inside is))
    (held_more a b c held (records_text (take i records)) (record_text r) before (subst (λ l. Keeps (append_known b l) c) grown kept))

pub records_all : (records : List CallRecord) (i : ℕ) (a b c : Option (List ℕ)) (held : List ℕ) → length records ≤ i
    → Appends a (append_known b held) (records_text (take i records)) → Appends b c held → Appends a c (records_text records)
records_all records i a b c held past before passed =
    subst (λ l. Appends a c (records_text l)) (take_all i records past) (held_all a b c held (records_text (take i records)) before passed)

-- the same with moments
pub timed_more : (records : List CallRecord) (i : ℕ) (r d : CallRecord) (moments : Moments) (a b c : Option (List ℕ)) (held new : List ℕ)
    → i < length records → r ≡ get_or records i d → PrintsTimed (take i records) a (append_known b held) → new ≡ held ++ timed_text (r, moments)
    → Keeps (append_known b new) c → PrintsTimed (take (i + 1) records) a c
timed_more records i r d moments a b c held new inside is before grown kept = record {
  timed = before.timed ++ (r, moments) ∷ [];
  each = map-append (λ (one : CallRecord × Moments). one.0) before.timed ((r, moments) ∷ [])
      ∙ (ap (λ (l : List CallRecord). l ++ r ∷ []) before.each ∙ one_more records i r d inside is);
  prints = subst (Appends a c) (flat_map_more timed_text [] before.timed (r, moments))
      (held_more a b c held (flat_map timed_text before.timed) (timed_text (r, moments)) before.prints
      (subst (λ l. Keeps (append_known b l) c) grown kept));
}

pub timed_all : (records : List CallRecord) (i : ℕ) (a b c : Option (List ℕ)) (held : List ℕ) → length records ≤ i
    → PrintsTimed (take i records) a (append_known b held) → Appends b c held → PrintsTimed records a c
timed_all records i a b c held past before passed = record {
  timed = before.timed;
  each = before.each ∙ take_all i records past;
  prints = held_all a b c held (flat_map timed_text before.timed) before.prints passed;
}

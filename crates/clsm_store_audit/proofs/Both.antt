-- Two seats are all those of a store: what the settled history says of them.
use Rattle.std.proofs.Common.{◌≡◌, ℕ, zero, suc, ◌<◌, ◌⊎◌, inl, inr, List, [], ◌∷◌, length, get_or, Option}
use Rattle.std.proofs.Common.{refl, sym, ap, ◌∙◌, subst, arith}
use Rattle.std.proofs.lemmas.List.{get_or_default}
use Rattle.std.proofs.lemmas.List.Elements.{All-get_or}
use Rattle.clsm_model.specs.declared.slot.Slot.TheVariants.{Nothing, Wrote}
use Rattle.clsm_model.specs.declared.record.CallRecord.{CallRecord}
use Rattle.clsm_model.specs.History.{History, IsBeginning, end_of}
use Rattle.clsm_model.specs.Seats.{AreCallsIn}
use Rattle.clsm_model.proofs.Batches.{begins_trans}
use Rattle.clsm_store_calls.specs.Seats.{SeatState, StoreId, known_by}
use Rattle.clsm_store.specs.Headline.{HasAllSeats, IsAt, IsSeatIn, IsWholeHistory, longest_past}
use Rattle.clsm_store.specs.Meetings.{AreMet, Meets}
use Rattle.clsm_store_audit.specs.Told.{HasMade}

-- the calls are those of the seat with this number in the history, of which the seat knows a
-- beginning
pub record IsPartIn (h : History) (n : ℕ) (s : SeatState) (calls : List CallRecord) : Type 0 where
  pub due : ℕ
  pub snapshot : Option ℕ
  pub calls_in : AreCallsIn h n calls due snapshot
  pub begins : IsBeginning (known_by s) h

-- the history is that of the calls of two seats alone
pub record IsOfBoth (h : History) (one other : SeatState) (calls calls' : List CallRecord) : Type 0 where
  pub first : IsPartIn h 0 one calls
  pub second : IsPartIn h 1 other calls'
  pub theirs : (t n k : ℕ) (written : Option (List ℕ)) → t < end_of h → get_or h.slots t Nothing ≡ Wrote n k written → (n ≡ 0) ⊎ (n ≡ 1)

module _ (store : StoreId) (two : store.layout.seats ≡ 2) (one other : SeatState) (calls calls' : List CallRecord)
    (made : HasMade store 0 calls one) (made' : HasMade store 1 calls' other) where
  abbrev both : List SeatState
  both = one ∷ other ∷ []

  all_seats : HasAllSeats store both
  all_seats zero lt = (0, one, (omega arith, refl), made.numbered)
  all_seats (suc zero) lt = (1, other, (omega arith, refl), made'.numbered)
  all_seats (suc (suc n)) lt = absurd (omega arith)

  module _ (settled : List SeatState) (met : AreMet both settled) (whole : HasAllSeats store both → IsWholeHistory settled (longest_past settled)) where
    abbrev h : History
    h = longest_past settled

    abbrev now : ℕ → SeatState
    now i = get_or settled i one

    there : (i : ℕ) → i < 2 → IsAt settled i (now i)
    there i lt = let inside : i < length settled = (let c = met.count in omega arith) in (inside, get_or_default settled i (now i) one inside)

    is : IsWholeHistory settled h
    is = whole all_seats

    part : (i : ℕ) → i < 2 → IsSeatIn h (now i)
    part i lt = All-get_or (IsSeatIn h) settled i one (there i lt).0 is.joint.parts

    meets : (i : ℕ) (s : SeatState) → i < 2 → IsAt both i s → Meets one.due s (now i)
    meets i s lt at = met.each i 0 s (now i) one at (there i lt) (omega arith, refl)

    part_in : (i : ℕ) (s : SeatState) (done : List CallRecord) → i < 2 → IsAt both i s → HasMade store i done s → IsPartIn h i s done
    part_in i s done lt at has = let read = (meets i s lt at).read in let mine = part i lt in record {
      due = (now i).due;
      snapshot = (now i).snapshot;
      calls_in = subst (λ (z : ℕ × List CallRecord). AreCallsIn h z.0 z.1 (now i).due (now i).snapshot)
          (λ k. ((read.same.number ∙ has.numbered) k, (read.calls ∙ has.called) k)) mine.part;
      begins = begins_trans (known_by s) (known_by (now i)) h read.same.longer mine.begins;
    }

    number_of : (i : ℕ) (s : SeatState) (done : List CallRecord) → i < 2 → IsAt both i s → HasMade store i done s → (now i).number ≡ i
    number_of i s done lt at has = (meets i s lt at).read.same.number ∙ has.numbered

    numbered : (n i : ℕ) (s : SeatState) → IsAt settled i s → s.number ≡ n → (n ≡ 0) ⊎ (n ≡ 1)
    numbered n zero s a e = inl (sym e ∙ ap (λ (z : SeatState). z.number) (sym a.1 ∙ get_or_default settled 0 s one a.0)
        ∙ number_of 0 one calls (omega arith) (omega arith, refl) made)
    numbered n (suc zero) s a e = inr (sym e ∙ ap (λ (z : SeatState). z.number) (sym a.1 ∙ get_or_default settled 1 s one a.0)
        ∙ number_of 1 other calls' (omega arith) (omega arith, refl) made')
    numbered n (suc (suc i)) s a e = absurd (let b = a.0 in let c = met.count in omega arith)

    pub settled_both : IsOfBoth h one other calls calls'
    settled_both = record {
      first = part_in 0 one calls (omega arith) (omega arith, refl) made;
      second = part_in 1 other calls' (omega arith) (omega arith, refl) made';
      theirs = λ t n k written lt e. let a = is.theirs t n k written lt e in numbered n a.0 a.1 a.2 a.3;
    }

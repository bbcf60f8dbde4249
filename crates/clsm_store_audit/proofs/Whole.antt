-- The records of all seats that are settled have a history.
use Rattle.std.proofs.Common.{◌≡◌, ◌≢◌, ℕ, ◌<◌, ◌≤◌, ◌^◌, List, [], ◌∷◌, length, get_or, None, refl, sym, ap, ◌∙◌, subst, arith, ⊎_elim}
use Rattle.std.proofs.lemmas.Bool.{cases_lt}
use Rattle.std.proofs.lemmas.List.Elements.{All-get_or}
use Rattle.std.specs.List.{AllByRecursion}
use Rattle.clsm_model.specs.declared.config.Config.{Config}
use Rattle.clsm_model.specs.declared.record.CallRecord.{CallRecord}
use Rattle.clsm_model.specs.declared.record.Deed.{Deed}
use Rattle.clsm_model.specs.declared.record.Deed.TheVariants.{Batch as Group}
use Rattle.clsm_model.specs.History.{History}
use Rattle.clsm_model.specs.Right.{Member}
use Rattle.clsm_model.specs.Seats.{AreCallsIn, FitsDeed, FitsRecord, writes_at}
use Rattle.clsm_audit.specs.Lawful.{FitsRegion, HasWrites, calls_of}
use Rattle.clsm_audit.specs.Whole.{HasHistory, IsPartOf}
use Rattle.clsm_audit.proofs.Indices.{if_here, itself, nobody, past_end}
use Rattle.clsm_audit.proofs.Parts.{of_each_call}
use Rattle.clsm_audit.proofs.WholeHistory.{IsSeated, with_dues}
use Rattle.clsm_store_calls.specs.Seats.{HasSizes, SeatState, StoreId}
use Rattle.clsm_store.specs.Headline.{HasAllSeats, IsAt, IsSeatIn, IsWholeHistory}
use Rattle.clsm_store.specs.Meetings.{AreOf}
use Rattle.clsm_store_audit.specs.Settled.{AreInTime, AreRecordsOf, HaveFittingCalls}

-- a part of a history whose due is not past the end of time
abbrev IsTimelyPart : History → ℕ → List CallRecord → Type 0
IsTimelyPart h n calls = (part : IsPartOf h n calls) × (part.due ≤ 2 ^ 62)

-- a batch that fits an epoch is in its range
some_members : (members : List Member) → members ≢ [] → 1 ≤ length members
some_members [] some = absurd (some refl)
some_members (m ∷ ms) some = omega arith

fits_region : (config : Config) (deed : Deed) → FitsDeed config.cells deed → FitsRegion config deed
fits_region config (Group members) fits = fits.1
fits_region config deed fits = tt

has_writes : (cells : ℕ) (deed : Deed) → FitsDeed cells deed → HasWrites deed
has_writes cells (Group members) fits = (some_members members fits.0, fits.2)
has_writes cells deed fits = tt

module _ (store : StoreId) (config : Config) (seats : List SeatState) (records : List CallRecord) (h : History) (sizes : HasSizes store config)
    (of : AreOf store seats) (all : HasAllSeats store seats) (whole : IsWholeHistory seats h) (are : AreRecordsOf store seats records)
    (in_time : AreInTime seats) (fitting : HaveFittingCalls seats) where
  seat_in : (i : ℕ) (s : SeatState) → IsAt seats i s → IsSeatIn h s
  seat_in i s at = subst (IsSeatIn h) at.1 (All-get_or (IsSeatIn h) seats i s at.0 whole.joint.parts)

  of_seat : (i : ℕ) (s : SeatState) → IsAt seats i s → IsTimelyPart h s.number (calls_of records s.number)
  of_seat i s at = (
    record {
      due = s.due;
      snapshot = s.snapshot;
      calls_in = subst (λ (calls : List CallRecord). AreCallsIn h s.number calls s.due s.snapshot)
          (sym (are.theirs i s at)) (seat_in i s at).part;
    },
    in_time i s at,
  )

  of_number : (n i : ℕ) (s : SeatState) → IsAt seats i s → s.number ≡ n → IsTimelyPart h n (calls_of records n)
  of_number n i s at is = subst (λ (m : ℕ). IsTimelyPart h m (calls_of records m)) is (of_seat i s at)

  -- a number beyond the seats is nobody's
  of_nobody : (n : ℕ) → store.layout.seats ≤ n → IsTimelyPart h n (calls_of records n)
  of_nobody n beyond =
      let none = are.others n beyond in
      subst (IsTimelyPart h n) (sym none) (
        record {
          due = 0;
          snapshot = None;
          calls_in = record {
            reached = omega arith;
            stand = tt;
            each = λ t key written inside is.
                let theirs = whole.theirs t n key written inside is in
                let one = (of_number n theirs.0 theirs.1 theirs.2 theirs.3).0.calls_in.each t key written inside is in
                let clash : [] ≡ one.0 ∷ [] = sym (ap (writes_at n t) none) ∙ one.1 in
                absurd (cc clash);
            listed = tt;
            right = tt;
            rising = record { rises = tt; due_is = omega arith; open_is = refl };
          };
        },
        omega arith,
      )

  parts : (n : ℕ) → IsTimelyPart h n (calls_of records n)
  parts n = ⊎_elim
      (λ (lt : n < store.layout.seats). let a = all n lt in of_number n a.0 a.1 a.2 a.3)
      (λ (beyond : store.layout.seats ≤ n). of_nobody n beyond)
      (cases_lt n store.layout.seats)

  -- the batches of a seat fit the epochs of the store
  of_store : (i : ℕ) (s : SeatState) → IsAt seats i s → s.store ≡ store
  of_store i s at = subst (λ (z : SeatState). z.store ≡ store) at.1 (All-get_or (λ (z : SeatState). z.store ≡ store) seats i s at.0 of)

  fits_seat : (i : ℕ) (s : SeatState) → IsAt seats i s → AllByRecursion (FitsRecord config.cells) (calls_of records s.number)
  fits_seat i s at =
      let cells : s.store.layout.cells ≡ config.cells = ap (λ (z : StoreId). z.layout.cells) (of_store i s at) ∙ sizes.cells in
      subst (λ (z : ℕ × List CallRecord). AllByRecursion (FitsRecord z.0) z.1) (λ k. (cells k, sym (are.theirs i s at) k)) (fitting i s at)

  -- each record has the number of a seat, and a batch among them is in its range
  seated_within : (i : ℕ) → i < length records → IsSeated config (get_or records i nobody)
  seated_within i within =
      let r = get_or records i nobody in
      ⊎_elim
      (λ (lt : r.seat < store.layout.seats).
      let a = all r.seat lt in
      let fits = of_each_call (FitsRecord config.cells) records i r.seat within refl
      (subst (λ (n : ℕ). AllByRecursion (FitsRecord config.cells) (calls_of records n)) a.3 (fits_seat a.0 a.1 a.2)) in
      record { seat = let e = sizes.seats in omega arith; size = fits_region config r.deed fits; writes = has_writes config.cells r.deed fits })
      (λ (beyond : store.layout.seats ≤ r.seat). absurd (of_each_call (λ _. ⊥) records i r.seat within refl
      (subst (AllByRecursion (λ _. ⊥)) (sym (are.others r.seat beyond)) tt)))
      (cases_lt r.seat store.layout.seats)

  pub has_history : HasHistory config records
  has_history = with_dues config records h
      (λ i. ⊎_elim
      (λ (within : i < length records). if_here (IsSeated config) records i (get_or records i nobody) within (itself records i within) (seated_within i within))
      (λ (past : length records ≤ i). past_end (IsSeated config) records i past)
      (cases_lt i (length records)))
      parts

-- How a store's seats start.
use Rattle.std.proofs.Common.{◌≡◌, ℕ, ◌+◌, List, [], ◌∷◌, ◌++◌, length, get_or, refl, ap, ◌∙◌, sym, subst, arith, inl, inr, length-append}
use Rattle.std.proofs.lemmas.Bool.{cases_lt}
use Rattle.std.proofs.lemmas.List.{get_or_append_left, get_or_push}
use Rattle.clsm_law.specs.declared.view.View.{View}
use Rattle.clsm_words.specs.declared.words.WordTable.{WordTable}
use Rattle.clsm_words.specs.Seats.{RawState as RawState}
use Rattle.clsm_words.specs.Plays.{IsSeatOf, IsFresh, AreFreshFrom}
use Rattle.clsm_store_calls.specs.Seats.{SeatState, StoreId, AreNew, newcomer}
use Rattle.clsm_store_calls.specs.Resting.{IsAtRest, IsSettled, seat_of, seat_with, store_of}

-- one seat more
pub new_more : (store : StoreId) (n : ℕ) (seats : List SeatState) (x : SeatState) → AreNew store n seats → x ≡ newcomer store n
    → AreNew store (n + 1) (seats ++ x ∷ [])
new_more store n seats x new e = record {
  counted = let c = new.counted in let l = length-append seats (x ∷ []) in omega arith;
  each = λ i lt. let c = new.counted in let l = length-append seats (x ∷ []) in elim (cases_lt i n) [
    | inl below ↦ get_or_append_left seats (x ∷ []) (newcomer store i) i (omega arith) ∙ new.each i (omega arith)
    | inr above ↦ let here : i ≡ length seats = omega arith in
        ap (λ (k : ℕ). get_or (seats ++ x ∷ []) k (newcomer store i)) here ∙ get_or_push seats x (newcomer store i) (length seats) refl ∙ e
        ∙ ap (newcomer store) (sym c ∙ sym here)
  ];
}

-- the seat with this number did nothing yet
pub fresh_state : (w : WordTable) (r : RawState) (n : ℕ) → IsSeatOf w r → IsFresh n r → seat_of r ≡ newcomer (store_of w) n
fresh_state w r n s f =
    ap (seat_with r) f.1
    ∙ (λ k. record (newcomer (record { table = s.0 k; layout = s.1 k }) (f.0 k)) { past = (f.2 k).slots; batches = (f.2 k).batches })

pub fresh_rests : (r : RawState) (n : ℕ) → IsFresh n r → IsAtRest r.knows
fresh_rests r n f = record {
  free = ap (λ (v : View). v.mode) f.1;
  unlooked = ap (λ (v : View). v.fresh_lock) f.1;
  undrawn = ap (λ (v : View). v.drawn) f.1;
  unpinned = ap (λ (v : View). v.pinned) f.1;
  settled = subst (λ (v : View). IsSettled v.snapshot) (sym f.1) tt;
}

pub fresh_at : (w : WordTable) (all done : List RawState) (r : RawState) (rest : List RawState) → AreFreshFrom 0 w all → done ++ r ∷ rest ≡ all
    → IsSeatOf w r × IsFresh (length done) r
fresh_at w all done r rest f e = let at = f (length done) r
    (let a = ap (λ (l : List RawState). length l) e in let b = length-append done (r ∷ rest) in omega arith)
    (subst (λ (l : List RawState). get_or l (length done) r ≡ r) e (there done)) in (at.0, subst (λ (m : ℕ). IsFresh m r) (omega arith) at.1)
  where
    there : (done : List RawState) → get_or (done ++ r ∷ rest) (length done) r ≡ r
    there [] = refl
    there (x ∷ xs) = there xs

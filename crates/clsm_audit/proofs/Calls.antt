-- The calls of a seat, with one record more.
use Rattle.std.proofs.Common.{◌≡◌, ◌≢◌, ℕ, ◌==◌, ◌<◌, Bool, true, false, cond, List, [], ◌∷◌, ◌++◌, length, get_or, set, None, refl, sym, ap, ◌∙◌, ⊎_elim}
use Rattle.std.proofs.Common.{get_or-set_other, get_or-set_same, length-set, arith}
use Rattle.std.proofs.lemmas.Bool.{cases_eq, eq-eqb, ne_eqb}
use Rattle.std.proofs.lemmas.List.{append-nil}
use Rattle.std.proofs.lemmas.List.Elements.{filter-append}
use Rattle.clsm_model.specs.declared.record.CallRecord.{CallRecord}
use Rattle.clsm_model.specs.Seats.{due_after, open_after}
use Rattle.clsm_model.proofs.Rising.{last_due-append, last_open-append}
use Rattle.clsm_audit.specs.declared.seat.SeatState.{SeatState}
use Rattle.clsm_audit.specs.Lawful.{calls_of}
use Rattle.clsm_audit.specs.States.{AreStates, state_of}

-- ---- the calls of each seat, with one record more

calls_of-push : (records : List CallRecord) (r : CallRecord) (seat : ℕ) (own : Bool) → (r.seat == seat) ≡ own → calls_of (records ++ r ∷ []) seat
    ≡ calls_of records seat ++ cond own (r ∷ []) []
calls_of-push records r seat own is = filter-append (λ (c : CallRecord). c.seat == seat) records (r ∷ [])
    ∙ ap (λ (b : Bool). calls_of records seat ++ cond b (r ∷ []) []) is

pub calls_of-own : (records : List CallRecord) (r : CallRecord) → calls_of (records ++ r ∷ []) r.seat ≡ calls_of records r.seat ++ r ∷ []
calls_of-own records r = calls_of-push records r r.seat true (eq-eqb r.seat r.seat refl)

pub calls_of-other : (records : List CallRecord) (r : CallRecord) (seat : ℕ) → r.seat ≢ seat → calls_of (records ++ r ∷ []) seat ≡ calls_of records seat
calls_of-other records r seat other = calls_of-push records r seat false (ne_eqb r.seat seat other) ∙ append-nil (calls_of records seat)

-- ---- the states

-- the state with the call taken in
abbrev pub state_after : SeatState → CallRecord → SeatState
state_after state r = record { due = due_after state.due state.snapshot r.time r.deed; snapshot = open_after state.snapshot r.time r.deed }

state_of-own : (records : List CallRecord) (r : CallRecord) → state_of (records ++ r ∷ []) r.seat ≡ state_after (state_of records r.seat) r
state_of-own records r = rw (calls_of-own records r, last_due-append 0 None (calls_of records r.seat) r, last_open-append None (calls_of records r.seat) r) refl

state_of-other : (records : List CallRecord) (r : CallRecord) (seat : ℕ) → r.seat ≢ seat → state_of (records ++ r ∷ []) seat ≡ state_of records seat
state_of-other records r seat other = rw (calls_of-other records r seat other) refl

pub AreStates-push : (records : List CallRecord) (r : CallRecord) (states : List SeatState) (new e : SeatState) → r.seat < length states → new
    ≡ state_after (get_or states r.seat e) r → AreStates records states
    → AreStates (records ++ r ∷ []) (set states r.seat new)
AreStates-push records r states new e within after before seat d inside =
    ⊎_elim
    (λ (same : r.seat ≡ seat). ap (λ n. get_or (set states r.seat new) n d) (sym same) ∙ get_or-set_same states r.seat new d within ∙ after
    ∙ ap (λ (s : SeatState). state_after s r) (before r.seat e within) ∙ sym (state_of-own records r) ∙ ap (state_of (records ++ r ∷ [])) same)
    (λ (other : r.seat ≢ seat). get_or-set_other states r.seat seat new d (λ e. other (sym e))
    ∙ before seat d (let l : length (set states r.seat new) ≡ length states = length-set states r.seat new in omega arith)
    ∙ sym (state_of-other records r seat other))
    (cases_eq r.seat seat)

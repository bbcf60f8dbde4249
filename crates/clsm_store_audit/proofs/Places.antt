-- Seats at their places, and those that a loop has passed.
use Rattle.std.proofs.Common.{◌≡◌, ℕ, ◌+◌, ◌<◌, ◌≤◌, List, length, get_or, ap, ◌∙◌, subst, arith, ⊎_elim}
use Rattle.std.proofs.lemmas.Bool.{cases_lt}
use Rattle.std.proofs.lemmas.List.{get_or_default}
use Rattle.clsm_store_calls.specs.Seats.{SeatState}
use Rattle.clsm_store.specs.Headline.{IsAt}

pub at_get : (l : List SeatState) (i : ℕ) (d : SeatState) → i < length l → IsAt l i (get_or l i d)
at_get l i d lt = (lt, get_or_default l i (get_or l i d) d lt)

-- it holds of each seat before the place
abbrev pub HoldBefore : (SeatState → Type 0) → List SeatState → ℕ → Type 0
HoldBefore P seats n = (i : ℕ) (s : SeatState) → i < n → IsAt seats i s → P s

-- and with the seat that stands there, of each up to it
pub hold_more : (P : SeatState → Type 0) (seats : List SeatState) (n : ℕ) (x : SeatState) → n < length seats → x ≡ get_or seats n x → P x
    → HoldBefore P seats n → HoldBefore P seats (n + 1)
hold_more P seats n x within is here before i s lt at =
    ⊎_elim
    (λ (less : i < n). before i s less at)
    (λ (le : n ≤ i).
    let same : x ≡ s = is ∙ get_or_default seats n x s within ∙ ap (λ (k : ℕ). get_or seats k s) (let e : n ≡ i = omega arith in e) ∙ at.1 in
    subst P same here)
    (cases_lt i n)

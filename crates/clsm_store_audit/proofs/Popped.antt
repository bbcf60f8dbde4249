-- The two seats of a new store, taken from the end of their list.
use Rattle.std.proofs.Common.{◌≡◌, ℕ, ◌-◌, ◌<◌, List, length, get_or, take, length-take, Option, Some, sym, ap, ◌∙◌, arith}
use Rattle.std.proofs.lemmas.List.{get_or-take}
use Rattle.clsm_store_calls.specs.Seats.{AreNew, SeatState, StoreId, newcomer}

some_one : {x y : SeatState} → Some x ≡ Some y → x ≡ y
some_one e = cc e

module _ (store : StoreId) (l : List SeatState) (new : AreNew store 2 l) (n : ℕ) (counted : n ≡ length l) where
  pub second : (s : SeatState) (popped : Option SeatState) → ((d : SeatState) → 0 < n → popped ≡ Some (get_or l (n - 1) d)) → popped ≡ Some s → s
      ≡ newcomer store 1
  second s popped value is = let c = new.counted in
      some_one (sym is ∙ value (newcomer store 1) (omega arith)) ∙ ap (λ (i : ℕ). get_or l i (newcomer store 1)) (let e : n - 1 ≡ 1 = omega arith in e)
      ∙ new.each 1 (omega arith)

  pub first : (rest : List SeatState) (m : ℕ) → rest ≡ take (n - 1) l → m ≡ length rest → (s : SeatState) (popped : Option SeatState)
      → ((d : SeatState) → 0 < m → popped ≡ Some (get_or rest (m - 1) d)) → popped ≡ Some s → s ≡ newcomer store 0
  first rest m front long s popped value is = let c = new.counted in
      let one : m ≡ 1 = (let a = ap length front in omega (arith, length-take (n - 1) l)) in
      some_one (sym is ∙ value (newcomer store 0) (omega arith)) ∙ ap (λ (i : ℕ). get_or rest i (newcomer store 0)) (let e : m - 1 ≡ 0 = omega arith in e)
      ∙ ap (λ (x : List SeatState). get_or x 0 (newcomer store 0)) front ∙ get_or-take (n - 1) l 0 (newcomer store 0) (omega arith) ∙ new.each 0 (omega arith)

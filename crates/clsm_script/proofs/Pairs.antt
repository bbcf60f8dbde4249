-- Two seats of a list in two parts: one in the first part, the other the first of the second.
use Rattle.std.proofs.Common.{◌≡◌, ℕ, ◌-◌, ◌<◌, ◌++◌, List, length, get_or, set, ap, sym, ◌∙◌}
use Rattle.std.proofs.Common.{subst, le_refl, arith}
use Rattle.std.proofs.lemmas.List.{get_or_default, length-append, length-set, set-append_left}
use Rattle.std.proofs.lemmas.List.{set-append_right, get_or_append_left, get_or-append_right}
use Rattle.clsm_store_calls.specs.Seats.{SeatState}
use Rattle.clsm_store.specs.Headline.{IsAt}

at_get : (seats : List SeatState) (i : ℕ) (d : SeatState) → i < length seats →
    IsAt seats i (get_or seats i d)
at_get seats i d inside = (inside, get_or_default seats i (get_or seats i d) d inside)

module _ (low high : List SeatState) (mid k : ℕ) (parted : length low ≡ mid) (below : k < mid) where
  none_left : mid - mid ≡ 0
  none_left = omega arith

  pub at_low : (d : SeatState) → IsAt (low ++ high) k (get_or low k d)
  at_low d =
      subst (IsAt (low ++ high) k) (get_or_append_left low high d k (omega arith))
      (at_get (low ++ high) k d (let all = length-append low high in omega arith))

  pub at_high : (d : SeatState) → 0 < length high → IsAt (low ++ high) mid (get_or high 0 d)
  at_high d some =
      subst (IsAt (low ++ high) mid)
      (get_or-append_right low high mid mid d parted (le_refl mid)
      ∙ ap (λ n. get_or high n d) none_left)
      (at_get (low ++ high) mid d (let all = length-append low high in omega arith))

  -- both are put back
  module _ (x y : SeatState) where
    pub put_low_first : set low k x ++ set high 0 y ≡ set (set (low ++ high) k x) mid y
    put_low_first =
        sym
        (ap (λ l. set l mid y) (set-append_left low high k x (omega arith))
        ∙ set-append_right (set low k x) high mid mid y (length-set low k x ∙ parted) (le_refl mid)
        ∙ ap (λ n. set low k x ++ set high n y) none_left)

    pub put_high_first : set low k x ++ set high 0 y ≡ set (set (low ++ high) mid y) k x
    put_high_first =
        sym
        (ap (λ l. set l k x)
        (set-append_right low high mid mid y parted (le_refl mid)
        ∙ ap (λ n. low ++ set high n y) none_left)
        ∙ set-append_left low (set high 0 y) k x (omega arith))

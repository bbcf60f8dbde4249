-- The order of time, and that of moments, as orders of numbers.
use Rattle.std.proofs.Common.{◌≡◌, ℕ, ◌+◌, ◌==◌, ◌&&◌, ◌||◌, Bool, true, false, cond, not, nat_lt, subst, sym, arith}
use Rattle.std.proofs.lemmas.Bool.Decides.{nat_tests}
use Rattle.std.proofs.lemmas.List.Sorted.{IsStrictWeakOrder-by_number}
use Rattle.std.specs.Cmp.{IsStrictWeakOrder}
use Rattle.clsm_audit.specs.declared.event.Event.{Event}
use Rattle.clsm_audit.specs.declared.stamp.Stamp.{Stamp}
use Rattle.clsm_audit.specs.Moments.{comes_before as is_earlier}
use Rattle.clsm_audit.specs.Order.{comes_before}

-- the place of a stamp: at each time the reads, then the write
abbrev pub place : Stamp → ℕ
place s = s.time + s.time + cond s.is_write 1 0

before_by : (t u : ℕ) (a b : Bool) → (nat_lt t u || (t == u && (not a && b))) ≡ nat_lt (t + t + cond a 1 0) (u + u + cond b 1 0)
before_by t u true true = grind (arith, nat_tests)
before_by t u true false = grind (arith, nat_tests)
before_by t u false true = grind (arith, nat_tests)
before_by t u false false = grind (arith, nat_tests)

pub comes_before-place : (x y : Stamp) → comes_before x y ≡ nat_lt (place x) (place y)
comes_before-place x y = before_by x.time y.time x.is_write y.is_write

pub comes_before-order : IsStrictWeakOrder comes_before
comes_before-order = subst IsStrictWeakOrder (λ i x y. sym (comes_before-place x y) i) (IsStrictWeakOrder-by_number place)

-- and of an event: at each moment the begins, then the ends
pub comes_before-moments : IsStrictWeakOrder is_earlier
comes_before-moments =
    subst IsStrictWeakOrder (λ i x y. sym (before_by x.moment y.moment x.is_end y.is_end) i)
    (IsStrictWeakOrder-by_number (λ (e : Event). e.moment + e.moment + cond e.is_end 1 0))

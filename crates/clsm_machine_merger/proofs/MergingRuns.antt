-- Runs by their neighbours.
use Rattle.std.proofs.Common.{◌≡◌, ℕ, zero, suc, ◌+◌, ◌-◌, ◌<◌, ◌≤◌, sym, subst, arith, ⊎_elim}
use Rattle.std.proofs.lemmas.Bool.{cases_lt}
use Rattle.std.specs.List.{AllByRecursion}
use Rattle.clsm_levels.specs.declared.entry.Entry.{Entry}
use Rattle.clsm_levels.specs.Run.{ComesBefore, IsRun}
use Rattle.clsm_levels.proofs.Every.{every_weaker}
use Rattle.clsm_law.specs.Memory.{Memory}
use Rattle.clsm_law.specs.Places.{entry_in, entries_from}

before_through : (x y w : Entry) → ComesBefore x y → ComesBefore y w → ComesBefore x w
before_through x y w b c = grind arith

-- ---- the entries of a place

every_behind : (memory : Memory) (p i n : ℕ) (x : Entry) → IsRun (entries_from memory p i n) → (0 < n → ComesBefore x (entry_in memory p i))
    → AllByRecursion (ComesBefore x) (entries_from memory p i n)
every_behind memory p i zero x run first = tt
every_behind memory p i (suc n) x run first =
    let before = first (omega arith) in (
      before,
      every_weaker (ComesBefore (entry_in memory p i)) (ComesBefore x) (λ y b. before_through x (entry_in memory p i) y before b)
          (entries_from memory p (i + 1) n) run.0,
    )

-- each entry stands before the next
abbrev pub AreInOrder : Memory → ℕ → ℕ → ℕ → Type 0
AreInOrder memory p i end = (k : ℕ) → i < k → k < end → ComesBefore (entry_in memory p (k - 1)) (entry_in memory p k)

pub run_in_order : (memory : Memory) (p i n : ℕ) → AreInOrder memory p i (i + n) → IsRun (entries_from memory p i n)
run_in_order memory p i zero ordered = tt
run_in_order memory p i (suc n) ordered =
    let rest = run_in_order memory p (i + 1) n (λ k low high. ordered k (omega arith) (omega arith)) in (
      every_behind memory p (i + 1) n (entry_in memory p i) rest (λ some. let same : i + 1 - 1 ≡ i = omega arith in
          subst (λ (j : ℕ). ComesBefore (entry_in memory p j) (entry_in memory p (i + 1))) same (ordered (i + 1) (omega arith) (omega arith))),
      rest,
    )

first_behind : (memory : Memory) (p i n : ℕ) (x : Entry) → 0 < n → AllByRecursion (ComesBefore x) (entries_from memory p i n)
    → ComesBefore x (entry_in memory p i)
first_behind memory p i zero x lt every = absurd (omega arith)
first_behind memory p i (suc n) x lt every = every.0

pub in_order_run : (memory : Memory) (p i n : ℕ) → IsRun (entries_from memory p i n) → AreInOrder memory p i (i + n)
in_order_run memory p i zero run k low high = absurd (omega arith)
in_order_run memory p i (suc n) run k low high = ⊎_elim
    (λ (first : k < i + 2).
    let same : k ≡ i + 1 = omega arith in
    let before : k - 1 ≡ i = omega arith in
    subst (λ (j : ℕ). ComesBefore (entry_in memory p j) (entry_in memory p k)) (sym before)
    (subst (λ (j : ℕ). ComesBefore (entry_in memory p i) (entry_in memory p j)) (sym same)
    (first_behind memory p (i + 1) n (entry_in memory p i) (omega arith) run.0)))
    (λ (later : i + 2 ≤ k). in_order_run memory p (i + 1) n run.1 k (omega arith) (omega arith))
    (cases_lt k (i + 2))

-- Times, their cells and their regions.
use Rattle.std.proofs.Common.{◌≡◌, ◌≢◌, ℕ, ◌+◌, ◌-◌, ◌*◌, ◌/◌, ◌%◌, ◌<◌, ◌≤◌, cond, sym, subst, ap, ◌∙◌, arith, inl, inr}
use mathlib.Core.Logic.{dite}
use native.Mathlib.Decide.{ℕ_discrete}
use Rattle.std.proofs.lemmas.Bool.{cases_lt, cases_eq, lt-ltb, le-ltb}
use Rattle.std.proofs.lemmas.Nat.{mod_below, mod-mul-add}
use Rattle.std.proofs.Math.Nat.{mul_assoc, add-mul}
use Rattle.atomic_table.proofs.Lists.{one_turn}
use Rattle.clsm_law.specs.declared.layout.Layout.{Layout}
use Rattle.clsm_law.specs.Memory.{cell_of, region_of}

-- t is one of the 2N times from `first` on, which have the cells
pub record Live (z : Layout) (first t : ℕ) : Type 0 where
  pub from : first ≤ t
  pub until : t < first + 2 * z.cells

pub cell_below : (z : Layout) (t : ℕ) → 0 < z.cells → cell_of z t < 2 * z.cells
cell_below z t some = mod_below t (2 * z.cells) (omega arith)

-- live times have cells of their own
pub apart : (z : Layout) (first t u : ℕ) → Live z first t → Live z first u → cell_of z t ≡ cell_of z u → t ≡ u
apart z first t u l m e = elim (cases_lt t u) [
  | inl lt ↦ one_turn t u (2 * z.cells) (omega arith) (let a = l.from in let b = m.until in omega arith) e
  | inr le ↦ sym (one_turn u t (2 * z.cells) le (let a = m.from in let b = l.until in omega arith) (sym e))
]

-- a fact of each live time, from the one at t and those in other cells
pub at_live : (z : Layout) (first : ℕ) (P : ℕ → Type 0) (t : ℕ) → Live z first t → P t
    → ((u : ℕ) → Live z first u → u ≢ t → cell_of z u ≢ cell_of z t → P u) → (u : ℕ) → Live z first u → P u
at_live z first P t l here other u m = dite (ℕ_discrete u t) (λ e. subst P (sym e) here) (λ ne. other u m ne (λ e. ne (apart z first u t m l e)))

-- ---- the region of a time of the epoch e is e mod 2

pub even_cell : (n q d : ℕ) → d < n → (q * 2 * n + d) % (2 * n) ≡ d
even_cell n q d lt = ap (λ (y : ℕ). (y + d) % (2 * n)) (mul_assoc q 2 n) ∙ mod-mul-add q (2 * n) d (omega arith)

pub odd_cell : (n q d : ℕ) → d < n → ((q * 2 + 1) * n + d) % (2 * n) ≡ n + d
odd_cell n q d lt = let e : (q * 2 + 1) * n ≡ q * 2 * n + 1 * n = add-mul (q * 2) 1 n in let f = mul_assoc q 2 n in
    let g : (q * 2 + 1) * n + d ≡ q * (2 * n) + (n + d) = omega arith in ap (λ (y : ℕ). y % (2 * n)) g ∙ mod-mul-add q (2 * n) (n + d) (omega arith)

pub region_of_epoch : (z : Layout) (epoch t : ℕ) → epoch * z.cells ≤ t → t < (epoch + 1) * z.cells → region_of z (cell_of z t) ≡ epoch % 2
region_of_epoch z epoch t from until =
    let q = epoch / 2 in
    let d = t - epoch * z.cells in
    let lt : d < z.cells = let e : (epoch + 1) * z.cells ≡ epoch * z.cells + 1 * z.cells = add-mul epoch 1 z.cells in omega arith in
    let is : epoch * z.cells + d ≡ t = omega arith in
    elim (cases_eq (epoch % 2) 0) [
      | inl even ↦ let two : q * 2 ≡ epoch = omega arith in
          ap (λ (y : ℕ). region_of z (cell_of z y)) (sym (ap (λ (y : ℕ). y * z.cells + d) two ∙ is)) ∙ ap (region_of z) (even_cell z.cells q d lt)
          ∙ ap (λ b. cond b 0 1) (lt-ltb d z.cells lt) ∙ sym even
      | inr odd ↦ let two : q * 2 + 1 ≡ epoch = omega arith in let one : epoch % 2 ≡ 1 = omega arith in
          ap (λ (y : ℕ). region_of z (cell_of z y)) (sym (ap (λ (y : ℕ). y * z.cells + d) two ∙ is)) ∙ ap (region_of z) (odd_cell z.cells q d lt)
          ∙ ap (λ b. cond b 0 1) (le-ltb (z.cells + d) z.cells (omega arith)) ∙ sym one
    ]

pub region_below : (z : Layout) (c : ℕ) → region_of z c < 2
region_below z c = elim (cases_lt c z.cells) [
  | inl lt ↦ rw (lt-ltb c z.cells lt) (omega arith)
  | inr le ↦ rw (le-ltb c z.cells le) (omega arith)
]

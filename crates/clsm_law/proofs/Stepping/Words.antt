-- The word of an open step is there.
use Rattle.std.proofs.Common.{◌≡◌, ℕ, ◌+◌, ◌*◌, ◌%◌, ◌<◌, ◌&&◌, ◌≢◌, ◌⊎◌, true, Bool, cond, nat_lt, refl, ◌∙◌, arith, ⊎_elim}
use Rattle.std.proofs.lemmas.Bool.{lt-ltb}
use Rattle.std.proofs.lemmas.Nat.{mod_below}
use Rattle.clsm_law.specs.declared.step.Step.{Step}
use Rattle.clsm_law.specs.declared.step.Step.TheVariants.{Fill, Link, Insert, StoreHint, FillOrder, Decide, Cancel, Stage, Pin, Unpin, Look, Note}
use Rattle.clsm_law.specs.declared.step.Step.TheVariants.{CloseSnapshot, Pad, WriteRun, ClearHead, ClearState, ClearOrder}
use Rattle.clsm_law.specs.Memory.{cell_of, link_at, is_word, is_part}
use Rattle.clsm_law.specs.Views.{own_time, own_region, or_zero}
use Rattle.clsm_law.specs.Relation.{word_of}
use Rattle.clsm_law.specs.Merging.{word_of_merger}
use Rattle.clsm_law.proofs.Cases.{by_test}
use Rattle.clsm_law.proofs.Clock.Times.{cell_below, region_below}
use Rattle.clsm_law.proofs.Setting.{Setting, Ground, v, OpensTo}
use Rattle.clsm_law.proofs.Stepping.Steps.{May}

both : (a b : Bool) → a ≡ true → b ≡ true → (a && b) ≡ true
both a b e f = rw (e, f) refl

some_cells : (s : Setting) → 0 < s.z.cells
some_cells s = let a = s.sound.0 in omega (arith, a.0)

module _ (g : Ground) where
  pub cell_there : (t : ℕ) → nat_lt (cell_of g.z t) (2 * g.z.cells) ≡ true
  cell_there t = lt-ltb (cell_of g.z t) (2 * g.z.cells) (cell_below g.z t (omega (arith, g.sound.0.0)))

  pub word_there' : (step : Step) → OpensTo g step → is_word g.z (word_of_merger g.z g.merger step) ≡ true
  word_there' (Look word) o = o
  word_there' (Pad t) o = cell_there t
  word_there' (WriteRun word x) o = o.2
  word_there' (ClearHead region chain) o = both (nat_lt region 2) (nat_lt chain g.z.chains) (lt-ltb region 2 (let a = o.2 in omega arith))
      (lt-ltb chain g.z.chains o.3)
  word_there' (ClearOrder region) o = lt-ltb region (2 + 2 * g.z.cells) (let a = o.2 in omega arith)
  word_there' (ClearState cell) o = lt-ltb cell (2 * g.z.cells) o.2
  word_there' step o = refl

-- the link of an open insert is there
link_there : (s : Setting) (p : ℕ) → (p ≡ 0) ⊎ (p ≡ (v s).low) → nat_lt (link_at (own_region s.z (v s)) p) (2 + 2 * s.z.cells) ≡ true
link_there s p o = lt-ltb _ _ (by_test (λ b. cond b (own_region s.z (v s)) (p + 1) < 2 + 2 * s.z.cells) p 0
    (λ _. let r = region_below s.z (cell_of s.z (own_time (v s))) in omega arith)
    (λ ne. let some : (v s).low ≢ 0 = λ e. ne (⊎_elim (λ (a : p ≡ 0). a) (λ (a : p ≡ (v s).low). a ∙ e) o) in
    let m = s.law.lows s.me some in let a = cell_below s.z m.time (some_cells s) in let b = m.place in
    let same : p ≡ (v s).low = ⊎_elim (λ (a : p ≡ 0). absurd (ne a)) (λ (a : p ≡ (v s).low). a) o in omega arith))

pub word_there : (s : Setting) (step : Step) → May s step → is_word s.z (word_of s.z s.me (v s) step) ≡ true
word_there s (Fill part w) o = both (nat_lt (cell_of s.z (own_time (v s))) (2 * s.z.cells)) (is_part part)
    (lt-ltb _ _ (cell_below s.z (own_time (v s)) (some_cells s))) o.2
word_there s (Link head) o = both _ _ (lt-ltb _ 2 (region_below s.z (cell_of s.z (own_time (v s)))))
    (lt-ltb (or_zero (v s).key % s.z.chains) s.z.chains (mod_below (or_zero (v s).key) s.z.chains (omega (arith, s.sound.2.0))))
word_there s (FillOrder w) o = lt-ltb _ _ (let a = cell_below s.z (own_time (v s)) (some_cells s) in omega arith)
word_there s (Insert p next) o = link_there s p o.4
word_there s (StoreHint cell i w) o = o
word_there s (Decide t deed) o = lt-ltb _ _ (cell_below s.z t (some_cells s))
word_there s (Cancel t) o = lt-ltb _ _ (cell_below s.z t (some_cells s))
word_there s (Stage t key) o = both (nat_lt (cell_of s.z t) (2 * s.z.cells)) true (lt-ltb _ _ (cell_below s.z t (some_cells s))) refl
word_there s Pin o = let a = s.inside in let b = s.law.seated in lt-ltb s.me s.z.seats (omega arith)
word_there s (Unpin end) o = let a = s.inside in let b = s.law.seated in lt-ltb s.me s.z.seats (omega arith)
word_there s (Look word) o = o.0
word_there s (Note b) o = let a = s.inside in let b = s.law.seated in lt-ltb s.me s.z.seats (omega arith)
word_there s CloseSnapshot o = let a = s.inside in let b = s.law.seated in lt-ltb s.me s.z.seats (omega arith)
word_there s step o = refl

use Rattle.std.proofs.Common.{◌≡◌, ℕ, zero, suc, ◌+◌, ◌<◌, List, [], ◌∷◌, ◌++◌, replicate, drop, length, set, refl, ap, ◌∙◌, arith}
use Rattle.clsm_law.specs.declared.merger.Reader.{Reader}
use Rattle.clsm_law.specs.Merging.{unseen}
use Rattle.clsm_machine_merger.proofs.readers.forget.Goals as goal

-- one more place from the front on is set to x
fill_next : {X : Type 0} (x : X) (i : ℕ) (ys : List X) → i < length ys → set (replicate i x ++ drop i ys) i x ≡ replicate (i + 1) x ++ drop (i + 1) ys
fill_next {X} x i [] lt = absurd (omega arith)
fill_next {X} x zero (y ∷ ys) lt = refl
fill_next {X} x (suc i) (y ∷ ys) lt = let e : suc (i + 1) ≡ suc i + 1 = omega arith in ap (λ (l : List X). x ∷ l) (fill_next x i ys (omega arith))
    ∙ ap (λ (n : ℕ). replicate n x ++ drop n (y ∷ ys)) e

pub loop-index-preserved : goal.loop-index-preserved
loop-index-preserved c = c.set.ensures ∙ ap (λ (l : List Reader). set l c.loop-index.index unseen) c.loop-index.invariant
    ∙ fill_next unseen c.loop-index.index c.args.readers.now (omega (arith, ap length c.as_slice-index-end.ensures))

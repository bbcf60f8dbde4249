use Rattle.std.proofs.Common.{◌≡◌, ℕ, ◌+◌, ◌<◌, ◌≤◌, ◌==◌, ◌||◌, nat_lt, Bool, true, refl, sym, arith, eq-eqb, lt-ltb, le-ltb, inl, inr}
use Rattle.std.proofs.lemmas.Bool.{cases_lt}
use Rattle.clsm_law.specs.declared.word.Word.TheVariants.{Entry}
use Rattle.clsm_law.specs.Memory.{Memory}
use Rattle.clsm_law.specs.Layout.{memory}
use Rattle.clsm_law.proofs.Passes.{passes_if}
use Rattle.clsm_machine_merger.proofs.facts.is_ended.Goals as goal

pub returns : goal.returns
returns c =
    let words : Memory = memory c.args.layout.now c.args.words.now in
    let p = c.args.place in
    let e = c.args.entry in
    let n = words (Entry p e 2) in
    let test : ℕ → Bool = λ j. nat_lt j n || words (Entry p e (3 + j)) == 0 in
    let passes : (j : ℕ) → 0 ≤ j → j < 0 + 8 → test j ≡ true = λ j le lt. elim (cases_lt j n) [
      | inl before ↦ rw (lt-ltb j n before) refl
      | inr behind ↦ rw (le-ltb j n behind) (eq-eqb (words (Entry p e (3 + j))) 0 (c.loop-index.invariant j (omega arith) (omega arith)))
    ] in
    sym (passes_if test 0 8 passes)

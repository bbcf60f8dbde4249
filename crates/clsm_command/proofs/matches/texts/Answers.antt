use Rattle.std.proofs.Common.{◌≡◌, ◌∙◌, ap, arith, length, map, refl, take}
use Rattle.std.proofs.Math.Seq.{take-length}
use Rattle.clsm_command.proofs.Read.{texts_read}
use Rattle.clsm_command.proofs.matches.texts.Goals as goal

pub returns : goal.returns
returns c =
    let values = c.unwrap_or-values.result.now in
    let at_end : c.loop-value.value-index ≡ length values = omega (arith, c.loop-value-test.false, c.loop-value.auto.value-index-end) in
    let all : take c.loop-value.value-index values ≡ values = ap (λ k. take k values) at_end ∙ take-length values in
    c.loop-value.invariant ∙ (ap (λ xs. map (λ s. s.now) xs) all
    ∙ texts_read c.args.matches.now c.args.id.now c.get_strs.result _ c.unwrap_or-values.result c.unwrap_or-values.ensures refl c.get_strs.ensures)

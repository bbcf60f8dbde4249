-- A seat after a pin and its look, and after an unpin.
use Rattle.std.proofs.Common.{◌≡◌, ℕ, refl, sym, ap, ◌∙◌, arith, true, Some, None}
use Rattle.clsm_law.specs.declared.word.Word.TheVariants.{Merged}
use Rattle.clsm_law.specs.declared.step.Step.TheVariants.{Pin, Unpin, Look}
use Rattle.clsm_law.specs.declared.step.End.{End}
use Rattle.clsm_law.specs.declared.view.View.{View}
use Rattle.clsm_law.specs.Views.{next_word}
use Rattle.clsm_law.specs.Relation.{looked, view_after}
use Rattle.clsm_words.specs.declared.known.Known.{Known}
use Rattle.clsm_words.specs.Knowing.{Sound, Follows}
use Rattle.clsm_words.proofs.Keeps.{past_by, past_trans}
use Rattle.clsm_pins.specs.Pinning.{Pins, Unpins}

pub pins_of : (old mid new : Known) (x c : ℕ) → Sound old → Follows Pin old x mid → Follows (Look Merged) mid c new → Pins old new c
pins_of old mid new x c sound one two =
    let e : new.view ≡ looked old.layout (view_after old.layout old.number old.view Pin x) Merged c = two.view
    ∙ (λ i. looked (one.layout i) (one.view i) Merged c) in
    let reached = ap (λ (v : View). v.reached) e in
    record {
      keeps = past_trans old mid new (past_by Pin old mid x one refl) (past_by (Look Merged) mid new c two refl);
      view = e ∙ ap (λ (r : ℕ). record old.view
          { pin = next_word old.view.pin; pinned = true; held = Some c; pin_clock = None; waited = None; reached = r }) (sym reached);
      reached = omega arith;
      merged = omega arith;
    }

pub unpins_of : (old new : Known) (x : ℕ) (end : End) → Sound old → Follows (Unpin end) old x new → Unpins old new end
unpins_of old new x end sound one = record {
  keeps = past_by (Unpin end) old new x one refl;
  view = one.view;
  has_told = one.reaches;
}

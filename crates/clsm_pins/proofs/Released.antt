-- A seat that was found quiet holds nothing retired.
use Rattle.std.proofs.Common.{◌≡◌, ℕ, true, ap, sym, ◌∙◌, ⊎_elim}
use Rattle.clsm_law.specs.declared.view.View.{View}
use Rattle.clsm_law.specs.declared.merger.MergerView.{MergerView}
use Rattle.clsm_law.specs.Law.{IsRetiredFor, each}
use Rattle.clsm_law.specs.Merging.{reader_at}
use Rattle.clsm_pins.specs.Quieting.{HoldsNothingRetired}

pub released : (m : MergerView) (seat : ℕ) → (reader_at m.readers seat).quiet ≡ true → HoldsNothingRetired m seat
released m seat quiet w component lawful same held =
    let merged = ap (λ (m : MergerView). m.merged) same in
    ⊎_elim
    (λ (newest : component ≡ w.merger.merged). newest ∙ merged)
    (λ (r : IsRetiredFor w.merger seat (each w.layout View.pin w.views seat) component).
    absurd (let loud = ap (λ (m : MergerView). (reader_at m.readers seat).quiet) (sym same) ∙ r.loud in cc (quiet, loud)))
    (lawful.law.held seat component held).1

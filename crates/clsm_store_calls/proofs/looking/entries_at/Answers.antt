use Rattle.std.proofs.Common.{ap, sym, ◌∙◌, refl}
use Rattle.clsm_law.specs.declared.merger.MergerView.{MergerView}
use Rattle.clsm_store_calls.specs.declared.merger_seat.MergerSeat.{MergerSeat}
use Rattle.clsm_store_calls.specs.Flooring.{with_floor}
use Rattle.clsm_store_calls.specs.Merging.{frozen_of}
use Rattle.clsm_store_calls.proofs.Prepared.{counts_of, epoch_stays, runs_stay, same_frozen}
use Rattle.clsm_store_calls.proofs.looking.entries_at.Goals as goal

pub returns-clause-same : goal.returns-clause-same
returns-clause-same g c =
    let old = c.args.merger.now in
    let k = old.raw.knows in
    let k' = c.entries_at.new.merger.knows in
    let looks = c.entries_at.ensures.looks in
    let left : MergerSeat = record old { raw = c.entries_at.new.merger } in
    let merged = ap (λ (m : MergerView). m.merged) looks.view in
    same_frozen old left (c.entries_at.ensures.of.0 ∙ sym c.requires.of.0) looks.layout refl
    (counts_of k k' (looks.view ∙ ap (λ (m : MergerView). with_floor k.merger m) (sym looks.view)))
    (epoch_stays k k' c.show_invariant.ensures c.requires.frozen.frozen c.requires.frozen.out.exclusive looks.layout merged looks.past)
    (runs_stay k k' merged (λ word run. looks.stays word run (λ never. never)))
    ∙ ap (λ (m : MergerView). record (frozen_of old) { rounds = m.rounds; noted = m.noted }) looks.view

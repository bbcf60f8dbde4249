-- What stays over the merger's looks and writes.
use Rattle.std.proofs.Common.{ℕ, ◌<◌, ap, sym, ◌∙◌, subst}
use Rattle.clsm_law.specs.declared.layout.Layout.{Layout}
use Rattle.clsm_law.specs.declared.merger.MergerView.{MergerView}
use Rattle.clsm_law.specs.declared.word.Word.{Word}
use Rattle.clsm_law.specs.Memory.{room_of}
use Rattle.clsm_law.specs.Merging.{is_frozen}
use Rattle.clsm_law.specs.Places.{is_named}
use Rattle.clsm_words.specs.declared.known.Known.{Known}
use Rattle.clsm_runs.specs.declared.output.Output.{Output}
use Rattle.clsm_runs.specs.Outputs.{IsOutput}
use Rattle.clsm_words.specs.Changing.{Changes}
use Rattle.clsm_runs.specs.Placing.{MayWriteInto}

-- ---- the place of the next merge

pub free_stays : (Those : Word → Type 0) (k k' : Known) (place entry : ℕ) → Changes Those k k' → MayWriteInto k place entry → MayWriteInto k' place entry
free_stays Those k k' place entry changes free = record {
  frozen = ap (λ (m : MergerView). is_frozen m.phase) changes.view ∙ free.frozen;
  unnamed = ap (λ (m : MergerView). is_named m.merged place) changes.view ∙ free.unnamed;
  there = free.there;
  inside = subst (λ (z : Layout). entry < room_of z place) (sym changes.layout) free.inside;
}

pub output_stays : (Those : Word → Type 0) (k k' : Known) (o : Output) → Changes Those k k' → IsOutput k o → IsOutput k' o
output_stays Those k k' o changes is = record {
  frozen = ap (λ (m : MergerView). is_frozen m.phase) changes.view ∙ is.frozen;
  unnamed = ap (λ (m : MergerView). is_named m.merged o.place) changes.view ∙ is.unnamed;
  there = is.there;
  room = is.room ∙ ap (λ (z : Layout). room_of z o.place) (sym changes.layout);
  few = is.few;
}

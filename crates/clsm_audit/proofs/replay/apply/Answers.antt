use Rattle.std.proofs.Common.{ap, sym, ◌∙◌}
use Rattle.std.proofs.lemmas.Bool.{true≢false}
use Rattle.std.proofs.lemmas.Result.{on_ok_weaker}
use Rattle.clsm_model.specs.declared.record.Deed.TheVariants.{Batch as Group}
use Rattle.clsm_audit.proofs.Applied.{batch_applied, write_applied, write_is}
use Rattle.clsm_audit.proofs.replay.apply.Goals as goal

pub returns-in-Batch-clause-write : goal.returns-in-Batch-clause-write
returns-in-Batch-clause-write c =
    on_ok_weaker c.apply_members.result
    (λ applies h stands map.
    batch_applied h c.args.call.now c.as_slice.result.now c.args.map.now c.apply_members.new.map (c.in-Batch.is ∙ ap Group (sym c.as_slice.ensures))
    (λ from m. applies h c.args.call.now.time from m) stands map)
    c.apply_members.ensures

pub returns-in_ok-apply : goal.returns-in_ok-apply
returns-in_ok-apply c = record {
  write = write_applied c.args.call.now c.in-Some.slot c.args.map.now c.apply.new.self (sym c.write_by.ensures ∙ c.in-Some.is) c.in_ok-apply.ensures.follows;
  read = λ reads. absurd (true≢false (sym (write_is c.args.call.now c.in-Some.slot (sym c.write_by.ensures ∙ c.in-Some.is)) ∙ reads));
}

use Rattle.std.proofs.Common.{List, refl, subst, arith}
use Rattle.clsm_audit.specs.RealTime.{IsFirstTooEarly}
use Rattle.clsm_audit.specs.declared.place.Moments.{Moments}
use Rattle.clsm_model.specs.declared.record.CallRecord.{CallRecord}
use Rattle.clsm_text.proofs.Verdicts.{early_inside, lines_stale, refused_order}
use Rattle.clsm_text.proofs.judging.judge_order.Goals as goal

pub index-line-requires : goal.index-line-requires
index-line-requires c =
    let early =
    refused_order c.deref.result.now c.deref-2.result.now c.in-Err-Stale.field-0 c.in-Err-Stale.index c.in-Err-Stale.earlier
    c.in-Err-Stale.field-0-is c.in-Err-Stale.ensures.stale in
    let inside =
    early_inside c.deref.result.now c.deref-2.result.now c.in-Err-Stale.index c.in-Err-Stale.earlier early.here in
    omega (arith, inside, c.deref.ensures.len, c.requires.count)

pub returns-in-Err-Stale-clause-verdict : goal.returns-in-Err-Stale-clause-verdict
returns-in-Err-Stale-clause-verdict c =
    λ bytes list.
    let early =
    refused_order c.deref.result.now c.deref-2.result.now c.in-Err-Stale.field-0 c.in-Err-Stale.index c.in-Err-Stale.earlier
    c.in-Err-Stale.field-0-is c.in-Err-Stale.ensures.stale in
    let records = c.args.list.now.listed.records.items in
    let moments = c.args.list.now.moments.items in (
      refl,
      lines_stale c.args.config.now bytes records c.args.list.now.listed.lines.items moments list c.in-Err-Stale.index c.in-Err-Stale.earlier
          c.index-line.result.now c.requires.lawful
          (subst (λ (ms : List Moments). IsFirstTooEarly records ms c.in-Err-Stale.index c.in-Err-Stale.earlier) c.deref-2.ensures.value
          (subst (λ (rs : List CallRecord). IsFirstTooEarly rs c.deref-2.result.now c.in-Err-Stale.index c.in-Err-Stale.earlier) c.deref.ensures.value early))
          c.index-line.ensures,
    )

use Rattle.std.proofs.Common.{refl, subst, sym, inl, inr}
use Rattle.clsm_model.specs.declared.record.Deed.{Deed}
use Rattle.clsm_model.specs.History.{IsUncut}
use Rattle.clsm_model.specs.Right.{Reads}
use Rattle.clsm_audit.specs.Explained.{Explains, ReadsKey, ReadsRows}
use Rattle.clsm_audit.specs.Written.{batches_of, history_of}
use Rattle.clsm_audit.proofs.Wrongs.{has_wrong, value_explains, wrong_reads}
use Rattle.clsm_audit.proofs.wrong_reply.explain_wrong.Goals as goal

pub unreachable-requires : goal.unreachable-requires
unreachable-requires c =
    let h = history_of c.args.records.now in
    let r = c.index-records-index.result in
    wrong_reads c.args.records.now c.args.index r c.index-records-index.is c.requires.wrong c.in_default.ensures (elim c.in-Snapshot.is [
      | inl e ↦ subst (λ (d : Deed). Reads h r.time d) (sym e) tt
      | inr e ↦ subst (λ (d : Deed). Reads h r.time d) (sym e) tt
    ])

pub unreachable-requires-in-Put : goal.unreachable-requires-in-Put
unreachable-requires-in-Put c =
    let h = history_of c.args.records.now in
    let r = c.index-records-index.result in
    wrong_reads c.args.records.now c.args.index r c.index-records-index.is c.requires.wrong c.in_default.ensures (elim c.in-Put.is [
      | inl e ↦ subst (λ (d : Deed). Reads h r.time d) (sym e.2) tt
      | inr e ↦ elim e [
        | inl e' ↦ subst (λ (d : Deed). Reads h r.time d) (sym e'.1) tt
        | inr e' ↦ subst (λ (d : Deed). Reads h r.time d) (sym e'.1) tt
      ]
    ])

pub explain_rows-requires-clause-rows : goal.explain_rows-requires-clause-rows
explain_rows-requires-clause-rows c = has_wrong c.args.records.now c.args.index c.index-records-index.result c.index-records-index.is c.requires.wrong
    (λ q. ReadsRows q.deed) (elim c.in-Scan.is [
      | inl e ↦ subst ReadsRows (sym e.3) tt
      | inr e ↦ subst ReadsRows (sym e.3) tt
    ])

pub explain_rows-requires-clause-uncut : goal.explain_rows-requires-clause-uncut
explain_rows-requires-clause-uncut c =
    has_wrong c.args.records.now c.args.index c.index-records-index.result c.index-records-index.is c.requires.wrong
    (λ q. IsUncut (batches_of c.args.records.now) q.time) c.in_default.ensures

pub returns-in-Rmw-clause-explains : goal.returns-in-Rmw-clause-explains
returns-in-Rmw-clause-explains c = λ config.
    let records = c.args.records.now in
    let r = c.index-records-index.result in
    let reads = wrong_reads records c.args.index r c.index-records-index.is c.requires.wrong c.in_default.ensures in
    has_wrong records c.args.index r c.index-records-index.is c.requires.wrong (λ q. Explains config records c.args.index q c.explain_value.result)
    (value_explains config records c.args.index r c.in-Rmw.key c.in-Rmw.old c.explain_value.result reads
    (subst (λ (d : Deed). ReadsKey d c.in-Rmw.key c.in-Rmw.old) (sym c.in-Rmw.is) (refl, refl)) c.explain_value.ensures)

pub returns-in-Get-clause-explains : goal.returns-in-Get-clause-explains
returns-in-Get-clause-explains c = λ config.
    let records = c.args.records.now in
    let r = c.index-records-index.result in
    let key = c.in-Get.key in
    let reply = c.in-Get.reply in
    let reads = wrong_reads records c.args.index r c.index-records-index.is c.requires.wrong c.in_default.ensures in
    has_wrong records c.args.index r c.index-records-index.is c.requires.wrong (λ q. Explains config records c.args.index q c.explain_value-in-Get.result)
    (value_explains config records c.args.index r key reply c.explain_value-in-Get.result reads
    (elim c.in-Get.is [
      | inl f ↦ subst (λ (d : Deed). ReadsKey d key reply) (sym f) (refl, refl)
      | inr f ↦ subst (λ (d : Deed). ReadsKey d key reply) (sym f) (refl, refl)
    ]) c.explain_value-in-Get.ensures)

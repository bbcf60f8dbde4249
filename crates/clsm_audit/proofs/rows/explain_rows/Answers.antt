use Rattle.std.proofs.Common.{List, subst, sym}
use Rattle.clsm_model.specs.History.{IsUncut}
use Rattle.clsm_model.specs.Map.{IsRange, Pair}
use Rattle.clsm_audit.specs.declared.explanation.Explanation.TheVariants.{WrongNext}
use Rattle.clsm_audit.specs.Explained.{Explains, ReadsRows}
use Rattle.clsm_audit.specs.Written.{batches_of, history_of}
use Rattle.clsm_audit.proofs.Wrongs.{has_wrong, next_explains, page_explains, rows_read, scan_explains, scan_reads, wrong_has, wrong_map, wrong_reads}
use Rattle.clsm_audit.proofs.rows.explain_rows.Goals as goal

pub returns-in-Some-clause-explains : goal.returns-in-Some-clause-explains
returns-in-Some-clause-explains c = λ config.
    let records = c.args.records.now in
    let r = c.index-records-index.result in
    let e = c.in-Some.explanation in
    let right = c.deref-in-Scan.result.now in
    let map = wrong_map records c.args.index r c.index-records-index.is c.requires.reply.wrong c.in_ok-map.map c.requires.uncut c.in_ok-map.ensures in
    let range = subst (λ (xs : List Pair). IsRange (history_of records) r.time c.in-Scan.lo c.in-Scan.hi xs) (sym c.deref-in-Scan.ensures.value)
    (c.in_ok-right-in-Scan.ensures.history (history_of records) r.time map) in
    has_wrong records c.args.index r c.index-records-index.is c.requires.reply.wrong (λ q. Explains config records c.args.index q e)
    (scan_explains config records c.args.index r c.in-Scan.lo c.in-Scan.hi c.in-Scan.rows c.as_slice.result.now right e c.in-Scan.is c.as_slice.ensures
    range c.in-Some.ensures)

pub unreachable-requires : goal.unreachable-requires
unreachable-requires c =
    let records = c.args.records.now in
    let h = history_of records in
    let r = c.index-records-index.result in
    let uncut = wrong_has records c.args.index r c.index-records-index.is c.requires.reply.wrong (λ q. IsUncut (batches_of records) q.time) c.requires.uncut in
    let map = wrong_map records c.args.index r c.index-records-index.is c.requires.reply.wrong c.in_ok-map.map c.requires.uncut c.in_ok-map.ensures in
    let range = subst (λ (xs : List Pair). IsRange h r.time c.in-Scan.lo c.in-Scan.hi xs) (sym c.deref-in-Scan.ensures.value)
    (c.in_ok-right-in-Scan.ensures.history h r.time map) in
    wrong_reads records c.args.index r c.index-records-index.is c.requires.reply.wrong uncut
    (scan_reads h r c.in-Scan.lo c.in-Scan.hi c.in-Scan.rows c.as_slice.result.now c.deref-in-Scan.result.now c.in-Scan.is c.as_slice.ensures range
    c.in-None.ensures)

pub returns-in-Some-explain_row-clause-explains : goal.returns-in-Some-explain_row-clause-explains
returns-in-Some-explain_row-clause-explains c = λ config.
    let records = c.args.records.now in
    let r = c.index-records-index.result in
    let page = c.page_of-next.result in
    let e = c.in-Some-explain_row.explanation in
    let map = wrong_map records c.args.index r c.index-records-index.is c.requires.reply.wrong c.in_ok-map.map c.requires.uncut c.in_ok-map.ensures in
    let range = subst (λ (xs : List Pair). IsRange (history_of records) r.time c.in-Page.range.from c.in-Page.range.hi xs) (sym c.deref-in-Page.ensures.value)
    (c.in_ok-all-in-Page.ensures.history (history_of records) r.time map) in
    has_wrong records c.args.index r c.index-records-index.is c.requires.reply.wrong (λ q. Explains config records c.args.index q e)
    (page_explains config records c.args.index r c.in-Page.range c.in-Page.rows c.as_slice-in-Page.result.now page.0.now
    c.deref-in-Page.result.now c.in-Page.more page.1 e c.in-Page.is c.as_slice-in-Page.ensures range c.page_of-next.ensures c.in-Some-explain_row.ensures)

pub returns-in-Page-clause-explains : goal.returns-in-Page-clause-explains
returns-in-Page-clause-explains c = λ config.
    let records = c.args.records.now in
    let h = history_of records in
    let r = c.index-records-index.result in
    let page = c.page_of-next.result in
    let uncut = wrong_has records c.args.index r c.index-records-index.is c.requires.reply.wrong (λ q. IsUncut (batches_of records) q.time) c.requires.uncut in
    let map = wrong_map records c.args.index r c.index-records-index.is c.requires.reply.wrong c.in_ok-map.map c.requires.uncut c.in_ok-map.ensures in
    let range = subst (λ (xs : List Pair). IsRange h r.time c.in-Page.range.from c.in-Page.range.hi xs) (sym c.deref-in-Page.ensures.value)
    (c.in_ok-all-in-Page.ensures.history h r.time map) in
    has_wrong records c.args.index r c.index-records-index.is c.requires.reply.wrong
    (λ q. Explains config records c.args.index q (WrongNext c.in-Page.more page.1))
    (next_explains config records c.args.index r c.in-Page.range c.in-Page.rows c.as_slice-in-Page.result.now page.0.now
    c.deref-in-Page.result.now c.in-Page.more page.1
    (wrong_reads records c.args.index r c.index-records-index.is c.requires.reply.wrong uncut) c.in-Page.is c.as_slice-in-Page.ensures range
    c.page_of-next.ensures c.in-None-explain_row.ensures)

pub unreachable-requires-in_default : goal.unreachable-requires-in_default
unreachable-requires-in_default c =
    let r = c.index-records-index.result in
    let rows = wrong_has c.args.records.now c.args.index r c.index-records-index.is c.requires.reply.wrong (λ q. ReadsRows q.deed) c.requires.rows in
    rows_read r.deed rows c.in_default.not-Scan c.in_default.not-Page

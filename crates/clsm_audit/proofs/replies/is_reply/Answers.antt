use Rattle.std.proofs.Common.{List, inl, inr, sym, subst}
use Rattle.std.specs.Cmp.{unsigned_Decides}
use Rattle.std.specs.Cmp.Lexicographic.{pointwise_decides}
use Rattle.clsm_model.specs.Map.{IsRange, Pair}
use Rattle.clsm_model.proofs.Equals.{Value-Decides, option_eq-Decides, pair-Decides}
use Rattle.clsm_audit.proofs.Readings.{reads_page, reads_range, reads_value}
use Rattle.clsm_audit.proofs.replies.is_reply.Goals as goal

pub returns-in-Rmw : goal.returns-in-Rmw
returns-in-Rmw c = λ h s map. rw c.in-Rmw.is
    (reads_value h s c.args.map.now c.in-Rmw.key c.in-Rmw.old c.get.result c.eq.result _ map c.get.ensures c.eq.ensures
    (option_eq-Decides Value-Decides c.in-Rmw.old c.get.result))

pub returns-in-Get : goal.returns-in-Get
returns-in-Get c = λ h s map.
    let reads = reads_value h s c.args.map.now c.in-Get.key c.in-Get.reply c.get-in-Get.result c.eq-in-Get.result _ map c.get-in-Get.ensures
    c.eq-in-Get.ensures (option_eq-Decides Value-Decides c.in-Get.reply c.get-in-Get.result) in
    elim c.in-Get.is [ inl is ↦ rw is reads | inr is ↦ rw is reads ]

pub returns-in_ok-range-in-Scan : goal.returns-in_ok-range-in-Scan
returns-in_ok-range-in-Scan c = λ h s map.
    let lo = c.in-Scan.lo in
    let hi = c.in-Scan.hi in
    let rows = c.as_slice.result.now in
    let got = c.as_slice-in-Scan.result.now in
    let range = subst (λ (xs : List Pair). IsRange h s lo hi xs) (sym c.as_slice-in-Scan.ensures.value) (c.in_ok-range-in-Scan.ensures.history h s map) in
    rw c.in-Scan.is (rw c.as_slice.ensures at (reads_range h s lo hi rows got c.eq-in-Scan.result _ range c.eq-in-Scan.ensures
    (pointwise_decides (pair-Decides unsigned_Decides Value-Decides) rows got)))

pub returns-in_ok-range-in-Page : goal.returns-in_ok-range-in-Page
returns-in_ok-range-in-Page c = λ h s map.
    let asked = c.in-Page.range in
    let rows = c.as_slice-in-Page-2.result.now in
    let got = c.as_slice-in-Page.result.now in
    let range = subst (λ (xs : List Pair). IsRange h s asked.from asked.hi xs) (sym c.as_slice-in-Page.ensures.value)
    (c.in_ok-range-in-Page.ensures.history h s map) in
    rw c.in-Page.is (rw c.as_slice-in-Page-2.ensures at
    (reads_page h s asked.from asked.hi asked.max rows got c.in-Page.more c.is_page.result range c.is_page.ensures))

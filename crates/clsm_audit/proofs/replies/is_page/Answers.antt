use Rattle.std.proofs.Common.{sym, ◌∙◌}
use Rattle.std.proofs.lemmas.Bool.{true≢false}
use Rattle.std.specs.Cmp.{unsigned_Decides}
use Rattle.std.specs.Cmp.Lexicographic.{pointwise_decides}
use Rattle.clsm_model.proofs.Equals.{Value-Decides, option_eq-Decides, pair-Decides}
use Rattle.clsm_audit.proofs.Readings.{here_front, here_next, page_here}
use Rattle.clsm_audit.proofs.replies.is_page.Goals as goal

pub returns-then-eq : goal.returns-then-eq
returns-then-eq c =
    let all = c.args.all.now in
    let rows = c.args.rows.now in
    let front = c.split_at.result.0.now in
    let rest = c.split_at.result.1.now in
    let max = c.args.max in
    let more = c.args.more in
    let count = c.min-count.result in
    let split = c.split_at.ensures in
    let same = (pointwise_decides (pair-Decides unsigned_Decides Value-Decides) rows front).0 (sym c.eq.ensures ∙ c.if-eq.true) in
    let next = option_eq-Decides unsigned_Decides more c.key_of_first.result in (
      λ h. page_here all rows front rest max count more c.min-count.ensures split.front split.back same
          (next.0 (sym c.eq-then-eq.ensures ∙ h) ∙ c.key_of_first.ensures),
      λ page. c.eq-then-eq.ensures ∙ next.1 (here_next all rows rest max count more c.min-count.ensures split.back page ∙ sym c.key_of_first.ensures),
    )

pub returns-else-eq : goal.returns-else-eq
returns-else-eq c =
    let all = c.args.all.now in
    let rows = c.args.rows.now in
    let front = c.split_at.result.0.now in (
      λ h. absurd (true≢false (sym h ∙ c.if-eq.false)),
      λ page. c.eq.ensures ∙ (pointwise_decides (pair-Decides unsigned_Decides Value-Decides) rows front).1
          (here_front all rows front c.args.max c.min-count.result c.args.more c.min-count.ensures c.split_at.ensures.front page),
    )

use Rattle.std.proofs.Common.{refl, ◌∙◌}
use Rattle.clsm_audit.proofs.Newest.{left_value}
use Rattle.clsm_audit.proofs.wrong_reply.explain_value.Goals as goal

pub returns : goal.returns
returns c = (
  refl,
  refl,
  record {
    value_is = c.value_left-right.ensures ∙ left_value c.args.records.now c.args.key c.args.time c.newest_write-newest.result c.newest_write-newest.ensures;
    newest = c.newest_write-newest.ensures;
    seen_is = c.seen_write-seen.ensures;
  },
)

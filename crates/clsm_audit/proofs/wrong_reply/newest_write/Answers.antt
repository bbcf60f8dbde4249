use Rattle.clsm_audit.proofs.Newest.{is_newest}
use Rattle.clsm_audit.proofs.wrong_reply.newest_write.Goals as goal

pub returns : goal.returns
returns c = is_newest c.args.records.now c.args.key c.args.time c.last_write.result c.requires.alone c.last_write.ensures

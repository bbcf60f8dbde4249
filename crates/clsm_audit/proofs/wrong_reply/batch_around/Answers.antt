use Rattle.clsm_audit.proofs.Wrongs.{uncut_by}
use Rattle.clsm_audit.proofs.wrong_reply.batch_around.Goals as goal

pub returns : goal.returns
returns c = uncut_by c.args.records.now c.args.time c.loop-batch.batch c.loop-batch-test.false c.loop-batch.invariant

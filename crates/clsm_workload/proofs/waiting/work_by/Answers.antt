use Rattle.clsm_workload.proofs.Ended.{ends}
use Rattle.clsm_workload.proofs.waiting.work_by.Goals as goal

pub returns : goal.returns
returns g c =
    ends c.args.config g.L.Loaded.load c.with_store.result c.with_store.ensures.sizes c.with_store.ensures.seats c.with_store.ensures.answers
    c.with_store.ensures.done
    c.with_store.ensures.whole c.with_store.ensures.stopped

use Rattle.clsm_search.proofs.NewestWrites.{found_newest}
use Rattle.clsm_search.proofs.list.Epoch.newest_in.Goals as goal

pub returns-clause-newest : goal.returns-clause-newest
returns-clause-newest g c =
    let e = c.args.self.now in
    found_newest c.args.seat.now.knows e.first c.args.key e.until c.if-self.false c.newest_time.result c.newest_time.ensures.newest

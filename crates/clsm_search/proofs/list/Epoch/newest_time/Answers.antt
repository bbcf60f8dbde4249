use Rattle.std.proofs.Common.{ℕ, subst}
use Rattle.clsm_words.proofs.Keeps.{looks_trans}
use Rattle.clsm_search.specs.declared.list.Epoch.{Epoch}
use Rattle.clsm_search.specs.Searching.{IsNewestTime}
use Rattle.clsm_search.proofs.Chains.{newest_before}
use Rattle.clsm_search.proofs.list.Epoch.newest_time.Goals as goal

pub returns-clause-looks : goal.returns-clause-looks
returns-clause-looks g c =
    looks_trans c.args.seat.now.knows c.walk_of-head.new.seat.knows c.newest.new.seat.knows c.walk_of-head.ensures.looks c.newest.ensures.looks

pub returns-clause-newest : goal.returns-clause-newest
returns-clause-newest g c =
    let k = c.args.seat.now.knows in
    let k1 = c.walk_of-head.new.seat.knows in
    let e = c.args.self.now in
    let head = c.walk_of-head.result in
    let at = c.walk_of-head.ensures in
    let found = c.newest.result in
    newest_before k k1 e.first c.args.key e.until found at.looks
    (subst (λ (e : Epoch). IsNewestTime k1 e.first c.args.key e.until found) at.epoch
    (subst (λ (key : ℕ). IsNewestTime k1 head.epoch.first key head.epoch.until found) at.key c.newest.ensures.newest))

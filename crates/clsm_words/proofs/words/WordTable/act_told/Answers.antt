use Rattle.std.proofs.Common.{◌≡◌, ℕ, ap}
use Rattle.clsm_words.specs.Acting.{made_by}
use Rattle.clsm_words.proofs.May.{Asks, may_step, may_store}
use Rattle.clsm_words.proofs.words.WordTable.act_told.Given.{Over}
use Rattle.clsm_words.proofs.words.WordTable.act_told.Goals as goal
use Rattle.clsm_words.proofs.words.WordTable.act_told.Goals.{After-place-at}

-- what the table asks of an operation that makes f of the word
step : (g : Over) (c : After-place-at g) (f : ℕ → ℕ) → made_by c.args.operation ≡ f
    → Asks c.args.self.now c.args.seat.now.table_id c.args.seat.now.id c.args.seat.now.me c.place-at.result f (g.E.Told.follows c.args.seat.now.me.0)
step g c = may_step c.args.self.now c.args.seat.now.table_id c.args.seat.now.id c.args.seat.now.me g.E.Told.follows c.args.word c.args.operation
    c.place-at.result c.requires.seat c.place-at.ensures c.requires.allows

pub store-requires : goal.store-requires
store-requires g c = may_store c.args.self.now c.args.seat.now.table_id c.args.seat.now.id c.args.seat.now.me g.E.Told.follows c.args.word
    c.args.operation c.place-at.result c.requires.seat c.place-at.ensures c.requires.allows _ (ap made_by c.in-Store.is)

pub load-requires : goal.load-requires
load-requires g c = step g (goal.at.load-requires g c).After-place-at _ (ap made_by c.in-Load.is)

pub fetch_sub-requires : goal.fetch_sub-requires
fetch_sub-requires g c = step g (goal.at.fetch_sub-requires g c).After-place-at _ (ap made_by c.in-Subtract.is)

pub fetch_max-requires : goal.fetch_max-requires
fetch_max-requires g c = step g (goal.at.fetch_max-requires g c).After-place-at _ (ap made_by c.in-Raise.is)

pub compare_exchange-requires : goal.compare_exchange-requires
compare_exchange-requires g c = step g (goal.at.compare_exchange-requires g c).After-place-at _ (ap made_by c.in-Exchange.is)

use Rattle.clsm_script.proofs.Sessions.{all_seats, are_of, records_of}
use Rattle.clsm_script.proofs.session.Session.settle.Goals as goal

pub settle_lawful-requires-clause-of_store : goal.settle_lawful-requires-clause-of_store
settle_lawful-requires-clause-of_store g c = are_of c.args.store.now c.args.self.records c.args.self.seats.items c.requires.seats

pub settle_lawful-requires-clause-all : goal.settle_lawful-requires-clause-all
settle_lawful-requires-clause-all g c = all_seats c.args.store.now c.args.self.records c.args.self.seats.items c.requires.seats c.requires.count

pub returns-clause-history : goal.returns-clause-history
returns-clause-history g c = c.settle_lawful.ensures.history c.args.self.records
    (records_of c.args.store.now c.args.self.records c.args.self.seats.items c.requires.seats c.requires.known c.requires.count)

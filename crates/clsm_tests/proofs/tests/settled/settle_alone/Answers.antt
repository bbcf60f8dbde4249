use Rattle.std.proofs.Common.{subst}
use Rattle.clsm_store.specs.Headline.{HasAllSeats}
use Rattle.clsm_tests.proofs.tests.settled.settle_alone.Goals as goal

pub settle_audited-requires-clause-all : goal.settle_audited-requires-clause-all
settle_audited-requires-clause-all g c = subst (HasAllSeats c.args.store.now) c.deref.ensures.value c.joined_are_records.ensures.all

use Rattle.std.proofs.Common.{arith, refl, sym, ◌∙◌}
use Rattle.clsm_script.proofs.Sessions.{known_start, recorded_start}
use Rattle.clsm_script.proofs.session.Session.new.Goals as goal

pub returns-clause-session : goal.returns-clause-session
returns-clause-session c store sizes new some =
    record {
      sizes = sizes;
      count = new.counted ∙ sym sizes.seats;
      used = let count = new.counted in omega arith;
      seats = recorded_start store c.args.config.seats c.args.seats.items _ c.new.ensures new;
      known = known_start _ _ c.new.ensures;
    }

pub returns-clause-fresh : goal.returns-clause-fresh
returns-clause-fresh c store new = record {
  config_is = refl;
  seats_are = new;
  used_is = refl;
  no_records = c.new.ensures;
}

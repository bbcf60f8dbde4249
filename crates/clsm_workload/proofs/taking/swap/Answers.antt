use Rattle.std.proofs.Common.{get_or, refl}
use Rattle.clsm_workload.proofs.Calls.{same_trans}
use Rattle.clsm_workload.proofs.Turns.{two_read}
use Rattle.clsm_workload.proofs.taking.swap.Goals as goal

pub returns-clause-taken : goal.returns-clause-taken
returns-clause-taken g c = record {
  exchange = record {
    one = c.args.keys.0;
    other = c.args.keys.1;
    one_had = get_or c.read_keys.new.values 0 c.index-values-0.result;
    other_had = get_or c.read_keys.new.values 1 c.index-values-1.result;
  };
  keys = refl;
  between = g.S.Player.seat c.read_keys.new.player;
  middle = c.read_keys.new.records.items;
  reads = two_read c.args.keys.0 c.args.keys.1 (g.S.Player.seat c.args.player.now) (g.S.Player.seat c.read_keys.new.player)
      c.read_keys.new.values c.index-values-0.result c.index-values-1.result c.args.records.now.items c.read_keys.new.records.items
      c.read_keys.ensures.reads;
  exchanges = c.exchange_keys.ensures.exchanged;
}

pub returns-clause-same : goal.returns-clause-same
returns-clause-same g c =
    same_trans (g.S.Player.seat c.args.player.now) (g.S.Player.seat c.read_keys.new.player) (g.S.Player.seat c.exchange_keys.new.player)
    c.read_keys.ensures.same c.exchange_keys.ensures.same

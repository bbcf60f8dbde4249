use Rattle.std.proofs.Common.{◌≡◌, ℕ, ◌+◌, ◌-◌, ◌%◌, ◌<◌, arith}
use Rattle.clsm_runs.proofs.NamedRuns.{names_zero}
use Rattle.clsm_runs.proofs.Turns.{no_turn, young_turn}
use Rattle.clsm_runs.proofs.counting.place_of_turn.Goals as goal

pub returns-then-turn-young : goal.returns-then-turn-young
returns-then-turn-young c =
    let young = c.level_zero_runs-young.result in
    let place = young - 1 - c.args.turn in
    λ memory. (
      young_turn memory c.args.merges c.args.turn place (omega arith),
      names_zero c.args.merges place (omega arith),
      omega arith,
    )

pub returns-else-turn-young-2 : goal.returns-else-turn-young-2
returns-else-turn-young-2 c = λ memory. no_turn memory c.args.merges c.args.turn (omega arith)

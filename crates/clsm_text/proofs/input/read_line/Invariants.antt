use Rattle.std.proofs.Common.{◌≤◌, vec_len}
use Rattle.clsm_text.proofs.Taken.{IsTaken}
use Rattle.clsm_text.proofs.input.read_line.Given as goal

abbrev pub invariant-loop : goal.invariant-loop
invariant-loop g l = record {
  short : vec_len l.line ≤ 4096;
  taken : IsTaken (g.R.Read.remaining l.initial.reader) (g.R.Read.remaining l.reader) l.line.items;
}

use Rattle.std.proofs.Common.{ℕ, ◌≤◌, decimal, length, arith, rules}
use Rattle.std.proofs.lemmas.Fmt.{length-decimal-le}
use Rattle.std.proofs.lemmas.List.{length-set}
use Rattle.clsm_script.proofs.writing.write_word.Goals as goal

pub write_digits-start-requires : goal.write_digits-start-requires
write_digits-start-requires g c =
    let few : length (decimal c.args.word) ≤ 20 = search (rules, length-decimal-le 20) in
    (omega (arith, c.put_time-end.ensures.start), omega (arith, length-set {A = ℕ}))

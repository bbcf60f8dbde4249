use Rattle.std.proofs.Common.{◌≤◌, decimal, ◌∙◌, ◌++◌, ◌∷◌, [], ap, length, arith, rules}
use Rattle.std.proofs.lemmas.Fmt.{length-decimal-le}
use Rattle.clsm_script.proofs.Puts.{put_before}
use Rattle.clsm_script.proofs.writing.put_time.Goals as goal

pub write_digits-start-requires : goal.write_digits-start-requires
write_digits-start-requires c =
    let few : length (decimal c.args.time) ≤ 20 = search (rules, length-decimal-le 20) in (omega arith, omega arith)

pub overflow_sub-start : goal.overflow_sub-start
overflow_sub-start c =
    let few : length (decimal c.args.time) ≤ 20 = search (rules, length-decimal-le 20) in
    omega (arith, c.write_digits-start.ensures.start)

pub returns-clause-start : goal.returns-clause-start
returns-clause-start c =
    let few : length (decimal c.args.time) ≤ 20 = search (rules, length-decimal-le 20) in
    omega (arith, c.write_digits-start.ensures.start)

pub returns-clause-inside : goal.returns-clause-inside
returns-clause-inside c = omega (arith, c.write_digits-start.ensures.start)

pub returns-clause-written : goal.returns-clause-written
returns-clause-written c =
    let few : length (decimal c.args.time) ≤ 20 = search (rules, length-decimal-le 20) in
    put_before c.write_digits-start.new.buf c.write_digits-start.result 64 (decimal c.args.time ++ 10 ∷ []) (omega (arith, c.write_digits-start.ensures.start))
    (omega (arith, c.write_digits-start.ensures.start))
    (c.write_digits-start.ensures.written ∙ ap (λ l. decimal c.args.time ++ l) c.requires)

use Rattle.std.proofs.Common.{◌≡◌, ◌∷◌, ◌∙◌, arith}
use Rattle.clsm_runs.proofs.Finishing.{left_looked}
use Rattle.clsm_runs.proofs.Taking.{more_to_keep, put_behind}
use Rattle.clsm_runs.proofs.merging.take.Goals as goal

pub returns-then-output-clause-full : goal.returns-then-output-clause-full
returns-then-output-clause-full g c e rest all taken before =
    let more = more_to_keep c.args.merger.now.knows c.args.output.now e rest all c.judge-is_kept.result.0 c.judge-is_kept.result.1
    (λ rest. c.judge-is_kept.ensures e rest taken.version) before c.if-not-is_kept.false in
    let full = c.if-output.true in omega arith

pub returns-clause-goes_on : goal.returns-clause-goes_on
returns-clause-goes_on g c e rest all taken before =
    let k = c.args.merger.now.knows in
    let then = c.value-value.new.merger.knows in
    let same : c.entry_with-entry.result ≡ e = c.entry_with-entry.ensures.is e taken.version (c.value-value.ensures.told e taken) in
    put_behind then c.args.output.now e rest all c.judge-is_kept.result.0 c.judge-is_kept.result.1 (λ rest. c.judge-is_kept.ensures e rest taken.version)
    (left_looked k then c.args.output.now (e ∷ rest) all c.value-value.ensures.looks before)
    c.write_entry.new.merger.knows c.write_entry.ensures.changes (c.write_entry.ensures.made ∙ same) c.write_entry.ensures.canonical c.if-not-is_kept.false

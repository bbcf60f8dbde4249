use Rattle.std.proofs.Common.{below_more, arith, ap, Ok, sym, ◌∙◌}
use Rattle.std.proofs.lemmas.Bool.{true≢false}
use Rattle.std.specs.BTreeSet.{contains}
use Rattle.std.specs.Ordering.{nat_cmp}
use Rattle.clsm_audit.proofs.Seconds.{here_second, some_within, written_also}
use Rattle.clsm_audit.proofs.passes.first_second.Goals as goal

pub loop-index-preserved : goal.loop-index-preserved
loop-index-preserved c =
    let records = c.args.records.now in
    let i = c.loop-index.index in
    let r = c.index-records-index.result in
    let within = c.loop-index-test.true in
    let is = c.index-records-index.is in
    let before = c.loop-index.invariant in
    let taken = c.in_ok-is_second.ensures in
    record {
      times = written_also records i r (contains nat_cmp c.loop-index.times) (contains nat_cmp c.is_second.new.times) within is
          (taken.times (ap Ok c.if-branch.false)) before.times;
      alone = below_more _ _ before.alone (λ second.
          let found = here_second records i r within is second in
          true≢false (sym (taken.second.1 (found.0, found.1, (before.times found.0).1 found.2)) ∙ c.if-branch.false));
    }

pub returns : goal.returns
returns c = λ i second. c.loop-index.invariant.alone i (omega (arith, some_within _ c.args.records.now i second)) second

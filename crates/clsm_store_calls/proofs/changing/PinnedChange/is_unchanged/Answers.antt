use Rattle.std.proofs.Common.{◌*◌, ◌≤◌, sym, subst}
use Rattle.std.proofs.lemmas.Bool.{ltb-false, ltb-true}
use Rattle.clsm_law.specs.declared.layout.Layout.{Layout}
use Rattle.clsm_store_calls.proofs.Unchanged.{span_unchanged, span_written, unchanged_found, unchanged_none}
use Rattle.clsm_store_calls.proofs.Giving.{written_found}
use Rattle.clsm_store_calls.proofs.changing.PinnedChange.is_unchanged.Goals as goal

pub returns-then-times-le-FEW_TIMES-clause-unchanged : goal.returns-then-times-le-FEW_TIMES-clause-unchanged
returns-then-times-le-FEW_TIMES-clause-unchanged g c =
    let m = c.args.self.now in
    span_unchanged c.settle_below.new.seat.knows c.is_written_in.new.seat.knows (record { key = m.key; from = c.args.from; until = c.args.until })
    c.is_written_in.ensures.looks.looks c.is_written_in.result c.is_written_in.ensures.written c.requires.later

pub returns-then-times-le-FEW_TIMES-clause-written : goal.returns-then-times-le-FEW_TIMES-clause-written
returns-then-times-le-FEW_TIMES-clause-written g c =
    let m = c.args.self.now in
    span_written c.settle_below.new.seat.knows c.is_written_in.new.seat.knows (record { key = m.key; from = c.args.from; until = c.args.until })
    c.is_written_in.ensures.looks.looks c.is_written_in.result c.is_written_in.ensures.written

pub returns-in-Some-clause-unchanged : goal.returns-in-Some-clause-unchanged
returns-in-Some-clause-unchanged g c = λ early.
    let k = c.settle_below.new.seat.knows in
    let m = c.args.self.now in
    unchanged_found k c.newest.new.seat.knows m.component m.key c.args.from c.args.until c.newest.ensures.looks c.requires.later c.in-Some.time
    c.in-Some.ensures.newest (ltb-true c.in-Some.time c.args.from early)

pub returns-in-Some-clause-written : goal.returns-in-Some-clause-written
returns-in-Some-clause-written g c = λ late.
    let k = c.settle_below.new.seat.knows in
    let m = c.args.self.now in
    written_found k c.newest.new.seat.knows m.component m.key c.args.from c.args.until c.newest.ensures.looks c.in-Some.time c.in-Some.ensures.newest
    (ltb-false c.in-Some.time c.args.from late)

pub returns-in-None-clause-unchanged : goal.returns-in-None-clause-unchanged
returns-in-None-clause-unchanged g c = λ _.
    let k = c.settle_below.new.seat.knows in
    let m = c.args.self.now in
    let merged = subst (λ (z : Layout). m.component * z.cells ≤ c.args.from) (sym c.settle_below.ensures.keeps.seat.layout) c.requires.merged in
    unchanged_none k c.newest.new.seat.knows m.component m.key c.args.from c.args.until c.newest.ensures.looks c.requires.later merged
    c.in-None.ensures.newest

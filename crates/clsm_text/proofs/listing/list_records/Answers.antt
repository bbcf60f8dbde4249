use Rattle.std.proofs.Common.{◌≡◌, ◌+◌, ◌<◌, [], ◌∷◌, ◌++◌, length, get_or, sym, subst, Ok, arith}
use Rattle.std.proofs.Common.{rules, tests}
use Rattle.std.proofs.lemmas.Iterator.Consumers.{YieldsList-turn, YieldsList-end}
use Rattle.std.proofs.lemmas.Iterator.Splits.{YieldsList-from_slice_split}
use Rattle.std.proofs.lemmas.List.{length_push, take_all}
use Rattle.clsm_text.specs.Input.{is_line_feed}
use Rattle.clsm_text.specs.Line.{lines_of}
use Rattle.clsm_text.specs.Audit.{IsListOf, StopsLines}
use Rattle.clsm_text.specs.Lines.{ReadsLine}
use Rattle.clsm_text.proofs.Lists.{more_none, more_some, stops_at}
use Rattle.clsm_text.proofs.listing.list_records.Goals.{In-Some}
use Rattle.clsm_text.proofs.listing.list_records.Goals as goal

-- this turn's line is the next line of the text
turn : (c : In-Some) →
    (length c.loop-line.yielded < length (lines_of c.args.text.now))
    × (c.in-Some.line.now
    ≡ get_or (lines_of c.args.text.now) (length c.loop-line.yielded) c.in-Some.line.now)
turn c =
    YieldsList-turn
    (YieldsList-from_slice_split _ is_line_feed c.args.text.now (cc) (cc) (cc)
    (λ x b q k. search (rules, tests)))
    c.loop-line.yielded _ c.loop-line.yielded_by _ _ c.in-Some.line c.in-Some.is
    c.next.ensures.steps

-- the same by the number of lines
at : (c : In-Some) →
    (c.loop-line.number < length (lines_of c.args.text.now))
    × (c.in-Some.line.now
    ≡ get_or (lines_of c.args.text.now) c.loop-line.number c.in-Some.line.now)
at c =
    let (inside, is) = turn c in (
      omega (arith, inside, c.loop-line.invariant.number),
      subst (λ n. c.in-Some.line.now ≡ get_or (lines_of c.args.text.now) n c.in-Some.line.now)
          (sym c.loop-line.invariant.number) is,
    )

-- this turn's line is one more
counted : (c : In-Some) →
    c.loop-line.number + 1 ≡ length (c.loop-line.yielded ++ c.in-Some.line ∷ [])
counted c =
    omega (
      arith,
      length_push c.loop-line.yielded c.in-Some.line,
      c.loop-line.invariant.number,
    )

pub loop-line-preserved-in-Continue-1 : goal.loop-line-preserved-in-Continue-1
loop-line-preserved-in-Continue-1 c =
    let (inside, is) = at (goal.at.loop-line-preserved-in-Continue-1 c).In-Some in
    record {
      can = search rules;
      ends = tt;
      number = counted (goal.at.loop-line-preserved-in-Continue-1 c).In-Some;
      list = rw (c.in_ok-push-in-Ok-Some.ensures.records, c.in_ok-push-in-Ok-Some.ensures.lines, c.in_ok-push-in-Ok-Some.ensures.moments)
          (more_some c.args.timed _ _ c.in-Some.line.now _ _ _ c.loop-line.invariant.list inside is
          c.in-Ok-Some.said
          (subst (λ o. ReadsLine c.args.timed c.in-Some.line.now (Ok o)) c.in-Ok-Some.field-0-is
          c.in-Ok-Some.ensures));
    }

pub loop-line-preserved : goal.loop-line-preserved
loop-line-preserved c =
    let (inside, is) = at (goal.at.loop-line-preserved c).In-Some in
    record {
      can = search rules;
      ends = tt;
      number = counted (goal.at.loop-line-preserved c).In-Some;
      list = more_none c.args.timed _ _ c.in-Some.line.now _ _ _ c.loop-line.invariant.list inside is
          (subst (λ o. ReadsLine c.args.timed c.in-Some.line.now (Ok o)) c.in-Ok-None.field-0-is
          c.in-Ok-None.ensures);
    }

pub returns-in-Err-clause-stopped : goal.returns-in-Err-clause-stopped
returns-in-Err-clause-stopped c =
    let (inside, is) = at (goal.at.returns-in-Err-clause-stopped c).In-Some in
    subst (StopsLines c.args.timed c.args.text.now) (sym c.at.ensures)
    (stops_at c.args.timed c.args.text.now c.loop-line.number c.in-Some.line.now _ _ _ c.in-Err.error
    c.loop-line.invariant.list inside is c.in-Err.ensures)

pub returns-clause-listed : goal.returns-clause-listed
returns-clause-listed c =
    let (all, same) =
    YieldsList-end
    (YieldsList-from_slice_split _ is_line_feed c.args.text.now (cc) (cc) (cc)
    (λ x b q k. search (rules, tests)))
    c.loop-line.yielded _ c.loop-line.yielded_by _ _ c.in-None.is c.next.ensures.steps in
    subst (λ ls. IsListOf c.args.timed ls c.loop-line.list.listed.records.items c.loop-line.list.listed.lines.items c.loop-line.list.moments.items)
    (take_all c.loop-line.number (lines_of c.args.text.now)
    (omega (arith, same, c.loop-line.invariant.number)))
    c.loop-line.invariant.list

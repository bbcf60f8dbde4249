use Rattle.std.proofs.Common.{◌≡◌, ◌<◌, length, get_or, lit<, arith, rules}
use Rattle.std.proofs.lemmas.Iterator.Splits.{YieldsList-from_str_split}
use Rattle.std.proofs.lemmas.Iterator.Consumers.{YieldsList-turn, YieldsList-end}
use Rattle.std.proofs.lemmas.List.{length_push}
use Rattle.clsm_text.specs.Number.{parts_of}
use Rattle.clsm_text.proofs.Parts.{has_read-more, refuses_part, value_of_parts}
use Rattle.clsm_text.proofs.number.parse_words.Goals.{In-Some}
use Rattle.clsm_text.proofs.number.parse_words.Goals as goal

-- this turn's part is the next part of the text
turn : (c : In-Some) →
    (length c.loop-part.yielded < length (parts_of c.args.text.now))
    × (c.in-Some.part.now
    ≡ get_or (parts_of c.args.text.now) (length c.loop-part.yielded) c.in-Some.part.now)
turn c =
    YieldsList-turn (YieldsList-from_str_split 44 c.args.text.now (lit< tt) (cc) (cc) (cc))
    c.loop-part.yielded _ c.loop-part.yielded_by _ _ c.in-Some.part c.in-Some.is
    c.next.ensures.steps

pub returns-then-count-eq-MOST_WORDS : goal.returns-then-count-eq-MOST_WORDS
returns-then-count-eq-MOST_WORDS c =
    let (inside, is) = turn (goal.at.returns-then-count-eq-MOST_WORDS c).In-Some in
    λ value. omega (arith, value.at_most_eight)

pub returns-in_err-words : goal.returns-in_err-words
returns-in_err-words c =
    let (inside, is) = turn (goal.at.returns-in_err-words c).In-Some in
    rw c.from_residual.ensures (refuses_part _ _ _ inside is (c.in_err-words.ensures))

pub loop-part-preserved : goal.loop-part-preserved
loop-part-preserved c =
    let (inside, is) = turn (goal.at.loop-part-preserved c).In-Some in
    let (can, ends, count, small, places, read) = c.loop-part.invariant in
    let (number, value) = c.in_ok-words.ensures in (
      tt,
      tt,
      omega (arith, length_push c.loop-part.yielded c.in-Some.part),
      omega arith,
      search rules,
      rw value
          (has_read-more _ _ _ _ read (omega (arith, inside)) (omega arith) (rw count is) number),
    )

pub returns : goal.returns
returns c =
    let (all, same) =
    YieldsList-end (YieldsList-from_str_split 44 c.args.text.now (lit< tt) (cc) (cc) (cc))
    c.loop-part.yielded _ c.loop-part.yielded_by _ _ c.in-None.is c.next.ensures.steps in
    let (can, ends, count, small, places, read) = c.loop-part.invariant in
    rw c.ok.ensures.value
    (value_of_parts _ _ _ _ read (omega (arith, same)) small places c.new.ensures.taken
    c.new.ensures.words)

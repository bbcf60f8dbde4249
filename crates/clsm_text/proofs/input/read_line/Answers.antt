use Rattle.std.proofs.Common.{◌≡◌, length, IfSome, arith, subst, sym}
use Rattle.clsm_text.specs.Input.{TakesPart}
use Rattle.clsm_text.specs.Taken.{TakesLine}
use Rattle.clsm_text.proofs.Taken.{taken_cut, taken_last, taken_none, taken_short, taken_some}
use Rattle.clsm_text.proofs.input.read_line.Goals.{else-len-gt-LONGEST_LINE, then-len-gt-LONGEST_LINE+else-not-shorten+in_ok-skip_spaces-in-Some}
use Rattle.clsm_text.proofs.input.read_line.Goals as goal

pub returns-then-not-shorten-clause-takes : goal.returns-then-not-shorten-clause-takes
returns-then-not-shorten-clause-takes g c =
    let part = subst (TakesPart _ _ _ _) c.in-Some.is c.in_ok-take_part.ensures.takes in
    let full : length c.take_part.new.line.items ≡ 4097 = omega (arith, c.in_ok-take_part.ensures.bound) in
    subst (λ l. IfSome (g.R.Read.remaining c.args.reader.now) (λ bytes. TakesLine bytes l (g.R.Read.remaining c.take_part.new.reader)))
    (sym (c.shorten.ensures.kept c.if-not-shorten.true))
    (taken_cut _ _ _ _ _ c.loop.invariant.taken part full
    (λ comment. let told = c.shorten.ensures.told.1 comment in let not = c.if-not-shorten.true in cc))

pub returns-in-Last-clause-takes : goal.returns-in-Last-clause-takes
returns-in-Last-clause-takes g c =
    taken_last _ _ _ _ _ c.loop.invariant.taken
    (subst (TakesPart _ _ _ _) c.in-Last.is c.in_ok-take_part.ensures.takes)

pub returns-in-None-clause-takes : goal.returns-in-None-clause-takes
returns-in-None-clause-takes g c =
    taken_none _ _ _ _ _ c.loop.invariant.taken
    (subst (TakesPart _ _ _ _) c.in-None.is c.in_ok-take_part.ensures.takes)
    (omega (arith, c.loop.invariant.short))

pub loop-preserved : goal.loop-preserved
loop-preserved g c =
    let part = subst (TakesPart _ _ _ _) c.in-Some.is c.in_ok-take_part.ensures.takes in
    elim c.if-len-gt-LONGEST_LINE.branch [
      | then-len-gt-LONGEST_LINE+else-not-shorten+in_ok-skip_spaces-in-Some w ↦
          let full : length c.take_part.new.line.items ≡ 4097 =
          omega (arith, c.in_ok-take_part.ensures.bound, w.if-len-gt-LONGEST_LINE.true) in
          rw w.line-is (rw w.reader-is (record {
            short = w.shorten.ensures.room w.if-not-shorten.false;
            taken = taken_short _ _ _ _ _ c.loop.invariant.taken _ _ part full
                (w.shorten.ensures.shortened w.if-not-shorten.false) w.in_ok-skip_spaces-in-Some.ensures.skips;
          }))
      | else-len-gt-LONGEST_LINE w ↦
          rw w.line-is (rw w.reader-is (record {
            short = omega (arith, w.if-len-gt-LONGEST_LINE.false);
            taken = taken_some _ _ _ _ _ c.loop.invariant.taken part
                (omega (arith, w.if-len-gt-LONGEST_LINE.false));
          }))
    ]

use Rattle.std.proofs.Common.{rules, true, refl, sym}
use Rattle.std.proofs.lemmas.Grind.{put_two}
use Rattle.clsm_model.proofs.Texts.{separator_after-take_more, text-take_more}
use Rattle.clsm_model.proofs.value.ValueDisplay.fmt.Goals as goal

pub loop-word-preserved : goal.loop-word-preserved
loop-word-preserved g c =
    let words = c.words-word-items.result.now in
    let i = c.loop-word.word-index in
    let before = c.loop-word.invariant in
    record {
      utf8 = search rules;
      separator = sym (separator_after-take_more words i c.loop-word-test.true);
      written = λ plain.
          let so_far = before.written plain in
          let wrote = c.in_ok-write.ensures.writes so_far.plain (refl {a = true}) in
          put_two _ _ _ _ _ _ _ so_far wrote (rw before.separator (text-take_more words i c.loop-word-test.true));
    }

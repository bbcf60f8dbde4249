use Rattle.std.proofs.Common.{◌∙◌, arith, refl}
use Rattle.clsm_words.proofs.Keeps.{aside_trans, looks_none}
use Rattle.clsm_scan.proofs.Places.{past_all}
use Rattle.clsm_scan.proofs.merged.Merged.pass.Goals as goal

pub loop-at-init : goal.loop-at-init
loop-at-init g c = record {
  of = c.requires.merges.of;
  looks = record { looks = looks_none c.args.seat.now.knows; trail = refl };
  hi = refl;
  over = c.requires.merges.over;
  ahead = c.requires.merges.stands;
  past = tt;
  same = λ key from until. refl;
}

pub loop-at-preserved : goal.loop-at-preserved
loop-at-preserved g c =
    let before = c.loop-at.invariant in
    let turn = c.pass_at-at.ensures in
    let top = before.hi in
    record {
      of = turn.of;
      looks = aside_trans c.args.seat.now.knows c.loop-at.seat.knows c.pass_at-at.new.seat.knows before.looks turn.looks;
      hi = turn.hi ∙ before.hi;
      over = turn.over;
      ahead = turn.ahead;
      past = turn.past;
      same = λ key from until. turn.same key from (omega arith) ∙ before.same key from until;
    }

pub returns-clause-from : goal.returns-clause-from
returns-clause-from g c = past_all c.args.from c.loop-at.self.streams.items c.loop-at.at (omega arith) c.loop-at.invariant.past

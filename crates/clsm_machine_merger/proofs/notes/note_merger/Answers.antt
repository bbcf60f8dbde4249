use Rattle.std.proofs.Common.{◌≡◌, rules}
use Rattle.clsm_law.specs.Layout.{memory}
use Rattle.clsm_law.specs.Worlds.{facts_of}
use Rattle.clsm_law.specs.declared.step.Step.TheVariants.{Look}
use Rattle.clsm_law.specs.declared.word.Word.TheVariants.{Clock}
use Rattle.clsm_machine_merger.proofs.notes.note_merger.Goals as goal

pub returns-in-LeaveExclusive : goal.returns-in-LeaveExclusive
returns-in-LeaveExclusive c = λ slots. rw c.in-LeaveExclusive.is (c.leave.ensures
    (facts_of c.args.layout.now (memory c.args.layout.now c.args.words.now) c.args.merger.now slots) c.args.found)

pub returns-in-Publish : goal.returns-in-Publish
returns-in-Publish c = λ slots. rw c.in-Publish.is
    (c.publish.ensures (facts_of c.args.layout.now (memory c.args.layout.now c.args.words.now) c.args.merger.now slots) c.args.found)

pub returns-in-Look-Clock : goal.returns-in-Look-Clock
returns-in-Look-Clock c = let is : c.args.step.now ≡ Look Clock = search rules in λ slots. rw is (c.note_clock.ensures c.args.layout.now)

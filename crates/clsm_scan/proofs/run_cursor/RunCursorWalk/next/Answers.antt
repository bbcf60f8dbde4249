use Rattle.clsm_levels.specs.Yields.{behind}
use Rattle.clsm_runs.specs.Passing.{passed_entry}
use Rattle.clsm_runs.proofs.Standing.{passage_stays}
use Rattle.clsm_scan.specs.Walking.{found_in_run_on}
use Rattle.clsm_scan.proofs.run_cursor.RunCursorWalk.next.Goals as goal

pub returns-clause-same : goal.returns-clause-same
returns-clause-same g c =
    found_in_run_on c.args.seat.now.knows c.next-self.new.seat.knows c.args.self.now.run.component c.args.self.now.run.place c.args.self.now.until
    c.next-self.ensures.looks.looks c.requires.stands.over.0

pub returns-clause-key : goal.returns-clause-key
returns-clause-key g c = c.key_of.ensures c.next-self.new.seat.knows c.args.self.now.run.component c.args.self.now.run.place c.next-self.ensures.passed

pub returns-clause-stands : goal.returns-clause-stands
returns-clause-stands g c =
    let walk = c.args.self.now in
    let k' = c.next-self.new.seat.knows in
    passage_stays c.args.seat.now.knows k' walk.run walk.until
    (behind c.args.from (passed_entry k' walk.run.place c.next-self.result)) c.next-self.new.passage c.next-self.ensures.looks.looks c.requires.stands.over.0
    c.next-self.ensures.stands

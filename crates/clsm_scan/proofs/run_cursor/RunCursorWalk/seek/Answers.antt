use Rattle.clsm_runs.proofs.Standing.{passage_stays}
use Rattle.clsm_scan.specs.Walking.{found_in_run_on}
use Rattle.clsm_scan.proofs.run_cursor.RunCursorWalk.seek.Goals as goal

pub returns-clause-same : goal.returns-clause-same
returns-clause-same g c =
    found_in_run_on c.args.seat.now.knows c.seek-self.new.seat.knows c.args.self.now.run.component c.args.self.now.run.place c.args.self.now.until
    c.seek-self.ensures.looks.looks c.requires.over.0

pub returns-clause-stands : goal.returns-clause-stands
returns-clause-stands g c =
    let walk = c.args.self.now in
    passage_stays c.args.seat.now.knows c.seek-self.new.seat.knows walk.run walk.until c.args.key c.seek-self.result c.seek-self.ensures.looks.looks
    c.requires.over.0 c.seek-self.ensures.stands

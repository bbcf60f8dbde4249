use Rattle.clsm_scan.specs.Sources.{found_in_epochs, found_in_runs}
use Rattle.clsm_scan.proofs.AddedWalks.{added_both, added_same}
use Rattle.clsm_scan.proofs.AllWalks.{runs_same}
use Rattle.clsm_scan.proofs.merged.Merged.add_all.Goals as goal

pub returns-clause-added : goal.returns-clause-added
returns-clause-added g c =
    let k = c.args.seat.now.knows in
    let k' = c.add_epochs.new.seat.knows in
    let component = c.args.at.component in
    let until = c.args.at.until in
    let epochs = c.add_epochs.ensures.added in
    added_both c.args.key k c.args.self.now k' c.add_epochs.new.self c.add_runs.new.seat.knows c.add_runs.new.self
    (found_in_epochs k component until) (found_in_runs k component until) epochs
    (added_same c.args.key k' c.add_epochs.new.self c.add_runs.new.seat.knows c.add_runs.new.self (found_in_runs k' component until)
    (found_in_runs k component until) (runs_same k k' component until c.requires.may.held epochs.looks) c.add_runs.ensures.added)

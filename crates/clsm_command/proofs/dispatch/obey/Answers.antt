use Rattle.std.proofs.Common.{◌∙◌, sym}
use Rattle.clsm_command.proofs.Handed.{audits_into_fault_so, audits_so, runs_into_fault_so, runs_so}
use Rattle.clsm_command.proofs.dispatch.obey.Goals as goal
use Rattle.clsm_command.proofs.dispatch.obey.Goals.{in-Audit, in-Explore, in-Run}

pub returns-clause-done : goal.returns-clause-done
returns-clause-done g c = elim c.match-options.branch [
  | in-Run w ↦ λ e. rw (w.in-Run.is, w.output-is)
      (runs_so _ _ _ _ (w.run_printed-status.ensures.well (sym w.status-is ∙ e)) w.asked_run.ensures)
  | in-Audit w ↦ λ e.
      let done = sym w.status-is ∙ e in
      rw (w.in-Audit.is, w.output-is)
      (audits_so w.in-Audit.options w.asked_audit.result _ _ _ w.asked_audit.ensures.config w.asked_audit.ensures.order w.asked_audit.ensures.history
      (w.audit_lines-status.ensures.lawful done) (w.audit_lines-status.ensures.prints done))
  | in-Explore w ↦ λ e. rw (w.in-Explore.is, w.output-is)
      (w.asked_exploration.result, w.asked_exploration.ensures, w.explore_scripts-status.ensures.explored (sym w.status-is ∙ e))
]

pub returns-clause-fault : goal.returns-clause-fault
returns-clause-fault g c = elim c.match-options.branch [
  | in-Run w ↦ λ e. rw (w.in-Run.is, w.output-is)
      (runs_into_fault_so _ _ _ _ (w.run_printed-status.ensures.fault (sym w.status-is ∙ e)) w.asked_run.ensures)
  | in-Audit w ↦ λ e. rw (w.in-Audit.is, w.output-is)
      (audits_into_fault_so w.in-Audit.options w.asked_audit.result _ _ _ w.asked_audit.ensures.config w.asked_audit.ensures.order
      (w.audit_lines-status.ensures.fault (sym w.status-is ∙ e)))
  | in-Explore w ↦ λ e. rw (w.in-Explore.is, w.output-is)
      (w.asked_exploration.result, w.asked_exploration.ensures, w.explore_scripts-status.ensures.fault (sym w.status-is ∙ e))
]

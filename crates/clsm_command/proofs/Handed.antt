-- What was done for the words of a command line, from what was done for their options.
use Rattle.std.proofs.Common.{◌≡◌, ℕ, Bool, Option, List, subst}
use Rattle.std.specs.Prelude.{IfSome}
use Rattle.clap.specs.Words.{Text}
use Rattle.clsm_command.specs.Answers.{IsInRange, IsParsed}
use Rattle.clsm_workload.specs.Run.{EndsWell, FindsFault}
use Rattle.clsm_workload.specs.declared.load.AskedRun.{AskedRun}
use Rattle.clsm_model.specs.declared.config.Config.{Config}
use Rattle.clsm_text.specs.Audit.{AreLawful, PrintsFault, PrintsVerdict}
use Rattle.clsm_text.specs.declared.audit.AskedAudit.{AskedAudit}
use Rattle.clsm_text.specs.declared.verdict.Verdict.TheVariants.{Lawful}
use Rattle.clsm_command.specs.Doing.{AsksRun, IsAskedFor, IsDone, IsFaulty, Runs, RunsIntoFault, audit_sizes}
use Rattle.clsm_command.specs.declared.asked.AuditOptions.{AuditOptions}
use Rattle.clsm_command.specs.declared.asked.Options.{Options}
use Rattle.clsm_command.specs.declared.asked.Options.TheVariants.{Audit}
use Rattle.clsm_command.specs.declared.asked.RunOptions.{RunOptions}

pub asked_for : (words : List Text) (options : Options) (Holds : Options → Type 0) → IsParsed words options → IsInRange options → Holds options
    → IsAskedFor words Holds
asked_for words options Holds parsed range holds = record { options = options; parsed = parsed; range = range; holds = holds }

-- the run that was made is the one that is asked for
pub runs_so : (options : RunOptions) (asked : AskedRun) (before after : Option (List ℕ)) → EndsWell asked before after → AsksRun options asked
    → Runs options before after
runs_so options asked before after ends asks = (asked, asks, ends)

pub runs_into_fault_so : (options : RunOptions) (asked : AskedRun) (before after : Option (List ℕ)) → FindsFault asked before after → AsksRun options asked
    → RunsIntoFault options before after
runs_into_fault_so options asked before after finds asks = (asked, asks, finds)

-- and so is the audit
module _ (options : AuditOptions) (asked : AskedAudit) (input before after : Option (List ℕ)) (config : asked.config ≡ audit_sizes options)
    (order : asked.order ≡ options.order) where
  pub audits_so : asked.history ≡ options.history → IfSome input (AreLawful asked.config asked.order)
      → PrintsVerdict asked.history before after Lawful → IsDone (Audit options) input before after
  audits_so history lawful prints =
      let sized = subst (λ (c : Config). IfSome input (AreLawful c asked.order)) config lawful in (
        subst (λ (b : Bool). IfSome input (AreLawful (audit_sizes options) b)) order sized,
        subst (λ (b : Bool). PrintsVerdict b before after Lawful) history prints,
      )

  pub audits_into_fault_so : IfSome input (PrintsFault asked.config asked.order before after) → IsFaulty (Audit options) input before after
  audits_into_fault_so finds =
      let sized = subst (λ (c : Config). IfSome input (PrintsFault c asked.order before after)) config finds in
      subst (λ (b : Bool). IfSome input (PrintsFault (audit_sizes options) b before after)) order sized

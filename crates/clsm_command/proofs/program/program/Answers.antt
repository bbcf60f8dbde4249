-- Each call of `subcommand` adds its command at the end.
use Rattle.std.proofs.Common.{◌∙◌, ap, true}
use Rattle.std.proofs.lemmas.Result.{IfOk-weaker}
use Rattle.clap.specs.Simple.{app_of_fields, on_top}
use Rattle.clsm_command.proofs.Added.{command_added}
use Rattle.clsm_command.proofs.program.program.Goals as goal

pub returns : goal.returns
returns c =
    let versioned = ap app_of_fields c.version.ensures ∙ ap (on_top (λ s. record s { has_version = true })) c.named.ensures.0 in
    let wants_one = ap app_of_fields c.subcommand_required.ensures ∙ ap (on_top (λ s. record s { subcommand_required = true })) versioned in
    let without_help = ap app_of_fields c.disable_help_subcommand.ensures ∙ ap (on_top (λ s. record s { disable_help_subcommand = true })) wants_one in
    let with_1 = command_added _ _ _ without_help c.in_ok-script.ensures c.in_ok-subcommand.ensures in
    let with_2 = command_added _ _ _ with_1 c.in_ok-run.ensures c.in_ok-subcommand-2.ensures in
    let with_3 = command_added _ _ _ with_2 c.in_ok-audit.ensures c.in_ok-subcommand-3.ensures in
    IfOk-weaker c.subcommand-4.result _ _ (λ m adds. command_added _ _ m with_3 c.in_ok-explore.ensures adds) c.subcommand-4.ensures

use Rattle.std.proofs.Common.{◌++◌, List, ap, ◌∙◌}
use Rattle.clsm_levels.specs.declared.entry.Entry.{Entry}
use Rattle.clsm_levels.specs.Pass.{kept_after}
use Rattle.std.proofs.Common.{None}
use Rattle.clsm_levels.proofs.Passes.{kept_after-none}
use Rattle.clsm_levels.proofs.merge.kept.Goals as goal

pub loop-entry-init : goal.loop-entry-init
loop-entry-init c = ap (λ (l : List Entry). l ++ kept_after None c.args.floor c.args.to_level_one c.args.entries.now) c.new-run.ensures.items
    ∙ kept_after-none c.args.floor c.args.to_level_one c.args.entries.now c.requires

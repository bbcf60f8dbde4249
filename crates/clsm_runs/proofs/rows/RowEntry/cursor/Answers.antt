use Rattle.clsm_runs.proofs.rows.RowEntry.cursor.Goals as goal

pub version_at-head-requires-clause-there : goal.version_at-head-requires-clause-there
version_at-head-requires-clause-there g c = (c.in-Some.ensures.place c.args.merger.now.knows c.requires.merging.merged).2

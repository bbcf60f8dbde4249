use Rattle.std.proofs.Common.{Some}
use Rattle.clsm_store_audit.proofs.told.pass_and_confirm.Given as goal

-- the store's own table
abbrev pub ghosts-pass : goal.ghosts-pass
ghosts-pass g a = record { table = Some a.store.now.table }

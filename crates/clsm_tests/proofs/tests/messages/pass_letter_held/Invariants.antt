use Rattle.std.proofs.Common.{Some}
use Rattle.clsm_tests.proofs.tests.messages.pass_letter_held.Given as goal

-- the store's own table
abbrev pub ghosts-pass_letter : goal.ghosts-pass_letter
ghosts-pass_letter g a = record { table = Some a.store.now.table }

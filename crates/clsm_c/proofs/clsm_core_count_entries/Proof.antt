-- `clsm_core_count_entries` meets its contract: a call by a handle.
use Rattle.clsm_store.specs.Phase.{CountsIfFrozen}
use Rattle.clsm_c.specs.Calls.{ByMerger, TellsEntries, Told}
use Rattle.clsm_c.specs.contracts.slots.MergerSlot as handle
use Rattle.clsm_c.specs.contracts.types.CoreTurn as asked
use Rattle.clsm_c.specs.contracts.types.CoreEntries as answered
use Rattle.clsm_c.proofs.Exporting.{single}
use Rattle.clsm_c.proofs.Lent.{lent}
use Rattle.clsm_c.proofs.Passed.{answer, value}
use Rattle.clsm_c.proofs.merging.count_entries.Symbol.{name as safe}
use Rattle.clsm_c.proofs.merging.count_entries.Met as of_thm
use Rattle.clsm_c.specs.contracts.clsm_core_count_entries.Key.{name as key}
use Rattle.clsm_c.proofs.clsm_core_count_entries.Statement.{statement}
use Rattle.clsm_c.proofs.clsm_core_count_entries.Code as code

pub clsm_core_count_entries_spec : {M : Type 1} → statement M
clsm_core_count_entries_spec 𝓤 𝓛 𝓜 𝓡 wired =
    lent (single handle.the_row tt) (value asked.the_row) (answer answered.the_row)
    (λ old ask new answer code. ByMerger (λ before after. Told (CountsIfFrozen before after ask.turn) (TellsEntries answer code))
    old.merger new.merger code)
    safe 𝓛 𝓜 𝓡 key (code.unfolded 𝓤 𝓛.H 𝓜 𝓡 wired) (of_thm.met 𝓤 𝓛 𝓜 𝓡 (code.calls-clsm_c::merging::count_entries 𝓡.env wired))

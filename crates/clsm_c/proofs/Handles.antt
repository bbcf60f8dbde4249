-- The types of the handles.
use Rattle.std.proofs.Common.{refl}
use seplogic.Ra.Ura.{Ura}
use types.Logic.{Logic}
use Rattle.clsm_c.specs.contracts.slots.CallerSlot as caller
use Rattle.clsm_c.specs.contracts.slots.MergerSlot as merger
use Rattle.clsm_c.specs.contracts.slots.StoreSlot as store
use Rattle.clsm_c.proofs.slots.CallerSlot.TheLaws as caller_laws
use Rattle.clsm_c.proofs.slots.MergerSlot.TheLaws as merger_laws
use Rattle.clsm_c.proofs.slots.StoreSlot.TheLaws as store_laws
use Rattle.clsm_c.proofs.Exporting.{Handle}

module _ {M : Type 1} {𝓤 : Ura M} (𝓛 : Logic 𝓤) where
  abbrev pub StoreSlot : Handle
  StoreSlot = record { row = store.the_row; alone = refl; typed = λ d v is. ((store_laws.the_row_laws.lawful 𝓛).typed d _ is).0 }

  abbrev pub CallerSlot : Handle
  CallerSlot = record { row = caller.the_row; alone = refl; typed = λ d v is. ((caller_laws.the_row_laws.lawful 𝓛).typed d _ is).0 }

  abbrev pub MergerSlot : Handle
  MergerSlot = record { row = merger.the_row; alone = refl; typed = λ d v is. ((merger_laws.the_row_laws.lawful 𝓛).typed d _ is).0 }

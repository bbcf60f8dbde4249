-- Pages downwards, from the words to the seat.
use Rattle.std.proofs.Common.{ℕ, List, Option}
use Rattle.clsm_model.specs.declared.batch.Batch.{Batch}
use Rattle.clsm_model.specs.declared.slot.Slot.{Slot}
use Rattle.clsm_model.specs.History.{plain}
use Rattle.clsm_model.specs.Map.{Pair}
use Rattle.clsm_store_calls.specs.Downwards.{IsPageDown}

-- a page of what the slots say is one of a history that has them
pub known_page : (slots : List Slot) (batches : List Batch) (s lo hi max : ℕ) (rows : List Pair) (more : Option ℕ)
    → IsPageDown (plain slots) s lo hi max rows more → IsPageDown (record { slots = slots; batches = batches }) s lo hi max rows more
known_page slots batches s lo hi max rows more is =
    let range = is.range in
    record {
      all = is.all;
      range = record { rise = range.rise; inside = range.inside; below = range.below; above = range.above };
      page = is.page;
    }

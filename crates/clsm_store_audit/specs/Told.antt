-- What a producer tells of its put, and what a consumer that heard of it finds.
use Rattle.std.specs.Prelude.{◌≡◌, ◌⊎◌, ℕ, ◌<◌, ◌==◌, Bool, true, false, List, [], ◌∷◌, Option, Some}
use Rattle.clsm_model.specs.declared.record.CallRecord.{CallRecord}
use Rattle.clsm_model.specs.declared.record.Deed.TheVariants.{Get}
use Rattle.clsm_model.specs.declared.slot.Slot.{Slot}
use Rattle.clsm_model.specs.declared.slot.Slot.TheVariants.{Wrote}
use Rattle.clsm_model.specs.History.{History, slot_at}
use Rattle.clsm_law.specs.Relation.{call_of}
use Rattle.clsm_store_calls.specs.Seats.{SeatState, StoreId, known_by}

-- the seat with this number of the store has made these calls
pub record HasMade (store : StoreId) (number : ℕ) (calls : List CallRecord) (s : SeatState) : Type 0 where
  pub of : s.store ≡ store
  pub numbered : s.number ≡ number
  pub called : s.calls ≡ calls

-- the slot is a put of the key
abbrev pub is_put_of : ℕ → Slot → Bool
is_put_of key (Wrote seat k (Some value)) = k == key
is_put_of key _ = false

-- a put of the key stands in the history, at the time
abbrev pub HasPut : History → ℕ → ℕ → Type 0
HasPut h key time = is_put_of key (slot_at h time) ≡ true

-- a write of the key stands in the history, above the time and below s
pub record IsRewritten (h : History) (key time s : ℕ) : Type 0 where
  pub again : ℕ
  pub above : time < again
  pub below : again < s
  pub seat : ℕ
  pub written : Option (List ℕ)
  pub stands : slot_at h again ≡ Wrote seat key written

-- the reply at the time s is the value of the put of the key that stands at the time, below s,
-- unless the key was written again after that
pub record FindsPut (h : History) (key time s : ℕ) (reply : Option (List ℕ)) : Type 0 where
  pub below : time < s
  pub seat : ℕ
  pub value : List ℕ
  pub stands : slot_at h time ≡ Wrote seat key (Some value)
  pub found : (reply ≡ Some value) ⊎ IsRewritten h key time s

-- seat 1 of the store has made one call, a get of the key, which was answered so at the time, and
-- found the put
pub record HasFound (store : StoreId) (s : SeatState) (key time at : ℕ) (reply : Option (List ℕ)) : Type 0 where
  pub made : HasMade store 1 (call_of 1 at (Get key reply) ∷ []) s
  pub finds : FindsPut (known_by s) key time at reply

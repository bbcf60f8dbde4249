-- What a turn of a worker makes of its seat, and what is recorded of it.
use Rattle.std.specs.Prelude.{◌≡◌, ◌==◌, if◌then◌else◌, ℕ, ◌++◌, ◌∷◌, [], List, map, take, Option, None, Some, Result, Ok, Err, option_to_list}
use Rattle.clsm_model.specs.declared.record.CallRecord.{CallRecord}
use Rattle.clsm_model.specs.declared.record.Deed.TheVariants.{Batch, Get}
use Rattle.clsm_model.specs.declared.slot.Change.{Change}
use Rattle.clsm_model.specs.declared.slot.Change.TheVariants.{Remove, Set}
use Rattle.clsm_model.specs.History.{History, value}
use Rattle.clsm_model.specs.Right.{Member}
use Rattle.clsm_law.specs.Relation.{call_of}
use Rattle.clsm_store_calls.specs.declared.conditions.Condition.{Condition}
use Rattle.clsm_store_calls.specs.declared.conditions.Condition.TheVariants.{Counts, Has}
use Rattle.clsm_store_calls.specs.declared.refusal.BatchIfError.TheVariants as errors
use Rattle.clsm_store_calls.specs.Conditional.{AnswersIf, IsRefusedBatchIf, MeetsAll}
use Rattle.clsm_store_calls.specs.Seats.{SeatState, known_by}
use Rattle.clsm_store.specs.Promises.{GetsMany}
use Rattle.clsm_session.specs.Conditional.{IsRefusedIfAtLast}
use Rattle.clsm_session.specs.declared.refusal.BatchIfRefused.TheVariants as refusals
use Rattle.clsm_workload.specs.Play.{Plays}
use Rattle.clsm_workload.specs.declared.exchange.Exchange.{Exchange}
use Rattle.clsm_workload.specs.declared.turn.Turn.{Turn}
use Rattle.clsm_workload.specs.declared.turn.Turn.TheVariants.{Call, Many, Swap}
use Rattle.clsm_workload.specs.declared.unwritten.Unwritten.{Unwritten}
use Rattle.clsm_workload.specs.declared.unwritten.Unwritten.TheVariants.{AtLast, AtOnce}

-- ---- reads of several keys

-- the record of a get of the key at the time, by the seat with this number: of what the key has in
-- the history below that time
abbrev pub get_of : History → ℕ → ℕ → ℕ → CallRecord
get_of h number time key = call_of number time (Get key (value h key time))

-- and so of each of the keys
abbrev pub gets_of : History → ℕ → ℕ → List ℕ → List CallRecord
gets_of h number time keys = map (get_of h number time) keys

-- the keys were read at one time, as `get_many` promises, and each is recorded as a get of what it
-- has below that time, behind the records that there were
pub record ReadsKeys (keys : List ℕ) (old new : SeatState) (values : List (Option (List ℕ))) (had has : List CallRecord) : Type 0 where
  pub time : ℕ
  pub reads : GetsMany (λ place value. place ≡ value) old new keys values time
  pub recorded : has ≡ had ++ gets_of (known_by new) new.number time keys

-- ---- exchanges

-- the condition that the key still has what it had: this value, or none
abbrev pub still : ℕ → Option (List ℕ) → Condition
still key (Some words) = Has key (Some words)
still key None = Counts key key 0

-- the change that leaves this at a key
abbrev pub leaving : Option (List ℕ) → Change
leaving (Some words) = Set words
leaving None = Remove

-- its keys
abbrev pub both_keys : Exchange → List ℕ
both_keys e = e.one ∷ e.other ∷ []

-- both keys still have what they had
abbrev pub conditions_of : Exchange → List Condition
conditions_of e = still e.one e.one_had ∷ still e.other e.other_had ∷ []

-- each key gets what the other one had
abbrev pub members_of : Exchange → List Member
members_of e = (e.one, leaving e.other_had) ∷ (e.other, leaving e.one_had) ∷ []

-- why the batch was not written: as the store refuses it, or as a session does
abbrev pub RefusesIf : SeatState → SeatState → List Condition → List Member → Unwritten → Type 0
RefusesIf old new conditions members (AtOnce error) = IsRefusedBatchIf old new conditions members error
RefusesIf old new conditions members (AtLast refusal) = IsRefusedIfAtLast old new conditions members refusal

-- the place of the condition that did not hold, and the time
abbrev pub unmet_of : Unwritten → Option (ℕ × ℕ)
unmet_of (AtOnce (errors.Unmet index t)) = Some (index, t)
unmet_of (AtLast (refusals.Unmet index t)) = Some (index, t)
unmet_of _ = None

-- of the keys, those before the one that did not have what was read are recorded as gets at the
-- time of the test
abbrev pub gets_met : SeatState → List ℕ → Option (ℕ × ℕ) → List CallRecord
gets_met new keys None = []
gets_met new keys (Some unmet) = gets_of (known_by new) new.number unmet.1 (take unmet.0 keys)

-- as its caller tells it: what the first key had, where the second one has something else
abbrev pub met_before : ℕ → Exchange → Option (ℕ × ℕ) → List CallRecord
met_before number e None = []
met_before number e (Some unmet) = if unmet.0 == 1 then (call_of number unmet.1 (Get e.one e.one_had) ∷ []) else []

-- The batch was written at a time at which both keys still had what they had: it is recorded behind
-- a get of each of them at that time. Or it was not, for its cause
abbrev pub Exchanges : Exchange → SeatState → SeatState → Result ℕ Unwritten → List CallRecord → List CallRecord → Type 0
Exchanges e old new (Ok t) had has =
    AnswersIf old new (members_of e) t × MeetsAll old new (conditions_of e) t
    × (has ≡ (had ++ gets_of (known_by new) new.number t (both_keys e)) ++ call_of new.number t (Batch (members_of e)) ∷ [])
Exchanges e old new (Err unwritten) had has =
    RefusesIf old new (conditions_of e) (members_of e) unwritten
    × (has ≡ had ++ gets_met new (both_keys e) (unmet_of unwritten))

-- by some answer
abbrev pub IsExchanged : Exchange → SeatState → SeatState → List CallRecord → List CallRecord → Type 0
IsExchanged e old new had has = (answer : Result ℕ Unwritten) × Exchanges e old new answer had has

-- both keys were read at one time, and then exchanged
pub record Swaps (one other : ℕ) (old new : SeatState) (had has : List CallRecord) : Type 0 where
  pub exchange : Exchange
  pub keys : both_keys exchange ≡ one ∷ other ∷ []
  pub between : SeatState
  pub middle : List CallRecord
  pub reads : ReadsKeys (one ∷ other ∷ []) old between (exchange.one_had ∷ exchange.other_had ∷ []) had middle
  pub exchanges : IsExchanged exchange between new middle has

-- ---- turns

-- the turn was taken, and the records of what was answered are kept behind the others
abbrev pub TakesTurn : Turn → SeatState → SeatState → List CallRecord → List CallRecord → Type 0
TakesTurn (Call deal) old new had has =
    (answered : Option CallRecord) × Plays deal old new answered × (has ≡ had ++ option_to_list answered)
TakesTurn (Many keys) old new had has =
    (values : List (Option (List ℕ))) × ReadsKeys keys old new values had has
TakesTurn (Swap one other) old new had has = Swaps one other old new had has

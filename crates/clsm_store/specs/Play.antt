-- What a call, as a value, makes of its seat, and what it is answered.
use Rattle.std.specs.Prelude.{◌≡◌, ⊤, Some, None, Ok, Err}
use Rattle.clsm_model.specs.declared.deal.Deal.{Deal}
use Rattle.clsm_model.specs.declared.deal.Deal.TheVariants as deals
use Rattle.clsm_model.specs.declared.record.Deed.TheVariants as deeds
use Rattle.clsm_model.specs.Right.{page_deed}
use Rattle.clsm_store_calls.specs.Changing.{changed_at}
use Rattle.clsm_store_calls.specs.Seats.{SeatState, Answers, GivesUpForWrites, IsFull, Refuses}
use Rattle.clsm_store_calls.specs.Batching.{CountsBatch, IsRefusedBatch}
use Rattle.clsm_store_calls.specs.Scanning.{IsAtClock}
use Rattle.clsm_store_calls.specs.Tally.{CancelsNone, CountsTry, TakesLockOnce, TakesNoLock}
use Rattle.clsm_store_calls.specs.Writing.{RefusesTry}
use Rattle.clsm_model.specs.Changes.{added, put_if_absent}
use Rattle.clsm_store.specs.declared.play.answer.Answer.{Answer}
use Rattle.clsm_store.specs.declared.play.answer.Answer.TheVariants.{Write, Try as Tried, Batch as Batched}
use Rattle.clsm_store.specs.declared.play.answer.Answer.TheVariants.{Change as Changed, Read, ReadAt}
use Rattle.clsm_store.specs.declared.play.answer.Answer.TheVariants.{Snapshot, Close as Closed}
use Rattle.clsm_store.specs.declared.play.answer.Answer.TheVariants.{Scan as Scanned, Page as Paged}
use Rattle.clsm_store.specs.declared.play.call.Call.{Call}
use Rattle.clsm_store.specs.declared.play.call.Call.TheVariants.{Put, Remove, Try, Add, Claim}
use Rattle.clsm_store.specs.declared.play.call.Call.TheVariants.{Get, Snap, Close, GetAt, Scan, Page, Batch}

-- the call takes the seat from its old state to the new one, and is answered so
abbrev pub PlaysCall : Call → SeatState → SeatState → Answer → Type 0
PlaysCall (Put key v) old new (Write (Ok t)) = Answers old new t (deeds.Put key v)
PlaysCall (Put key v) old new (Write (Err full)) = IsFull old new full.time
PlaysCall (Remove key) old new (Write (Ok t)) = Answers old new t (deeds.Remove key)
PlaysCall (Remove key) old new (Write (Err full)) = IsFull old new full.time
PlaysCall (Try key v) old new (Tried (Ok t)) = Answers old new t (deeds.Put key v)
PlaysCall (Try key v) old new (Tried (Err refusal)) = RefusesTry old new refusal
PlaysCall (Add key by) old new (Changed (Ok rmw)) =
    Answers old new rmw.time (deeds.Rmw key rmw.old rmw.change) × (rmw.change ≡ added rmw.old by)
PlaysCall (Add key by) old new (Changed (Err full)) = IsFull old new full.time
PlaysCall (Claim key v) old new (Changed (Ok rmw)) =
    Answers old new rmw.time (deeds.Rmw key rmw.old rmw.change) × (rmw.change ≡ put_if_absent rmw.old v)
PlaysCall (Claim key v) old new (Changed (Err full)) = IsFull old new full.time
PlaysCall (Get key) old new (Read got) = Answers old new got.time (deeds.Get key got.value)
PlaysCall Snap old new (Snapshot (Ok t)) = Answers old new t deeds.Snapshot
PlaysCall Snap old new (Snapshot (Err refusal)) = (new ≡ old) × (old.snapshot ≡ Some refusal.time)
PlaysCall Close old new (Closed (Some t)) = Answers old new t deeds.Close
PlaysCall Close old new (Closed None) = (new ≡ old) × (old.snapshot ≡ None)
PlaysCall (GetAt key) old new (ReadAt (Some got)) =
    Answers old new got.time (deeds.GetAt key got.value)
PlaysCall (GetAt key) old new (ReadAt None) = (new ≡ old) × (old.snapshot ≡ None)
PlaysCall (Scan lo hi) old new (Scanned (Ok scan)) =
    Answers old new scan.time (deeds.Scan lo hi scan.rows)
PlaysCall (Scan lo hi) old new (Scanned (Err _)) = Refuses old new
PlaysCall (Page from hi max) old new (Paged (Ok page)) =
    Answers old new page.time (page_deed from hi max page.rows page.more)
PlaysCall (Page from hi max) old new (Paged (Err _)) = Refuses old new
PlaysCall (Batch members) old new (Batched (Ok t)) = Answers old new t (deeds.Batch members)
PlaysCall (Batch members) old new (Batched (Err refusal)) =
    IsRefusedBatch old new members refusal
PlaysCall _ _ _ _ = ⊥

-- the call counts what the method of its name does
abbrev pub CountsCall : Call → SeatState → SeatState → Answer → Type 0
CountsCall (Put _ _) old new (Write _) = TakesLockOnce old.tally new.tally × CancelsNone old.tally new.tally
CountsCall (Remove _) old new (Write _) = TakesLockOnce old.tally new.tally × CancelsNone old.tally new.tally
CountsCall (Try _ _) old new (Tried answer) = CountsTry 1 old.tally new.tally answer
CountsCall (Add key _) old new (Changed answer) =
    TakesLockOnce old.tally new.tally × GivesUpForWrites old new key (changed_at answer)
CountsCall (Claim key _) old new (Changed answer) =
    TakesLockOnce old.tally new.tally × GivesUpForWrites old new key (changed_at answer)
CountsCall (Get _) old new (Read _) = TakesNoLock old.tally new.tally
CountsCall Snap old new (Snapshot (Ok _)) = TakesNoLock old.tally new.tally
CountsCall Snap old new (Snapshot (Err _)) = new.tally ≡ old.tally
CountsCall Close old new (Closed _) = new.tally ≡ old.tally
CountsCall (GetAt _) old new (ReadAt _) = new.tally ≡ old.tally
CountsCall (Scan _ _) old new (Scanned _) = TakesNoLock old.tally new.tally
CountsCall (Page _ _ _) old new (Paged _) = TakesNoLock old.tally new.tally
CountsCall (Batch _) old new (Batched answer) = CountsBatch old.tally new.tally answer
CountsCall _ _ _ _ = ⊥

-- a read was answered at the clock as it looked at it, but under a snapshot
abbrev pub ReadsAtClock : Call → SeatState → SeatState → Answer → Type 0
ReadsAtClock (Get _) old new (Read got) = new.clock ≡ Some got.time
ReadsAtClock Snap old new (Snapshot (Ok t)) = new.clock ≡ Some t
ReadsAtClock (Scan _ _) old new (Scanned (Ok scan)) = IsAtClock old new scan.time
ReadsAtClock (Page _ _ _) old new (Paged (Ok page)) = IsAtClock old new page.time
ReadsAtClock _ _ _ _ = ⊤

-- the call was refused memory
abbrev pub WantsMemory : Answer → Type 0
WantsMemory (Scanned (Err _)) = ⊤
WantsMemory (Paged (Err _)) = ⊤
WantsMemory _ = ⊥

-- the call was made with a list, or answered with one
abbrev pub HasList : Call → Answer → Type 0
HasList (Scan _ _) (Scanned (Ok _)) = ⊤
HasList (Page _ _ _) (Paged (Ok _)) = ⊤
HasList (Batch _) (Batched (Ok _)) = ⊤
HasList _ _ = ⊥

-- the deal asks for a batch, whose members are a list
abbrev pub IsBatch : Deal → Type 0
IsBatch (deals.Batch _) = ⊤
IsBatch _ = ⊥

-- the call that the deal asks for
abbrev pub call_for : Deal → Call
call_for (deals.Put key value) = Put key value
call_for (deals.Remove key) = Remove key
call_for (deals.Get key) = Get key
call_for (deals.Add key by) = Add key by
call_for (deals.Claim key value) = Claim key value
call_for deals.Snap = Snap
call_for deals.Close = Close
call_for (deals.GetAt key) = GetAt key
call_for (deals.Scan lo hi) = Scan lo hi
call_for (deals.Batch members) = Batch members

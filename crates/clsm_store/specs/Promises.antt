-- The page to read first: what each call of a seat promises, all of it, once. `Store` makes a call
-- by a seat that it is given, `Caller` by its own, and both promise the same. `old` is the seat as
-- the call found it, `new` as it left it, and `result` what it answered. A call asks only for a
-- seat of its store; `get_at` and `get_many_at` also for an open snapshot, these and `get_many` for
-- as many places as keys, `rmw` and `visit` for a function that may be called with any value, `hear`
-- for a message of the store. At the end stand the merger's calls: each asks for its store's token
-- in one phase, `old`, and hands one back.
use Rattle.std.specs.Prelude.{◌≡◌, ℕ, ◌+◌, ◌*◌, ◌^◌, ◌<◌, ◌≤◌, List, [], drop, length, map, option_to_list, replicate, take}
use Rattle.std.specs.Prelude.{Option, None, Some, IfNone, IfSome, MatchOption, Result, IfErr, IfOk, slice_get}
use Rattle.clsm_law.specs.Merging.{unseen}
use Rattle.clsm_levels.specs.Cursors.{row_at}
use Rattle.clsm_law.specs.Views.{next_word}
use Rattle.clsm_model.specs.declared.plain_map.Memory.{Memory}
use Rattle.clsm_model.specs.declared.record.Deed.{Deed}
use Rattle.clsm_model.specs.declared.record.Deed.TheVariants.{Batch, Close, Get, GetAt, Rmw as ChangeOf, Scan as ScanOf, Snapshot}
use Rattle.clsm_model.specs.declared.slot.Change.{Change}
use Rattle.clsm_model.specs.History.{IsBeginning, end_of, value}
use Rattle.clsm_model.specs.Map.{Pair}
use Rattle.clsm_model.specs.Right.{Member, page_deed}
use Rattle.clsm_model.specs.Seats.{FitsDeed}
use Rattle.clsm_runs.specs.declared.merging.RunFull.{RunFull}
use Rattle.clsm_scan.specs.Filling.{AreFilled}
use Rattle.clsm_words.specs.Seats.{MessageState}
use Rattle.clsm_store_calls.specs.declared.conditions.Condition.{Condition}
use Rattle.clsm_store_calls.specs.declared.got.Counted.{Counted}
use Rattle.clsm_store_calls.specs.declared.got.Filled.{Filled}
use Rattle.clsm_store_calls.specs.declared.got.Got.{Got}
use Rattle.clsm_store_calls.specs.declared.got.Page.{Page}
use Rattle.clsm_store_calls.specs.declared.got.Rmw.{Rmw}
use Rattle.clsm_store_calls.specs.declared.got.Scan.{Scan}
use Rattle.clsm_store_calls.specs.declared.refusal.BatchError.{BatchError}
use Rattle.clsm_store_calls.specs.declared.refusal.BatchIfError.{BatchIfError}
use Rattle.clsm_store_calls.specs.declared.refusal.Full.{Full}
use Rattle.clsm_store_calls.specs.declared.refusal.Open.{Open}
use Rattle.clsm_store_calls.specs.declared.refusal.Pinned.{Pinned}
use Rattle.clsm_store_calls.specs.declared.refusal.TryBatchError.{TryBatchError}
use Rattle.clsm_store_calls.specs.declared.refusal.TryBatchIfError.{TryBatchIfError}
use Rattle.clsm_store_calls.specs.declared.refusal.TryPutError.{TryPutError}
use Rattle.clsm_store_calls.specs.declared.refusal.Worn.{Worn}
use Rattle.clsm_store_calls.specs.Agreeing.{AgreesWith}
use Rattle.clsm_store_calls.specs.Batching.{CountsBatch, CountsTryBatch, IsRefusedBatch, IsRefusedTryBatch}
use Rattle.clsm_store_calls.specs.Changing.{CountsTryChange, changed_at}
use Rattle.clsm_store_calls.specs.Conditional.{AnswersIf, AreWritable, CountsBatchIf, CountsTryBatchIf, IsRefusedBatchIf, IsRefusedTryBatchIf, MeetsAll}
use Rattle.clsm_store_calls.specs.Downwards.{ReadsDown}
use Rattle.clsm_store_calls.specs.Looking.{IsKeptOut}
use Rattle.clsm_store_calls.specs.Many.{HoldValues}
use Rattle.clsm_store_calls.specs.Merging.{IsRunFull, TakesFloor}
use Rattle.clsm_store_calls.specs.Reclaiming.{AreAllQuiet, IsLowestLoud}
use Rattle.clsm_store_calls.specs.Scanning.{CountsKeys, IsAtClock, ScansNow, VisitsKeys}
use Rattle.clsm_store_calls.specs.Seats.{Answers, GivesUpForWrites, IsFull, IsSameSeat, Refuses, SeatState, StoreId, known_by}
use Rattle.clsm_store_calls.specs.Seats.{CleanState, FrozenState, RetiredState}
use Rattle.clsm_store_calls.specs.Tally.{CancelsNone, CountsTry, TakesLockOnce, TakesNoLock}
use Rattle.clsm_store_calls.specs.Writing.{RefusesTry}
use Rattle.clsm_store.specs.declared.ends.FoundRow.{FoundRow}
use Rattle.clsm_store.specs.declared.pages.Pages.{Pages}
use Rattle.clsm_store.specs.declared.phase.TryFreezeError.{TryFreezeError}
use Rattle.clsm_store.specs.declared.phase.TryFreezeError.TheVariants.{Busy, Worn as WornToo}
use Rattle.clsm_store.specs.declared.play.answer.Answer.{Answer}
use Rattle.clsm_store.specs.declared.play.call.Call.{Call}
use Rattle.clsm_store.specs.Ends.{HasNoRow, IsFirst, IsLast}
use Rattle.clsm_store.specs.Meetings.{IsUnrecorded, Meets, told_by}
use Rattle.clsm_store.specs.Paging.{ReadsNext}
use Rattle.clsm_store.specs.Play.{CountsCall, PlaysCall, ReadsAtClock, WantsMemory}

-- ---- writes

-- put and remove; the deed says which, of which key, and with which value
pub record Writes (old new : SeatState) (deed : Deed) (result : Result ℕ Full) : Type 0 where
  -- answered with a time: one record more, the deed at that time
  pub written : IfOk result (λ time. Answers old new time deed)
  -- answered or refused: it took the lock once
  pub lock : TakesLockOnce old.tally new.tally
  -- it gave up no time of its own, and cancelled none of others
  pub cancels : CancelsNone old.tally new.tally
  -- refused: in that hold of the lock the clock stood at the limit, which is this time
  pub full : IfErr result (λ full. IsFull old new full.time)

-- try_put and try_remove
pub record TriesToWrite (old new : SeatState) (deed : Deed) (result : Result ℕ TryPutError) : Type 0 where
  -- as put
  pub written : IfOk result (λ time. Answers old new time deed)
  -- it entered the lock once, or was refused it; it made one try there, which is counted if lost
  pub counts : CountsTry 1 old.tally new.tally result
  -- refused: no record more, and with `Full` as put
  pub refused : IfErr result (RefusesTry old new)

-- batch
pub record WritesBatch (old new : SeatState) (members : List Member) (result : Result ℕ BatchError) : Type 0 where
  -- answered with the time of the first member: one record more, the batch at that time
  pub written : IfOk result (λ time. Answers old new time (Batch members))
  -- and then it has at least one member, at most as many as an epoch has cells, and each writes
  pub fits : IfOk result (λ time. FitsDeed old.store.layout.cells (Batch members))
  -- it took the lock once, or not at all if this is no batch; and it lost no exchange there
  pub counts : CountsBatch old.tally new.tally result
  -- refused: for the first cause of `Empty`, `TooLong`, `Keep`, `Full`
  pub refused : IfErr result (IsRefusedBatch old new members)

-- try_batch
pub record TriesToWriteBatch (old new : SeatState) (members : List Member) (result : Result ℕ TryBatchError) : Type 0 where
  -- as batch
  pub written : IfOk result (λ time. Answers old new time (Batch members))
  -- as batch
  pub fits : IfOk result (λ time. FitsDeed old.store.layout.cells (Batch members))
  -- as batch, but it tried the lock once
  pub counts : CountsTryBatch old.tally new.tally result
  -- refused: as batch, or with `Busy` if somebody held the lock
  pub refused : IfErr result (IsRefusedTryBatch old new members)

-- batch_if
pub record WritesBatchIf (old new : SeatState) (conditions : List Condition) (members : List Member) (result : Result ℕ BatchIfError) : Type 0 where
  -- answered with a time: as batch, one record more, the batch at that time; or with no member
  -- none, and the time is the due
  pub written : IfOk result (AnswersIf old new members)
  -- all conditions hold at that time, which is the clock as the seat looked at it in its hold
  pub holds : IfOk result (MeetsAll old new conditions)
  -- and then it has at most as many members as an epoch has cells, and each writes
  pub fits : IfOk result (λ time. AreWritable old.store.layout.cells members)
  -- it took the lock once, or not at all if the members cannot be written; and it lost no exchange
  -- there, and gave up no time
  pub counts : CountsBatchIf old.tally new.tally result
  -- refused: for the first cause of `TooLong`, `Keep`, `Unmet`, `Full`
  pub refused : IfErr result (IsRefusedBatchIf old new conditions members)

-- try_batch_if
pub record TriesToWriteBatchIf (old new : SeatState) (conditions : List Condition) (members : List Member)
    (result : Result ℕ TryBatchIfError) : Type 0 where
  -- as batch_if
  pub written : IfOk result (AnswersIf old new members)
  -- as batch_if
  pub holds : IfOk result (MeetsAll old new conditions)
  -- as batch_if
  pub fits : IfOk result (λ time. AreWritable old.store.layout.cells members)
  -- as batch_if, but it tried the lock once
  pub counts : CountsTryBatchIf old.tally new.tally result
  -- refused: as batch_if, or with `Busy` if somebody held the lock
  pub refused : IfErr result (IsRefusedTryBatchIf old new conditions members)

-- ---- read-modify-writes

-- rmw, add and put_if_absent, whatever they make of the key's value
pub record Changes (old new : SeatState) (key : ℕ) (result : Result Rmw Full) : Type 0 where
  -- answered: one record more, of the old value and of what was made of it, at this time
  pub changed : IfOk result (λ rmw. Answers old new rmw.time (ChangeOf key rmw.old rmw.change))
  -- answered or refused: it took the lock once
  pub lock : TakesLockOnce old.tally new.tally
  -- it gave up at most one time for each write of the key by another seat that came between
  pub spared : GivesUpForWrites old new key (changed_at result)
  -- refused: as put
  pub full : IfErr result (λ full. IsFull old new full.time)

-- the same where `Does` is promised of all but the change; `Makes value change`: it may be made of
-- the value
pub record MakesChange {E : Type 0} (Does : Result Rmw E → Type 0) (Makes : Option (List ℕ) → Change → Type 0) (result : Result Rmw E) : Type 0 where
  -- as above
  pub change : Does result
  -- the change was made of the old value
  pub answered : IfOk result (λ rmw. Makes rmw.old rmw.change)

-- rmw, where the function may answer the change to the value; add, by `Adds`, and put_if_absent, by
-- `PutsIfAbsent`, of `Changes.antt`
abbrev pub ChangesBy : SeatState → SeatState → ℕ → (Option (List ℕ) → Change → Type 0) → Result Rmw Full → Type 0
ChangesBy old new key Makes result = MakesChange (Changes old new key) Makes result

-- try_rmw and its kind, whatever they make of the key's value
pub record TriesToChange (old new : SeatState) (key : ℕ) (result : Result Rmw TryPutError) : Type 0 where
  -- as rmw
  pub changed : IfOk result (λ rmw. Answers old new rmw.time (ChangeOf key rmw.old rmw.change))
  -- it entered the lock once, or was refused it; it made one try there, which is counted if lost,
  -- and gave up at most one time then, else none
  pub counts : CountsTryChange 1 old new key result
  -- refused: as try_put
  pub refused : IfErr result (RefusesTry old new)

-- try_rmw; try_add and try_put_if_absent, as add and put_if_absent; try_replace, by `Replaces`
abbrev pub TriesToChangeBy : SeatState → SeatState → ℕ → (Option (List ℕ) → Change → Type 0) → Result Rmw TryPutError → Type 0
TriesToChangeBy old new key Makes result = MakesChange (TriesToChange old new key) Makes result

-- ---- reads of keys, and snapshots

-- get
pub record Gets (old new : SeatState) (key : ℕ) (result : Got) : Type 0 where
  -- one record more, of the value at this time
  pub answers : Answers old new result.time (Get key result.value)
  -- the time is the clock as the seat looked at it last
  pub clock : new.clock ≡ Some result.time
  -- it took no lock, lost no try and gave up no time
  pub lock : TakesNoLock old.tally new.tally

-- snapshot
pub record OpensSnapshot (old new : SeatState) (result : Result ℕ Open) : Type 0 where
  -- answered: one record more, and the snapshot is open at this time
  pub opened : IfOk result (λ time. Answers old new time Snapshot)
  -- as get
  pub clock : IfOk result (λ time. new.clock ≡ Some time)
  -- as get
  pub lock : IfOk result (λ time. TakesNoLock old.tally new.tally)
  -- refused: one was open, at this time, and nothing was done
  pub «open» : IfErr result (λ refusal. (new ≡ old) × (old.snapshot ≡ Some refusal.time))

-- close_snapshot
pub record ClosesSnapshot (old new : SeatState) (result : Option ℕ) : Type 0 where
  -- answered with the snapshot's time: one record more, and no snapshot is open
  pub closed : IfSome result (λ time. Answers old new time Close)
  -- none was open, and nothing was done
  pub none : IfNone result ((new ≡ old) × (old.snapshot ≡ None))
  -- it counted nothing
  pub lock : new.tally ≡ old.tally

-- get_at
pub record GetsAt (old new : SeatState) (key : ℕ) (result : Got) : Type 0 where
  -- one record more, of the value at the snapshot's time
  pub answers : Answers old new result.time (GetAt key result.value)
  -- it counted nothing
  pub lock : new.tally ≡ old.tally

-- get_many; `Tells place value`: the place tells the value of a key, or that it has none
pub record GetsMany {V : Type 0} (Tells : V → Option (List ℕ) → Type 0) (old new : SeatState) (keys : List ℕ) (places : List V)
    (time : ℕ) : Type 0 where
  -- each place tells the value of its key at this one time
  pub values : HoldValues Tells (known_by new) time keys places
  -- one record more, a get of the first key at this time; with no key, it read at its new due, which
  -- is this time, with no record
  pub recorded : MatchOption (slice_get keys 0) (IsUnrecorded old new × (new.due ≡ time))
      (λ key. Answers old new time (Get key (value (known_by new) key time)))
  -- it knows all below the time
  pub reached : time ≤ end_of (known_by new)
  -- as get
  pub clock : new.clock ≡ Some time
  -- as get
  pub lock : TakesNoLock old.tally new.tally

-- get_many_at
pub record GetsManyAt {V : Type 0} (Tells : V → Option (List ℕ) → Type 0) (old new : SeatState) (keys : List ℕ) (places : List V)
    (time : ℕ) : Type 0 where
  -- as get_many
  pub values : HoldValues Tells (known_by new) time keys places
  -- one record more, a get_at of the first key; with no key, nothing was done
  pub recorded : MatchOption (slice_get keys 0) (new ≡ old) (λ key. Answers old new time (GetAt key (value (known_by new) key time)))
  -- as get_many
  pub reached : time ≤ end_of (known_by new)
  -- the time is that of the open snapshot
  pub «open» : old.snapshot ≡ Some time
  -- it counted nothing
  pub lock : new.tally ≡ old.tally

-- ---- reads of many keys

-- scan
pub record Scans (old new : SeatState) (lo hi : ℕ) (result : Result Scan Memory) : Type 0 where
  -- answered: one record more, of the rows at this time
  pub answers : IfOk result (λ scan. Answers old new scan.time (ScanOf lo hi scan.rows))
  -- unless a snapshot is open, the time is the clock as the seat looked at it last
  pub clock : IfOk result (λ scan. IsAtClock old new scan.time)
  -- as get
  pub lock : TakesNoLock old.tally new.tally
  -- refused for memory: no record more
  pub refused : IfErr result (λ refusal. Refuses old new)

-- page
pub record GivesPage (old new : SeatState) (from hi max : ℕ) (result : Result Page Memory) : Type 0 where
  -- answered: one record more, of the page at this time
  pub answers : IfOk result (λ page. Answers old new page.time (page_deed from hi max page.rows page.more))
  -- as scan
  pub clock : IfOk result (λ page. IsAtClock old new page.time)
  -- as get
  pub lock : TakesNoLock old.tally new.tally
  -- as scan
  pub refused : IfErr result (λ refusal. Refuses old new)

-- page_into; `pair` is what a row holds that is filled, and `IsRow` what else is said of it
pub record FillsPage {R : Type 0} (pair : R → Pair) (IsRow : R → Type 0) (old new : SeatState) (from hi : ℕ) (before after : List R)
    (result : Filled) : Type 0 where
  -- one record more, of the page of as many pairs as there are rows: those of the filled ones
  pub answers : Answers old new result.time (page_deed from hi (length before) (map pair (take result.rows after)) result.more)
  -- as scan
  pub clock : IsAtClock old new result.time
  -- as get
  pub lock : TakesNoLock old.tally new.tally
  -- so many rows are filled
  pub filled : AreFilled IsRow after result.rows
  -- and the others are as before
  pub rest : drop result.rows after ≡ drop result.rows before

-- next_page, of `Caller` alone; it takes the pages from `before` to `after`
pub record GivesNextPage (old new : SeatState) (before after : Pages) (result : Result (Option Page) Memory) : Type 0 where
  -- answered: the page where they stood, and they stand behind it; or nothing if none was left
  pub read : IfOk result (ReadsNext old new before after)
  -- as get
  pub lock : TakesNoLock old.tally new.tally
  -- as scan
  pub refused : IfErr result (λ refusal. Refuses old new)
  -- refused: the pages stand where they stood
  pub stands : IfErr result (λ refusal. after ≡ before)

-- scan_now
pub record ScansAnew (old new : SeatState) (lo hi : ℕ) (result : Result Scan Memory) : Type 0 where
  -- answered: the rows at the clock, also while a snapshot is open; recorded as a get of `lo`
  pub scans : IfOk result (λ scan. ScansNow old new scan.time lo hi scan.rows)
  -- as get
  pub lock : TakesNoLock old.tally new.tally
  -- as scan
  pub refused : IfErr result (λ refusal. Refuses old new)

-- count
pub record CountsRange (old new : SeatState) (lo hi : ℕ) (result : Counted) : Type 0 where
  -- it answers how many keys have a value, and the first of them; recorded as a page of no rows
  pub counts : CountsKeys old new result.time lo hi result.keys result.first
  -- as get
  pub lock : TakesNoLock old.tally new.tally

-- visit; its function went from the state `before` to `after`
pub record VisitsRange {F : Type 0} (Calls : F → Pair → F → Type 0) (IsCallable : F → Type 0) (old new : SeatState) (lo hi : ℕ)
    (before after : F) (result : Counted) : Type 0 where
  -- as count; and the function was called once with each row, by rising key, and not otherwise
  pub visits : VisitsKeys Calls old new result.time lo hi result.keys result.first before after
  -- and it may be called again
  pub callable : IsCallable after
  -- as get
  pub lock : TakesNoLock old.tally new.tally

-- page_down_into; `pair` and `IsRow` as in page_into
pub record FillsPageDown {R : Type 0} (pair : R → Pair) (IsRow : R → Type 0) (old new : SeatState) (lo hi : ℕ) (before after : List R)
    (result : Filled) : Type 0 where
  -- the filled rows are the greatest keys by falling key, and `more` is the next; recorded as count
  pub reads : ReadsDown old new result.time lo hi (length before) (map pair (take result.rows after)) result.more
  -- as get
  pub lock : TakesNoLock old.tally new.tally
  -- as page_into
  pub filled : AreFilled IsRow after result.rows
  -- as page_into
  pub rest : drop result.rows after ≡ drop result.rows before

-- first
pub record FindsFirst (old new : SeatState) (lo hi : ℕ) (result : FoundRow) : Type 0 where
  -- recorded as a page of one row, and of the key of the next; or of none
  pub more : Option ℕ
  pub answers : Answers old new result.time (page_deed lo hi 1 (option_to_list result.row) more)
  -- the row is the first of the range at this time; or no key of it has a value
  pub row : MatchOption result.row (HasNoRow (known_by new) result.time lo hi) (IsFirst (known_by new) result.time lo hi)
  -- it knows all below the time
  pub reached : result.time ≤ end_of (known_by new)
  -- as scan
  pub clock : IsAtClock old new result.time
  -- as get
  pub lock : TakesNoLock old.tally new.tally

-- last
pub record FindsLast (old new : SeatState) (lo hi : ℕ) (result : FoundRow) : Type 0 where
  -- recorded as count: as a page of no rows, and of the range's first key
  pub first : Option ℕ
  pub answers : Answers old new result.time (page_deed lo hi 0 [] first)
  -- the row is the last of the range at this time; or no key of it has a value
  pub row : MatchOption result.row (HasNoRow (known_by new) result.time lo hi) (IsLast (known_by new) result.time lo hi)
  -- as first
  pub reached : result.time ≤ end_of (known_by new)
  -- as scan
  pub clock : IsAtClock old new result.time
  -- as get
  pub lock : TakesNoLock old.tally new.tally

-- ---- how seats come to know of one another

-- tell
pub record Tells (store : StoreId) (old new : SeatState) (result : MessageState) : Type 0 where
  -- the seat stays as it was
  pub seat : new ≡ old
  -- the message is for the seats of this store
  pub table : result.table ≡ store.table
  -- it carries all that the seat knows
  pub told : told_by result ≡ known_by old
  -- and its due
  pub due : result.heard ≡ old.due

-- hear
pub record Hears (message : MessageState) (old new : SeatState) (result : ℕ) : Type 0 where
  -- the time is not below the seat's due
  pub above : old.due ≤ result
  -- nor below that which the message carries
  pub above_told : message.heard ≤ result
  -- it read at its new due, which is the clock as it looked at it last, with no record
  pub seat : IsUnrecorded old new
  -- that due is the time
  pub time : new.due ≡ result
  -- it knows what it was told
  pub begins : IsBeginning (told_by message) (known_by new)

-- meet, of `Store` alone; it takes one seat from `first` to `first'`, the other from `second` to
-- `second'`
pub record LetsMeet (first first' second second' : SeatState) (result : ℕ) : Type 0 where
  -- the time is not below the due of the one
  pub above : first.due ≤ result
  -- nor below that of the other
  pub above_other : second.due ≤ result
  -- the one read at this time or later, with no record
  pub one : Meets result first first'
  -- and so the other
  pub other : Meets result second second'
  -- the time is the new due of the one
  pub time : first'.due ≡ result
  -- the other knows all that the one knows
  pub begins : IsBeginning (known_by first') (known_by second')

-- ---- calls as values

-- play
pub record Plays (call : Call) (old new : SeatState) (result : Answer) : Type 0 where
  -- answered as the method of the call's name answers
  pub plays : PlaysCall call old new result
  -- it counted what that method counts
  pub counts : CountsCall call old new result
  -- a read's time is that of the method
  pub clock : ReadsAtClock call old new result
  -- answered that memory ran out: no record more
  pub memory : WantsMemory result → Refuses old new
  -- it is the same seat, which forgot nothing
  pub same : IsSameSeat old new

-- get_at as it is played, and as a session makes it: it asks for no open snapshot
pub record GetsAtIfOpen (old new : SeatState) (key : ℕ) (result : Option Got) : Type 0 where
  -- answered: as get_at
  pub answers : IfSome result (λ got. Answers old new got.time (GetAt key got.value))
  -- no snapshot was open, and nothing was done
  pub none : IfNone result ((new ≡ old) × (old.snapshot ≡ None))
  -- it counted nothing
  pub lock : new.tally ≡ old.tally

-- get_many_at as a session makes it, and the library for C: it asks for no open snapshot
pub record GetsManyAtIfOpen {V : Type 0} (Tells : V → Option (List ℕ) → Type 0) (old new : SeatState) (keys : List ℕ) (before after : List V)
    (result : Option ℕ) : Type 0 where
  -- answered: as get_many_at
  pub answers : IfSome result (GetsManyAt Tells old new keys after)
  -- no snapshot was open, and nothing was done
  pub none : IfNone result ((new ≡ old) × (old.snapshot ≡ None) × (after ≡ before))

-- ---- the merger

-- freeze
pub record FreezesEpoch (old : CleanState) (result : Result FrozenState (CleanState × Worn)) : Type 0 where
  -- frozen: it held the lock once, and may have found it held before; the store, the number of
  -- merges and what it knows of its looks at the clock are as before
  pub frozen : IfOk result (λ frozen. frozen.merger ≡ record old.merger { holds = next_word old.merger.holds; busy = frozen.merger.busy })
  -- and so are the floor and the rounds
  pub floor : IfOk result (λ frozen. (frozen.floor ≡ old.floor) × (frozen.rounds ≡ old.rounds))
  -- and no time is noted, as no round was made for this epoch yet
  pub noted : IfOk result (λ frozen. frozen.noted ≡ None)
  -- refused: the next limit would pass 2^62, and nothing was done
  pub worn : IfErr result (λ refused. (refused.0 ≡ old) × (2 ^ 62 < (old.merger.merges + 2) * old.merger.store.layout.cells))

-- a try to freeze was refused: a caller held the lock, which is counted, and nothing was done; or
-- the next limit would pass 2^62
abbrev pub RefusesFreeze : CleanState → CleanState → TryFreezeError → Type 0
RefusesFreeze old new Busy = IsKeptOut old new
RefusesFreeze old new (WornToo _) = (new ≡ old) × (2 ^ 62 < (old.merger.merges + 2) * old.merger.store.layout.cells)

-- try_freeze
pub record TriesToFreezeEpoch (old : CleanState) (result : Result FrozenState (CleanState × TryFreezeError)) : Type 0 where
  -- as freeze, and it never found the lock held
  pub frozen : IfOk result (λ frozen. frozen.merger ≡ record old.merger { holds = next_word old.merger.holds })
  -- as freeze
  pub floor : IfOk result (λ frozen. (frozen.floor ≡ old.floor) × (frozen.rounds ≡ old.rounds))
  -- as freeze
  pub noted : IfOk result (λ frozen. frozen.noted ≡ None)
  -- refused: as freeze, or its one try found the lock held by a caller, and nothing was done
  pub refused : IfErr result (λ refused. RefusesFreeze old refused.0 refused.1)

-- meet, of a frozen epoch; it takes the seat from `before` to `after`
pub record MeetsSeat (old new : FrozenState) (before after : SeatState) : Type 0 where
  -- the token stays as it was
  pub token : new ≡ old
  -- and so does the seat
  pub seat : after ≡ before
  -- the epoch's writes and the runs are those of a history that begins with what the seat knows
  pub agrees : AgreesWith before.past old

-- entries, of the run that is searched at this turn
pub record CountsEntries (old new : FrozenState) (turn entries : ℕ) : Type 0 where
  -- the token stays as it was
  pub token : new ≡ old
  -- the run has so many; there are none where there are fewer runs
  pub entries_of : entries ≡ length (row_at old.runs turn)

-- merge
pub record MergesEpoch (old : FrozenState) (result : Result RetiredState (FrozenState × RunFull)) : Type 0 where
  -- merged: one merge more
  pub retired : IfOk result (λ retired. retired.merger ≡ record old.merger { merges = old.merger.merges + 1 })
  -- and no seat was looked at yet for what this retired
  pub unseen : IfOk result (λ retired. retired.readers ≡ replicate old.merger.store.layout.seats unseen)
  -- it took a floor, in one round of looks
  pub floor : IfOk result (λ retired. TakesFloor old retired.floor retired.rounds retired.noted)
  -- by which there was room
  pub fits : IfOk result (λ retired. IsRunFull old retired.floor → ⊥)
  -- refused: but for the floor, the rounds and the time noted, the token is as it was
  pub frozen : IfErr result (λ refused. refused.0 ≡ record old { floor = refused.0.floor; rounds = refused.0.rounds; noted = refused.0.noted })
  -- it took a floor then, too
  pub refloored : IfErr result (λ refused. TakesFloor old refused.0.floor refused.0.rounds refused.0.noted)
  -- by which there was no room
  pub full : IfErr result (λ refused. IsRunFull old refused.0.floor)

-- reclaim
pub record ReclaimsRetired (old : RetiredState) (result : Result CleanState (RetiredState × Pinned)) : Type 0 where
  -- reclaimed: the store, the number of merges, the counts, the floor and the rounds are as before
  pub clean : IfOk result (λ clean. clean ≡ record {
    merger = old.merger;
    floor = old.floor;
    rounds = old.rounds;
    readers = clean.readers;
  })
  -- and each seat was found quiet, by one look
  pub quiet : IfOk result (λ clean. AreAllQuiet old.readers clean.readers)
  -- refused: but for what was seen of the seats, the token is as it was
  pub retired : IfErr result (λ refused. refused.0 ≡ record old { readers = refused.0.readers })
  -- the seat that is named was looked at and not found quiet; all lower ones are
  pub pinned : IfErr result (λ refused. IsLowestLoud old.readers refused.0.readers refused.1.0)

-- ---- elsewhere

-- `room`: `FindsRoom` in `Looking.antt` of clsm_store_calls. `settle`: `AreMet` in `Meetings.antt`,
-- and `IsWholeHistory` in `Headline.antt`. The calls of a `Merger`, which may be in any phase, and
-- its sweeps: `Phase.antt`, `Freezing.antt` and `Sweeping.antt`.

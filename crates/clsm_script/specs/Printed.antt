-- What a script prints: the line of each answer.
use Rattle.std.specs.Prelude.{ℕ, List, ◌++◌, codes, Option, Some, None, Ok, Err}
use Rattle.std.specs.Fmt.{decimal}
use Rattle.clsm_model.specs.Value.{text}
use Rattle.clsm_model.specs.declared.slot.Change.{Change}
use Rattle.clsm_model.specs.declared.slot.Change.TheVariants.{Keep, Set, Remove}
use Rattle.clsm_audit.specs.Numbers.{name_of}
use Rattle.clsm_audit.specs.declared.fault.AuditError.TheVariants as audits
use Rattle.clsm_store.specs.declared.phase.FreezeError.TheVariants as freezes
use Rattle.clsm_store.specs.declared.phase.MergeError.TheVariants as merges
use Rattle.clsm_store.specs.declared.phase.ReclaimError.TheVariants as reclaims
use Rattle.clsm_store.specs.declared.play.answer.Answer.{Answer as CallAnswer}
use Rattle.clsm_store.specs.declared.play.answer.Answer.TheVariants as calls
use Rattle.clsm_store_calls.specs.declared.refusal.BatchError.{BatchError}
use Rattle.clsm_store_calls.specs.declared.refusal.BatchError.TheVariants as batches
use Rattle.clsm_store_calls.specs.declared.refusal.TryPutError.{TryPutError}
use Rattle.clsm_store_calls.specs.declared.refusal.TryPutError.TheVariants as tries
use Rattle.clsm_text.specs.Written.{more_words, reply_text, shown_rows, spaced}
use Rattle.clsm_script.specs.declared.answer.Answer.{Answer}
use Rattle.clsm_script.specs.declared.answer.Answer.TheVariants.{Call, Seat, Meet, Audit}
use Rattle.clsm_script.specs.declared.answer.Answer.TheVariants.{Freeze, Merge, Reclaim}

-- a time
abbrev pub time_text : ℕ → List ℕ
time_text time = codes "@" ++ decimal time

-- the limit at which there was no room
abbrev pub full_text : ℕ → List ℕ
full_text time = codes "full " ++ time_text time

-- what a key had at a time
abbrev pub read_text : Option (List ℕ) → ℕ → List ℕ
read_text value time = reply_text value ++ codes " " ++ time_text time

-- what a read-modify-write found, and what it made of that
abbrev pub change_text : Change → Option (List ℕ) → ℕ → List ℕ
change_text Keep old time = codes "kept " ++ read_text old time
change_text (Set value) old time =
    codes "old " ++ reply_text old ++ codes " new " ++ text value ++ codes " " ++ time_text time
change_text Remove old time =
    codes "old " ++ reply_text old ++ codes " new none " ++ time_text time

-- why a try wrote nothing
abbrev pub try_refusal_text : TryPutError → List ℕ
try_refusal_text (tries.Full time) = full_text time
try_refusal_text tries.Busy = codes "busy"
try_refusal_text tries.Raced = codes "raced"
try_refusal_text tries.Overtaken = codes "overtaken"

-- why a batch wrote nothing
abbrev pub batch_refusal_text : BatchError → List ℕ
batch_refusal_text (batches.Full time) = full_text time
batch_refusal_text batches.TooLong = codes "too long"
batch_refusal_text batches.Empty = codes "empty"
batch_refusal_text batches.Keep = codes "keep"

-- what a call is answered
abbrev pub call_text : CallAnswer → List ℕ
call_text (calls.Write (Ok time)) = time_text time
call_text (calls.Write (Err full)) = full_text full.time
call_text (calls.Try (Ok time)) = time_text time
call_text (calls.Try (Err refusal)) = try_refusal_text refusal
call_text (calls.Batch (Ok time)) = time_text time
call_text (calls.Batch (Err refusal)) = batch_refusal_text refusal
call_text (calls.Change (Ok rmw)) = change_text rmw.change rmw.old rmw.time
call_text (calls.Change (Err full)) = full_text full.time
call_text (calls.Read got) = read_text got.value got.time
call_text (calls.ReadAt (Some got)) = read_text got.value got.time
call_text (calls.ReadAt None) = codes "no snapshot"
call_text (calls.Snapshot (Ok time)) = codes "snap " ++ time_text time
call_text (calls.Snapshot (Err refusal)) = codes "open " ++ time_text refusal.time
call_text (calls.Close (Some time)) = codes "closed " ++ time_text time
call_text (calls.Close None) = codes "no snapshot"
call_text (calls.Scan (Ok scan)) = shown_rows scan.rows ++ codes " " ++ time_text scan.time
call_text (calls.Scan (Err memory)) = codes "memory"
call_text (calls.Page (Ok page)) =
    shown_rows page.rows ++ codes " " ++ time_text page.time ++ spaced (more_words page.more)
call_text (calls.Page (Err memory)) = codes "memory"

-- what a command is answered
abbrev pub answer_text : Answer → List ℕ
answer_text (Call answer) = call_text answer
answer_text (Seat (Some number)) = codes "seat " ++ decimal number
answer_text (Seat None) = codes "no seat"
answer_text (Meet (Some time)) = codes "met " ++ time_text time
answer_text (Meet None) = codes "no seat"
answer_text (Audit (Ok _)) = codes "audit ok"
answer_text (Audit (Err (audits.Fault kind index))) =
    codes "audit fault " ++ name_of kind ++ codes " " ++ decimal index
answer_text (Audit (Err audits.Memory)) = codes "memory"
answer_text (Freeze (Ok epoch)) = codes "frozen " ++ decimal epoch
answer_text (Freeze (Err freezes.NotClean)) = codes "not clean"
answer_text (Freeze (Err (freezes.Worn _))) = codes "worn"
answer_text (Merge (Ok count)) = codes "merged " ++ decimal count
answer_text (Merge (Err merges.NotFrozen)) = codes "not frozen"
answer_text (Merge (Err (merges.RunFull _))) = codes "run full"
answer_text (Reclaim (Ok _)) = codes "clean"
answer_text (Reclaim (Err reclaims.NotRetired)) = codes "not retired"
answer_text (Reclaim (Err (reclaims.Pinned pinned))) = codes "pinned " ++ decimal pinned.0

-- a text as a line
abbrev pub line_of : List ℕ → List ℕ
line_of printed = printed ++ codes "\n"

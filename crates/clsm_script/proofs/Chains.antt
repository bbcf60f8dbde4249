-- The lines of a script are played one after another.
use Rattle.std.proofs.Common.{◌≡◌, ◌∙◌, ◌+◌, ℕ, suc, List, [], ◌∷◌, ◌++◌, take, drop}
use Rattle.std.proofs.Common.{Bool, true, false, Option, Some, None, Ok, Err, IfSome, All, refl, sym, ap, subst, inl, inr, arith, add-one, append-nil}
use Rattle.std.proofs.Math.Seq.{take-suc}
use Rattle.std.proofs.lemmas.List.{take-append-drop}
use Rattle.clsm_audit.specs.Faults.{IsFirstFault}
use Rattle.clsm_audit.specs.declared.fault.AuditError.TheVariants as audits
use Rattle.clsm_store.specs.declared.phase.Phase.{Phase}
use Rattle.clsm_store.specs.declared.play.call.Call.{Call}
use Rattle.std.specs.Io.KnownBytes.{Appends, prepend_known}
use Rattle.std.proofs.KnownBytes.{Appends-nil, Appends-trans}
use Rattle.std.specs.Prelude.{◌≢◌, ◌==◌, if◌then◌else◌, IfErr, IsErrAnd, OnOk, Result, ⊤}
use Rattle.clsm_model.specs.Config.{IsSound}
use Rattle.clsm_model.specs.declared.config.Config.{Config}
use Rattle.clsm_store_audit.specs.Settled.{HaveWholeHistory}
use Rattle.clsm_store_calls.specs.Seats.{StoreId}
use Rattle.clsm_text.specs.Failure.{StopsReading, status_of}
use Rattle.clsm_text.specs.Input.{first_line}
use Rattle.clsm_text.specs.Line.{lines_of, words_of, IsComment}
use Rattle.clsm_text.specs.Taken.{TakesLine}
use Rattle.clsm_text.proofs.Inputs.{IsEmpty, LeadsTo, Tells, inside, leads_over, line_at, reads_next}
use Rattle.clsm_script.specs.Answer.{IsFault, WantsMemory}
use Rattle.clsm_script.specs.Command.{IsCommand}
use Rattle.clsm_script.specs.Line.{Reads}
use Rattle.clsm_script.specs.Lines.{EndsPlay, IsNewStage, IsPlayedOn, Outputs, PlayLines, PlaysCommand, PlaysLine, Stage}
use Rattle.clsm_script.specs.Lines.{outputs_of, stage_of}
use Rattle.clsm_script.specs.Play.{Plays, PrintsCall, Turns}
use Rattle.clsm_script.specs.Printed.{answer_text, call_text, line_of}
use Rattle.clsm_script.specs.Script.{IsStatus, StopsLine, StopsPlay, StopsScript}
use Rattle.clsm_script.specs.Session.{IsFaulted, IsSession}
use Rattle.clsm_text.specs.declared.failure.Failure.{Failure}
use Rattle.clsm_text.specs.declared.failure.Failure.TheVariants.{BadLine, Device, Fault, Refused, Memory}
use Rattle.clsm_script.specs.declared.answer.Answer.{Answer}
use Rattle.clsm_script.specs.declared.answer.Answer.TheVariants as answers
use Rattle.clsm_script.specs.declared.command.Command.{Command}
use Rattle.clsm_script.specs.declared.command.Command.TheVariants as commands
use Rattle.clsm_script.specs.declared.session.Session.{Session}
use Rattle.clsm_script.proofs.Readings.{reads_whole}

-- ---- chains of lines

-- with one line more
play_more : (lines : List (List ℕ)) (line : List ℕ) (a b c : Stage) → PlayLines lines a b → PlaysLine line b c → PlayLines (lines ++ line ∷ []) a c
play_more [] line a b c played one = (c, subst (λ (s : Stage). PlaysLine line s c) played one, refl)
play_more (l ∷ ls) line a b c played one = (played.0, played.1, play_more ls line played.0 b c played.2 one)

-- the one chain behind the other
play_append : (xs ys : List (List ℕ)) (a b c : Stage) → PlayLines xs a b → PlayLines ys b c → PlayLines (xs ++ ys) a c
play_append [] ys a b c front back = subst (λ (s : Stage). PlayLines ys s c) front back
play_append (x ∷ xs) ys a b c front back = (front.0, front.1, play_append xs ys front.0 b c front.2 back)

-- empty lines say nothing
play_empty : (lines : List (List ℕ)) (a : Stage) → All IsEmpty lines → PlayLines lines a a
play_empty [] a empty = refl
play_empty (l ∷ ls) a empty =
    let none : l ≡ [] = empty 0 l (omega arith) in
    (a, inl (subst (λ (line : List ℕ). IsComment (words_of line)) (sym none) tt, refl), play_empty ls a (λ i d lt. empty (suc i) d (omega arith)))

-- ---- what a line that was read says is played

-- what was read of a line is played
abbrev pub PlaysSaid : Option Command → Stage → Stage → Type 0
PlaysSaid None old new = new ≡ old
PlaysSaid (Some command) old new = PlaysCommand command old new

plays_said : (line : List ℕ) (said : Option Command) (old new : Stage) → Reads line (Ok said) → PlaysSaid said old new → PlaysLine line old new
plays_said line None old new comment same = inl (comment, same)
plays_said line (Some command) old new reads plays = inr (command, reads.2, plays)

-- so many lines are played
abbrev pub PlayTo : Option (List ℕ) → ℕ → Stage → Stage → Type 0
PlayTo input count old new = IfSome input (λ bytes. PlayLines (take count (lines_of bytes)) old new)

pub play_start : (input : Option (List ℕ)) (a : Stage) → PlayTo input 0 a a
play_start None a = tt
play_start (Some bytes) a = refl

-- one line more
pub plays_on : (old now new : Option (List ℕ)) (line text : List ℕ) (said : Option Command) (found : Bool) (count : ℕ) (start a b : Stage)
    → LeadsTo IsCommand old now count → Tells now found → found ≡ true → IfSome now (λ bytes. TakesLine bytes line new) → text ≡ line
    → Reads text (Ok said) → PlayTo old count start a → PlaysSaid said a b → (after : ℕ) → after ≡ count + 1 → PlayTo old after start b
plays_on None now new line text said found count start a b leads tells some takes is reads played plays after same = tt
plays_on (Some bytes) None new line text said found count start a b leads tells some takes is reads played plays after same = absurd leads
plays_on (Some bytes) (Some now) new line text said found count start a b leads tells some takes is reads played plays after same =
    let whole = first_line now in
    let read = reads_whole (first_line now) line said takes.stands (subst (λ (l : List ℕ). Reads l (Ok said)) is reads) in
    let next = reads_next IsCommand bytes now found count leads tells some in
    let lines = lines_of bytes in
    let here = inside IsCommand lines count whole next.0 next.1 in
    let front : take after lines ≡ take count lines ++ whole ∷ [] =
    ap (λ k. take k lines) (same ∙ add-one count) ∙ take-suc lines count [] here
    ∙ ap (λ l. take count lines ++ l ∷ []) (line_at IsCommand lines count whole next.0 next.1 []) in
    subst (λ (ls : List (List ℕ)). PlayLines ls start b) (sym front)
    (play_more (take count lines) whole start a b played (plays_said whole said a b read plays))

-- ---- what is printed

-- so many lines are played, and what they print stands behind what the output held
pub record PrintTo (input : Option (List ℕ)) (count : ℕ) (start : Stage) (session : Session) (phase : Phase) (outputs : Outputs) : Type 0 where
  pub printed : List ℕ
  pub plays : PlayTo input count start (stage_of session phase printed)
  pub appended : Appends outputs.before outputs.after printed

pub print_start : (input : Option (List ℕ)) (a : Session) (p : Phase) (output : Option (List ℕ))
    → PrintTo input 0 (stage_of a p []) a p (outputs_of output output)
print_start input a p output = record { printed = []; plays = play_start input (stage_of a p []); appended = Appends-nil output }

-- what was read of a line is played, and what that prints stands behind what the output held
pub record PrintsSaid (said : Option Command) (a b : Session) (p q : Phase) (now new : Option (List ℕ)) : Type 0 where
  pub more : List ℕ
  pub plays : (printed : List ℕ) → PlaysSaid said (stage_of a p printed) (stage_of b q (printed ++ more))
  pub appended : Appends now new more

pub prints_nothing : (said : Option Command) (a : Session) (p : Phase) (output : Option (List ℕ)) → said ≡ None
    → PrintsSaid said a a p p output output
prints_nothing said a p output none = record {
  more = [];
  plays = λ printed. subst (λ (o : Option Command). PlaysSaid o (stage_of a p printed) (stage_of a p (printed ++ []))) (sym none)
      (ap (stage_of a p) (append-nil printed));
  appended = Appends-nil output;
}

pub prints_call : (said : Option Command) (call : Call) (a b : Session) (p : Phase) (now new : Option (List ℕ)) → PrintsCall call a b now new
    → said ≡ Some (commands.Call call) → PrintsSaid said a b p p now new
prints_call said call a b p now new (answer, calls, is_made, appended) is = record {
  more = line_of (call_text answer);
  plays = λ printed. subst (λ (o : Option Command). PlaysSaid o (stage_of a p printed) (stage_of b p (printed ++ line_of (call_text answer)))) (sym is)
      (record { answer = answers.Call answer; plays = calls; turns = refl; prints = refl; goes_on = λ fault. fault; is_made = is_made });
  appended = appended;
}

pub prints_command : (said : Option Command) (command : Command) (a b : Session) (p q : Phase) (answer : Answer) (now new : Option (List ℕ))
    → Plays command a b answer → Turns command p q answer → ¬ IsFault answer → ¬ WantsMemory answer → Appends now new (line_of (answer_text answer))
    → said ≡ Some command
    → PrintsSaid said a b p q now new
prints_command said command a b p q answer now new plays turns goes_on is_made appended is = record {
  more = line_of (answer_text answer);
  plays = λ printed. subst (λ (o : Option Command). PlaysSaid o (stage_of a p printed) (stage_of b q (printed ++ line_of (answer_text answer)))) (sym is)
      (record { answer = answer; plays = plays; turns = turns; prints = refl; goes_on = goes_on; is_made = is_made });
  appended = appended;
}

-- one line more
pub prints_on : (old now new : Option (List ℕ)) (line text : List ℕ) (said : Option Command) (found : Bool) (count : ℕ) (start : Stage) (a b : Session)
    (p q : Phase) (held given given_now : Option (List ℕ)) → LeadsTo IsCommand old now count → Tells now found → found ≡ true
    → IfSome now (λ bytes. TakesLine bytes line new) → text ≡ line → Reads text (Ok said) → PrintTo old count start a p (outputs_of held given)
    → PrintsSaid said a b p q given given_now → (after : ℕ) → after ≡ count + 1 → PrintTo old after start b q (outputs_of held given_now)
prints_on old now new line text said found count start a b p q held given given_now leads tells some takes is reads to prints after same = record {
  printed = to.printed ++ prints.more;
  plays = plays_on old now new line text said found count start (stage_of a p to.printed) (stage_of b q (to.printed ++ prints.more)) leads tells some takes
      is reads to.plays (prints.plays to.printed) after same;
  appended = Appends-trans held given given_now to.printed prints.more to.appended prints.appended;
}

-- no line is left
pub prints_over : (old now : Option (List ℕ)) (found : Bool) (count : ℕ) (start : Stage) (session : Session) (phase : Phase) (outputs : Outputs)
    → LeadsTo IsCommand old now count → Tells now found → found ≡ false → PrintTo old count start session phase outputs
    → IfSome old (EndsPlay start session outputs)
prints_over None now found count start session phase outputs leads tells none to = tt
prints_over (Some bytes) None found count start session phase outputs leads tells none to = absurd leads
prints_over (Some bytes) (Some now) found count start session phase outputs leads tells none to =
    let lines = lines_of bytes in
    let end = stage_of session phase to.printed in
    let whole = play_append (take count lines) (drop count lines) start end end to.plays
    (play_empty (drop count lines) end (leads_over IsCommand bytes now found count leads tells none)) in
    record {
      phase = phase;
      printed = to.printed;
      played = subst (λ (ls : List (List ℕ)). PlayLines ls start end) (take-append-drop count lines) whole;
      appended = to.appended;
    }

-- ---- faults

-- only an audit answers a fault
pub fault_found : (store : StoreId) (command : Command) (old new : Session) (p q : Phase) (answer : Answer) → Plays command old new answer
    → Turns command p q answer → IsFault answer → IsSession store new → IsFaulted store new
fault_found store commands.Audit old new p q (answers.Audit (Err (audits.Fault kind index))) plays turns fault is = record {
  of_store = is;
  kind = kind;
  index = index;
  fault = subst (λ (s : Session). IsFirstFault s.config s.records kind index) (sym plays.0) plays.1;
}
fault_found store (commands.Call call) old new p q (answers.Audit (Err (audits.Fault kind index))) plays turns fault is = absurd plays
fault_found store (commands.Seat number) old new p q (answers.Audit (Err (audits.Fault kind index))) plays turns fault is = absurd plays
fault_found store (commands.Meet number) old new p q (answers.Audit (Err (audits.Fault kind index))) plays turns fault is = absurd plays
fault_found store commands.Freeze old new p q (answers.Audit (Err (audits.Fault kind index))) plays turns fault is = absurd turns
fault_found store commands.Merge old new p q (answers.Audit (Err (audits.Fault kind index))) plays turns fault is = absurd turns
fault_found store commands.Reclaim old new p q (answers.Audit (Err (audits.Fault kind index))) plays turns fault is = absurd turns
fault_found store command old new p q (answers.Audit (Err audits.Memory)) plays turns fault is = absurd fault
fault_found store command old new p q (answers.Audit (Ok done)) plays turns fault is = absurd fault
fault_found store command old new p q (answers.Call answer) plays turns fault is = absurd fault
fault_found store command old new p q (answers.Seat taken) plays turns fault is = absurd fault
fault_found store command old new p q (answers.Meet time) plays turns fault is = absurd fault
fault_found store command old new p q (answers.Freeze answer) plays turns fault is = absurd fault
fault_found store command old new p q (answers.Merge answer) plays turns fault is = absurd fault
fault_found store command old new p q (answers.Reclaim answer) plays turns fault is = absurd fault

-- what stops an answer's line stops the play
pub stops_after : (store : StoreId) (input : Option (List ℕ)) (session : Session) (failure : Failure) → StopsLine failure
    → (failure ≡ Fault → IsFaulted store session) → StopsPlay store input session failure
stops_after store input session (BadLine number) stops fault = absurd stops
stops_after store input session Device stops fault = tt
stops_after store input session Fault stops fault = fault refl
stops_after store input session (Refused error) stops fault = absurd stops
stops_after store input session Memory stops fault = tt

-- what `?` makes of a failure
pub stops_residual : {T : Type 0} (x : Result T Failure) (store : StoreId) (input : Option (List ℕ)) (session : Session) (failure : Failure)
    → StopsLine failure → (failure ≡ Fault → IsFaulted store session) → IsErrAnd x (λ y. y ≡ failure) → IfErr x (StopsPlay store input session)
stops_residual (Ok x) store input session failure stops fault is = tt
stops_residual (Err y) store input session failure stops fault is =
    subst (StopsPlay store input session) (sym is) (stops_after store input session failure stops fault)

-- ---- the end of a script

-- the play of an input is a play on a new store
ends_on : (config : Config) (start : Stage) (session : Session) (outputs : Outputs) (input : Option (List ℕ)) → IsNewStage config start
    → HaveWholeHistory session.seats.items → IfSome input (EndsPlay start session outputs) → IfSome input (IsPlayedOn config outputs)
ends_on config start session outputs None is_new lawful ends = tt
ends_on config start session outputs (Some bytes) is_new lawful ends =
    record { old = start; session = session; is_new = is_new; ends = ends; lawful = lawful }

pub ended_played : (config : Config) (start : Stage) (session : Session) (held given bytes input : Option (List ℕ)) (ended : Result ⊤ Failure)
    → IsNewStage config start → bytes ≡ input → OnOk ended (HaveWholeHistory session.seats.items)
    → OnOk ended (IfSome bytes (EndsPlay start session (outputs_of held given))) → OnOk ended (IfSome input (IsPlayedOn config (outputs_of held given)))
ended_played config start session held given bytes input (Err failure) is_new same lawful ends = tt
ended_played config start session held given bytes input (Ok done) is_new same lawful ends =
    ends_on config start session (outputs_of held given) input is_new lawful
    (subst (λ (b : Option (List ℕ)). IfSome b (EndsPlay start session (outputs_of held given))) same ends)

-- an audit's fault stops a play
pub stopped_fault : (played : Result ⊤ Failure) (store : StoreId) (session : Session) (bytes : Option (List ℕ))
    → IfErr played (StopsPlay store bytes session) → played ≡ Err Fault → IsFaulted store session
stopped_fault played store session bytes stops is = subst (λ (r : Result ⊤ Failure). IfErr r (StopsPlay store bytes session)) is stops

module _ (played : Result ⊤ Failure) (store : StoreId) (config : Config) (session : Session) (bytes input : Option (List ℕ)) (same : bytes ≡ input)
    (sound : IsSound config) (stops : IfErr played (StopsPlay store bytes session)) where
  stops_script : (failure : Failure) → failure ≢ Fault → StopsPlay store bytes session failure → StopsScript config input failure
  stops_script Device other why = (sound, tt)
  stops_script Memory other why = (sound, tt)
  stops_script Fault other why = absurd (other refl)
  stops_script (Refused error) other why = absurd why
  stops_script (BadLine number) other why = (
    sound,
    subst (λ (b : Option (List ℕ)). StopsReading IsCommand b (BadLine number)) same why,
  )

  by_result : (r : Result ⊤ Failure) → r ≢ Err Fault → IfErr r (StopsPlay store bytes session) → IfErr r (StopsScript config input)
  by_result (Ok done) faultless why = tt
  by_result (Err failure) faultless why = stops_script failure (λ e. faultless (ap Err e)) why

  pub ended_stops : played ≢ Err Fault → IfErr played (StopsScript config input)
  ended_stops faultless = by_result played faultless stops

-- the status of what stops a script is not that of a fault
pub status_known : (config : Config) (input : Option (List ℕ)) (failure : Failure) (status : ℕ) → status ≡ status_of failure
    → StopsScript config input failure → IsStatus status
status_known config input (BadLine number) status is stops = (1, omega arith, sym is)
status_known config input Device status is stops = (1, omega arith, sym is)
status_known config input Fault status is stops = absurd stops.1
status_known config input (Refused error) status is stops = (2, omega arith, sym is)
status_known config input Memory status is stops = (2, omega arith, sym is)

-- of a new reader the bytes of its input remain
kept_input : (input : Option (List ℕ)) → prepend_known [] input ≡ input
kept_input None = refl
kept_input (Some bytes) = refl

pub new_reader : (capacity : ℕ) (buffer : List ℕ) (inner input : Option (List ℕ)) → buffer ≡ [] → capacity ≡ 8192 → inner ≡ input
    → (if capacity == 0 then None else prepend_known buffer inner) ≡ input
new_reader capacity buffer inner input empty full same = rw (full, empty, same) (kept_input input)

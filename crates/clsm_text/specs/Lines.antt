-- What a line of records says.
use Rattle.std.specs.Prelude.{◌≡◌, ℕ, ◌++◌, ◌∷◌, ◌≤◌, ⊤, Bool, false, codes, List, [], MatchOption, Option, Some, None, Result, Ok, Err}
use Rattle.std.specs.Str.{IsUtf8}
use Rattle.clsm_model.specs.declared.record.CallRecord.{CallRecord}
use Rattle.clsm_audit.specs.declared.place.Moments.{Moments}
use Rattle.clsm_text.specs.Line.{words_of, IsComment}
use Rattle.clsm_text.specs.Member.{WritesNumber}
use Rattle.clsm_text.specs.declared.line.LineError.{LineError}
use Rattle.clsm_text.specs.declared.line.LineError.TheVariants.{Bad, Memory}
use Rattle.clsm_text.specs.declared.timed.RecordLine.{RecordLine}
use Rattle.clsm_text.specs.Record.{Say}

-- ---- a record with the moments of its call

-- the words write the moments at which a call began and ended
pub record WriteMoments (begin finish : List ℕ) (moments : Moments) : Type 0 where
  pub begins : WritesNumber begin moments.begin
  pub ends : WritesNumber finish moments.end
  pub in_order : moments.begin ≤ moments.end

-- the words say the record, and then `|` and its moments
pub record SayTimed (words : List (List ℕ)) (r : CallRecord) (moments : Moments) : Type 0 where
  pub front : List (List ℕ)
  pub begin : List ℕ
  pub finish : List ℕ
  pub words_are : words ≡ front ++ (codes "|" ∷ begin ∷ finish ∷ [])
  pub says : Say front r
  pub write : WriteMoments begin finish moments

-- the words say a record with its moments, or, where these are not asked for, a record alone
abbrev pub SayLine : Bool → List (List ℕ) → RecordLine → Type 0
SayLine timed words line =
    MatchOption line.moments ((timed ≡ false) × Say words line.record) (SayTimed words line.record)

-- ---- a line

-- what a line says whose words may say something: nothing, or that; it is bad where it says neither,
-- or says something and is no text
abbrev pub ReadsBy : {A : Type 0} → (List (List ℕ) → A → Type 0) → List ℕ → Result (Option A) LineError → Type 0
ReadsBy Says line (Ok None) = IsComment (words_of line)
ReadsBy Says line (Ok (Some x)) = IsUtf8 line × Says (words_of line) x
ReadsBy {A} Says line (Err Bad) =
    (¬ IsComment (words_of line)) × (IsUtf8 line → (x : A) → ¬ Says (words_of line) x)
ReadsBy Says line (Err Memory) = ⊤

-- a record
abbrev pub Reads : List ℕ → Result (Option CallRecord) LineError → Type 0
Reads line result = ReadsBy Say line result

-- a record that may have moments, or has them where they are asked for
abbrev pub ReadsLine : Bool → List ℕ → Result (Option RecordLine) LineError → Type 0
ReadsLine timed line result = ReadsBy (SayLine timed) line result

-- What the step functions ask and tell.
use Rattle.std.specs.Prelude.{◌≡◌, ◌≢◌, ℕ, ◌+◌, ◌<◌, max, true, false, cond, nat_lt, [], List, length, take, slice_index_or, Some, None}
use Rattle.atomic_table.specs.Table.{Me, Allows}
use Rattle.clsm_model.specs.History.{plain}
use Rattle.clsm_law.specs.declared.word.Word.{Word}
use Rattle.clsm_law.specs.declared.word.Word.TheVariants.{Front}
use Rattle.clsm_law.specs.declared.step.Step.{Step}
use Rattle.clsm_law.specs.declared.step.Step.TheVariants.{Look, RaiseFront}
use Rattle.clsm_law.specs.declared.step.Answer.{Answer}
use Rattle.clsm_law.specs.declared.view.View.{View}
use Rattle.clsm_law.specs.Layout.{index_of}
use Rattle.clsm_law.specs.Views.{idle, is_all_some, or_zero}
use Rattle.clsm_law.specs.Relation.{word_of, answer_of, changed}
use Rattle.clsm_law.specs.Merging.{opening, word_of_merger, changed_by_merger}
use Rattle.clsm_words.specs.declared.known.Known.{Known}
use Rattle.clsm_words.specs.declared.words.WordTable.{WordTable}
use Rattle.clsm_words.specs.declared.operation.Operation.{Operation}
use Rattle.clsm_words.specs.Acting.{made_by}
use Rattle.clsm_words.specs.Ruled.{Ruled}
use Rattle.clsm_words.specs.Seats.{RawState, MessageState}
use Rattle.clsm_words.specs.Knowing.{Opens, Follows, known_of, told_of}
use Rattle.clsm_words.specs.Merging.{OpensToMerger, FollowsMerger}

-- the seat is one of these words
abbrev pub IsSeatOf : WordTable → RawState → Type 0
IsSeatOf words seat = (seat.table ≡ words.table.shared.table_id) × (seat.knows.layout ≡ words.layout)

-- the step is open to it
abbrev pub MayPlay : WordTable → RawState → Step → Type 0
MayPlay words seat step = IsSeatOf words seat × Opens seat.knows step

-- this operation on the word plays the step, which is open to it
abbrev pub MayAct : WordTable → RawState → Step → Word → Operation → Type 0
MayAct words seat step word operation = let k = seat.knows in MayPlay words seat step × (word ≡ word_of k.layout k.number k.view step)
    × (changed k.layout k.view step ≡ made_by operation)

-- the drawn cell is filled but for its next, and is not linked
pub record IsFilled (v : View) (t key : ℕ) : Type 0 where
  pub drawn : v.drawn ≡ Some t
  pub linked : v.linked ≡ false
  pub keyed : v.key ≡ Some key
  pub sized : v.length ≢ None
  pub words : is_all_some (take (or_zero v.length) v.words) ≡ true

-- it played the step, which found x
abbrev pub Played : WordTable → RawState → Step → ℕ → RawState → Type 0
Played words seat step x seat' = IsSeatOf words seat' × Follows step seat.knows x seat'.knows

-- it played the step, whatever that found
abbrev pub Plays : WordTable → RawState → Step → RawState → Type 0
Plays words seat step seat' = (x : ℕ) × Played words seat step x seat'

-- and this is the step's answer
abbrev pub PlaysTo : WordTable → RawState → Step → Answer → RawState → Type 0
PlaysTo words seat step answer seat' = (x : ℕ) × Played words seat step x seat' × (answer ≡ answer_of step x)

-- the step that a look at FRONT is which finds x there: where that is not below the time, a raise
-- to the time, which leaves the word as it is
abbrev pub confirming : ℕ → ℕ → Step
confirming time x = cond (nat_lt x time) (Look Front) (RaiseFront time)

-- the table allows it this operation on the word, and what it knows follows so
abbrev pub MayActBy : WordTable → ℕ → Me ℕ Known → (Known → ℕ → Known → Type 0) → Word → Operation → Type 0
MayActBy words id me follows word operation = Allows (Ruled words.table.shared.key) words.table.shared.table_id.slots id me (index_of words.layout word)
    (made_by operation) (λ x after. follows me.0 x after.0)

-- ---- the merger's steps

-- the step is open to the merger's seat
abbrev pub MayMerge : WordTable → RawState → Step → Type 0
MayMerge words seat step = IsSeatOf words seat × OpensToMerger seat.knows step

-- this operation on the word plays the merger's step, which is open to it
abbrev pub MayActAsMerger : WordTable → RawState → Step → Word → Operation → Type 0
MayActAsMerger words seat step word operation = let k = seat.knows in MayMerge words seat step × (word ≡ word_of_merger k.layout k.merger step)
    × (changed_by_merger k.layout k.merger step ≡ made_by operation)

-- the merger played the step, which found x
abbrev pub Merged : WordTable → RawState → Step → ℕ → RawState → Type 0
Merged words seat step x seat' = IsSeatOf words seat' × FollowsMerger step seat.knows x seat'.knows

-- it played the step, whatever that found
abbrev pub PlaysAsMerger : WordTable → RawState → Step → RawState → Type 0
PlaysAsMerger words seat step seat' = (x : ℕ) × Merged words seat step x seat'

-- and this is the step's answer
abbrev pub MergerAnswers : WordTable → RawState → Step → Answer → RawState → Type 0
MergerAnswers words seat step answer seat' = (x : ℕ) × Merged words seat step x seat' × (answer ≡ answer_of step x)

-- ---- fresh seats

-- the seat with this number has played nothing
abbrev pub IsFresh : ℕ → RawState → Type 0
IsFresh number seat = (seat.knows.number ≡ number) × (seat.knows.view ≡ idle seat.knows.layout) × (known_of seat.knows ≡ plain [])
    × (told_of seat.knows ≡ plain []) × (seat.knows.heard ≡ 0)

-- the merger has played nothing
abbrev pub IsFreshMerger : RawState → Type 0
IsFreshMerger seat = (seat.knows.merger ≡ opening seat.knows.layout) × (seat.knows.past ≡ [])

-- fresh seats of these words, numbered from this number on
abbrev pub AreFreshFrom : ℕ → WordTable → List RawState → Type 0
AreFreshFrom first words seats = (i : ℕ) (seat : RawState) → i < length seats → slice_index_or seats i seat ≡ seat → IsSeatOf words seat
    × IsFresh (first + i) seat

-- the message is of these words
abbrev pub IsMessageOf : WordTable → MessageState → Type 0
IsMessageOf words message = message.table ≡ words.table.shared.table_id

-- a seat that took the message in: it was told exactly that, and the greater due
abbrev pub Learns : Known → MessageState → Known → Type 0
Learns k message k' = k' ≡ record k { told = message.told; told_batches = message.batches; heard = max k.heard message.heard }

-- the message carries the seat's past and its due
abbrev pub TellsOf : Known → MessageState → Type 0
TellsOf k message = (message.told ≡ k.past) × (message.batches ≡ k.batches) × (message.heard ≡ k.view.due)

-- it took in another: it carries the other's past and the greater of the dues
abbrev pub TakesIn : MessageState → MessageState → MessageState → Type 0
TakesIn before other after = (after.told ≡ other.told) × (after.batches ≡ other.batches) × (after.heard ≡ max before.heard other.heard)

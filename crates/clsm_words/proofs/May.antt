-- A step function may play its step.
use Rattle.std.proofs.Common.{◌≡◌, ℕ, ◌<◌, true, sym, ◌∙◌, subst, arith, get_or}
use Rattle.atomic_table.specs.Table.{Me, Allows}
use Rattle.atomic_table.specs.Seated.{TableId}
use Rattle.clsm_law.specs.declared.layout.Layout.{Layout}
use Rattle.clsm_law.specs.declared.word.Word.{Word}
use Rattle.clsm_law.specs.declared.word.Word.TheVariants.{Front}
use Rattle.clsm_law.specs.declared.step.Step.{Step}
use Rattle.clsm_law.specs.declared.step.Step.TheVariants.{Look, RaiseFront}
use Rattle.clsm_law.specs.Memory.{is_word}
use Rattle.clsm_law.specs.Layout.{index_of, size_of}
use Rattle.clsm_law.specs.Merging.{word_of_merger, changed_by_merger}
use Rattle.clsm_law.specs.Relation.{word_of, changed}
use Rattle.clsm_words.specs.declared.known.Known.{Known}
use Rattle.clsm_words.specs.declared.operation.Operation.{Operation}
use Rattle.clsm_words.specs.declared.words.WordTable.{WordTable}
use Rattle.clsm_words.specs.Acting.{made_by}
use Rattle.clsm_words.specs.Seats.{RawState}
use Rattle.clsm_words.specs.Knowing.{Opens, Sound, Follows}
use Rattle.clsm_words.specs.Merging.{IsSoundMerger, OpensToMerger, FollowsMerger}
use Rattle.clsm_words.specs.Plays.{IsSeatOf, MayActBy, confirming}
use Rattle.clsm_words.specs.Ruled.{Ruled}
use Rattle.clsm_words.proofs.Allowed.{allows, allows_confirm}
use Rattle.clsm_words.proofs.MergerAllowed.{allows_merger}

-- one who plays: what holds of what it knows, which steps are open to it, on which word each is and
-- what it makes of that, and what it knows after
pub record Role : Type 1 where
  pub IsSound : Known → Type 0
  pub IsOpen : Known → Step → Type 0
  pub word : Known → Step → Word
  pub change : Known → Step → ℕ → ℕ
  pub Then : Step → Known → ℕ → Known → Type 0
  pub there : (k : Known) (step : Step) → IsSound k → IsOpen k step → is_word k.layout (word k step) ≡ true
  pub allows : (slots id : ℕ) (me : Me ℕ Known) (step : Step) → IsSound me.0 → IsOpen me.0 step
      → Allows (Ruled me.0.layout) slots id me (index_of me.0.layout (word me.0 step)) (change me.0 step) (λ x after. Then step me.0 x after.0)

abbrev pub caller : Role
caller = record {
  IsSound = Sound;
  IsOpen = Opens;
  word = λ k step. word_of k.layout k.number k.view step;
  change = λ k step. changed k.layout k.view step;
  Then = Follows;
  there = λ k step sound. sound.there step;
  allows = λ slots id me step sound. allows slots id me step sound.seated;
}

-- a caller who looks at FRONT before a raise to the time
abbrev pub confirmer : ℕ → Role
confirmer time = record {
  IsSound = Sound;
  IsOpen = λ k step. Opens k (RaiseFront time) × Opens k (Look Front);
  word = λ k step. Front;
  change = λ k step x. x;
  Then = λ step k x k'. Follows (confirming time x) k x k';
  there = λ k step sound opens. sound.there (Look Front) opens.1;
  allows = λ slots id me step sound opens. allows_confirm slots id me time sound.seated opens.0 opens.1;
}

abbrev pub merger : Role
merger = record {
  IsSound = IsSoundMerger;
  IsOpen = OpensToMerger;
  word = λ k step. word_of_merger k.layout k.merger step;
  change = λ k step. changed_by_merger k.layout k.merger step;
  Then = FollowsMerger;
  there = λ k step sound. sound.there step;
  allows = λ slots id me step sound. allows_merger slots id me step sound.merges;
}

-- the seat `now` at the words has the table's view `me.0`
module _ (role : Role) (w : WordTable) (table : TableId) (id : ℕ) (me : Me ℕ Known) (sound : role.IsSound me.0) (now : RawState)
    (is : record { table = table; knows = me.0 } ≡ now) (step : Step) (word : Word) (of : IsSeatOf w now) (opens : role.IsOpen now.knows step)
    (there : word ≡ role.word now.knows step) where
  of' : IsSeatOf w record { table = table; knows = me.0 }
  of' = subst (IsSeatOf w) (sym is) of

  opens' : role.IsOpen me.0 step
  opens' = subst (λ (v : RawState). role.IsOpen v.knows step) (sym is) opens

  there' : word ≡ role.word me.0 step
  there' = subst (λ (v : RawState). word ≡ role.word v.knows step) (sym is) there

  pub may_place : is_word w.layout word ≡ true
  may_place = subst (λ (z : Layout × Word). is_word z.0 z.1 ≡ true) (λ i. (of'.1 i, sym there' i)) (role.there me.0 step sound opens')

  pub may_act : (inner : WordTable) → inner ≡ w → (operation : Operation) → role.change now.knows step ≡ made_by operation
      → MayActBy inner id me (role.Then step) word operation
  may_act inner inside operation changes =
      let slots = w.table.shared.table_id.slots in
      let makes : role.change me.0 step ≡ made_by operation = subst (λ (v : RawState). role.change v.knows step ≡ made_by operation) (sym is) changes in
      let key : me.0.layout ≡ w.table.shared.key = of'.1 ∙ sym w.sized.1 in
      subst (λ (v : WordTable). MayActBy v id me (role.Then step) word operation) (sym inside)
      (subst (λ (z : Layout × ℕ × (ℕ → ℕ)). Allows (Ruled z.0) slots id me z.1 z.2 (λ x after. role.Then step me.0 x after.0))
      (λ i. (key i, index_of (of'.1 i) (sym there' i), makes i)) (role.allows slots id me step sound opens'))

-- what the table asks of an operation at this place that makes f of the word
abbrev pub Asks : WordTable → TableId → ℕ → Me ℕ Known → ℕ → (ℕ → ℕ) → (ℕ → Known → Type 0) → Type 0
Asks w table id me at f then = let of = w.table.shared.table_id in (table ≡ of) × (at < of.words)
    × Allows (Ruled w.table.shared.key) of.slots id me at f (λ x after. then x after.0)

-- where the word stands, the table allows the step
module _ (w : WordTable) (table : TableId) (id : ℕ) (me : Me ℕ Known) (follows : Known → ℕ → Known → Type 0) (word : Word) (operation : Operation) (at : ℕ)
    (of : table ≡ w.table.shared.table_id) (place : (at ≡ index_of w.layout word) × (at < size_of w.layout))
    (may : MayActBy w id me follows word operation) where
  pub may_step : (f : ℕ → ℕ) → made_by operation ≡ f → Asks w table id me at f (follows me.0)
  may_step f makes = let size = w.sized.0 in let inside = place.1 in (
    of,
    omega arith,
    subst (λ (z : ℕ × (ℕ → ℕ)). Allows (Ruled w.table.shared.key) w.table.shared.table_id.slots id me z.0 z.1 (λ x after. follows me.0 x after.0))
        (λ i. (sym place.0 i, makes i)) may,
  )

  pub may_store : (new : ℕ) → made_by operation ≡ (λ x. new) → Asks w table id me at (λ x. new) (λ x after. (y : ℕ) × follows me.0 y after)
  may_store new makes = let m = may_step (λ x. new) makes in
      (m.0, m.1, λ t r deep here fits. let a = m.2 t r deep here fits in (a.0, a.1, a.2, a.3, (get_or t.words at 0, a.4)))

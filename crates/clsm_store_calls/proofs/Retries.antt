-- Tries to write, one after another in a hold of the lock: what they leave of a seat.
use Rattle.std.proofs.Common.{◌≡◌, ◌∙◌, ◌≤◌, ℕ, ap, arith, false, inl, inr, refl, subst, sym, ⊎_elim, List, take, true, Option, None, Some}
use Rattle.clsm_model.specs.declared.record.Deed.{Deed}
use Rattle.clsm_law.specs.declared.step.Step.TheVariants.{Decide}
use Rattle.clsm_law.specs.declared.view.View.{View}
use Rattle.clsm_law.specs.declared.view.Mode.TheVariants.{Shared}
use Rattle.clsm_law.specs.Views.{is_all_some, length_of, or_zero}
use Rattle.clsm_words.specs.declared.known.Known.{Known}
use Rattle.clsm_words.specs.declared.words.WordTable.{WordTable}
use Rattle.clsm_words.specs.Knowing.{Opens}
use Rattle.clsm_words.specs.Plays.{IsSeatOf}
use Rattle.clsm_words.specs.Seats.{RawState}
use Rattle.clsm_memtable.specs.declared.entering.EntryState.TheVariants.{Unlinked}
use Rattle.clsm_memtable.specs.Entering.{MayGoOn}
use Rattle.clsm_memtable.specs.Filling.{Fills}
use Rattle.clsm_memtable.specs.Inserting.{Enters, IsStart, StaysOut, StaysUndecided}
use Rattle.clsm_memtable.specs.Writing.{Draws, LosesDraw, LosesTime, LooksAhead, RecordsHinted}
use Rattle.clsm_store_calls.specs.declared.writing.Attempt.{Attempt}
use Rattle.clsm_store_calls.specs.declared.writing.Attempt.TheVariants.{Written, Full, Raced, Overtaken}
use Rattle.clsm_store_calls.specs.declared.writing.Drawn.{Drawn}
use Rattle.clsm_store_calls.specs.declared.writing.Progress.{Progress}
use Rattle.clsm_store_calls.specs.Resting.{IsInHold, IsSettled, Records, Still, Tries, deed_of, is_answer}
use Rattle.clsm_store_calls.specs.Writing.{HasCome, HasComeTo, HasFilled, IsUndecided, LeavesIn}
use Rattle.clsm_store_calls.proofs.Rest.{full_later, left, lost_by, records_by, records_later, still_seat, still_trans}

-- ---- one after another

-- where no call was made before
pub tries_later : (a b c : Known) (deed : Deed) (attempt : Attempt) → Still a b → Tries b c deed attempt → Tries a c deed attempt
tries_later a b c deed (Written t) still k = records_later a b c t deed still k
tries_later a b c deed (Full t) still k = full_later a b c t still k
tries_later a b c deed Raced still k = still_trans a b c still k
tries_later a b c deed Overtaken still k = still_trans a b c still k

-- a try that is lost makes no call
pub tries_still : (a b : Known) (deed : Deed) (attempt : Attempt) → is_answer attempt ≡ false → Tries a b deed attempt → Still a b
tries_still a b deed (Written t) lost k = absurd cc
tries_still a b deed (Full t) lost k = absurd cc
tries_still a b deed Raced lost k = k
tries_still a b deed Overtaken lost k = k

-- and the write may go on
pub may_go_on : (words : WordTable) (seat : RawState) (key : ℕ) (written : Option (List ℕ)) (progress : Progress) (attempt : Attempt)
    → is_answer attempt ≡ false → LeavesIn words seat key written progress attempt → HasCome words seat key written progress
may_go_on words seat key written progress (Written t) lost k = absurd cc
may_go_on words seat key written progress (Full t) lost k = absurd cc
may_go_on words seat key written progress Raced lost k = k
may_go_on words seat key written progress Overtaken lost k = k.1

-- ---- how far it has come

-- it has drawn nothing
pub come_undrawn : (words : WordTable) (seat : RawState) (key : ℕ) (written : Option (List ℕ)) (progress : Progress) → progress.drawn ≡ None
    → HasCome words seat key written progress → IsInHold seat.knows × IsStart seat.knows progress.start.lost
come_undrawn words seat key written progress none come = subst (HasComeTo words seat key written progress.start.lost) none come

-- it has drawn this
pub come_drawn : (words : WordTable) (seat : RawState) (key : ℕ) (written : Option (List ℕ)) (progress : Progress) (drawn : Drawn) → progress.drawn ≡ Some drawn
    → HasCome words seat key written progress → HasComeTo words seat key written progress.start.lost (Some drawn)
come_drawn words seat key written progress drawn some come = subst (HasComeTo words seat key written progress.start.lost) some come

-- and the other way round
pub comes_by : (words : WordTable) (seat : RawState) (key : ℕ) (written : Option (List ℕ)) (progress : Progress) (drawn : Option Drawn) → progress.drawn ≡ drawn
    → HasComeTo words seat key written progress.start.lost drawn → HasCome words seat key written progress
comes_by words seat key written progress drawn is come = subst (HasComeTo words seat key written progress.start.lost) (sym is) come

-- ---- a next try may go on from the place

pub start_on : (k k' : Known) (lost : ℕ) → k'.view.met ≡ k.view.met → IsStart k lost → IsStart k' lost
start_on k k' lost same is = ⊎_elim (λ (none : lost ≡ 0). inl none) (λ (met : lost ≡ k.view.met). inr (met ∙ sym same)) is

pub start_raced : (a b : Known) (lost : ℕ) → LosesDraw a b → IsStart a lost → IsStart b lost
start_raced a b lost h is = start_on a b lost (ap (λ (v : View). v.met) h.view) is

pub start_overtaken : (a b : Known) (t lost : ℕ) → LosesTime a b t → IsStart a lost → IsStart b lost
start_overtaken a b t lost h is = start_on a b lost (ap (λ (v : View). v.met) h.view) is

-- ---- the hold of the lock, as long as nothing is drawn

-- what tells that a hold goes on with nothing drawn
abbrev held : View → View → Type 0
held v w = (w.mode ≡ v.mode) × (w.drawn ≡ v.drawn) × (w.pinned ≡ v.pinned) × (w.snapshot ≡ v.snapshot)

hold_on : (a b : Known) → held a.view b.view → IsInHold a → IsInHold b
hold_on a b same is = record {
  shared = same.0 ∙ is.shared;
  undrawn = same.1 ∙ is.undrawn;
  unpinned = same.2 ∙ is.unpinned;
  settled = subst IsSettled (sym same.3) is.settled;
}

held_by : (v w : View) (after : View) → w ≡ after → held v after → held v w
held_by v w after is h = subst (held v) (sym is) h

pub hold_ahead : (a b : Known) → LooksAhead a b → IsInHold a → IsInHold b
hold_ahead a b h is = hold_on a b (held_by a.view b.view _ h.view (refl, refl, refl, refl)) is

pub hold_raced : (a b : Known) → LosesDraw a b → IsInHold a → IsInHold b
hold_raced a b h is = hold_on a b (held_by a.view b.view _ h.view (refl, refl, refl, refl)) is

pub still_ahead : (a b : Known) → LooksAhead a b → Still a b
still_ahead a b h = still_seat a b h.seat (ap left h.view)

-- ---- the drawn time

-- drawn and filled, it is undecided, and to be entered
module _ (words : WordTable) (a b : Known) (c : RawState) (t key lost : ℕ) (written : Option (List ℕ)) (hold : IsInHold a)
    (draws : Draws a b t) (fills : Fills b c.knows key written) (of : IsSeatOf words c) where
  drawn_filled : HasFilled c.knows t key written
  drawn_filled = record {
    drawn = ap (λ (v : View). v.drawn) fills.parts.view ∙ ap (λ (v : View). v.drawn) draws.view;
    keyed = fills.keyed;
    length = fills.length;
    words = fills.words;
    short = fills.short;
    whole = fills.whole;
  }

  pub undecided_drawn : IsUndecided c.knows t key written
  undecided_drawn = record {
    shared = ap (λ (v : View). v.mode) fills.parts.view ∙ ap (λ (v : View). v.mode) draws.view ∙ hold.shared;
    unpinned = ap (λ (v : View). v.pinned) fills.parts.view ∙ ap (λ (v : View). v.pinned) draws.view ∙ hold.unpinned;
    settled = subst IsSettled (sym (ap (λ (v : View). v.snapshot) fills.parts.view ∙ ap (λ (v : View). v.snapshot) draws.view)) hold.settled;
    due = let due = ap (λ (v : View). v.due) fills.parts.view ∙ ap (λ (v : View). v.due) draws.view in let above = draws.due in omega arith;
    filled = drawn_filled;
  }

  pub may_enter_drawn : IsStart a lost → MayGoOn words c t key lost Unlinked
  may_enter_drawn start = (
    record {
      of = of;
      holds = λ free. let shared = undecided_drawn.shared in absurd cc;
      limit = λ none. draws.looked (sym (ap (λ (v : View). v.hold_limit) fills.parts.view) ∙ none);
      filled = record {
        drawn = drawn_filled.drawn;
        linked = ap (λ (v : View). v.linked) fills.parts.view ∙ ap (λ (v : View). v.linked) draws.view;
        keyed = fills.keyed;
        sized = λ none. let some = fills.length in absurd cc;
        words = fills.whole;
      };
      out = ap (λ (v : View). v.inserted) fills.parts.view ∙ ap (λ (v : View). v.inserted) draws.view;
    },
    start_on a c.knows lost (ap (λ (v : View). v.met) fills.parts.view ∙ ap (λ (v : View). v.met) draws.view) start,
  )

-- the rows of a view that say what the drawn cell does
abbrev said : View → Option ℕ × Option ℕ × Option ℕ × List (Option ℕ)
said v = (v.drawn, v.key, v.length, v.words)

pub filled_on : (a b : Known) (t key : ℕ) (written : Option (List ℕ)) → said b.view ≡ said a.view → HasFilled a t key written → HasFilled b t key written
filled_on a b t key written same is = record {
  drawn = ap (λ (x : Option ℕ × Option ℕ × Option ℕ × List (Option ℕ)). x.0) same ∙ is.drawn;
  keyed = ap (λ (x : Option ℕ × Option ℕ × Option ℕ × List (Option ℕ)). x.1) same ∙ is.keyed;
  length = ap (λ (x : Option ℕ × Option ℕ × Option ℕ × List (Option ℕ)). x.2) same ∙ is.length;
  words = ap (λ (x : Option ℕ × Option ℕ × Option ℕ × List (Option ℕ)). take (length_of written) x.3) same ∙ is.words;
  short = is.short;
  whole = ap (λ (x : Option ℕ × Option ℕ × Option ℕ × List (Option ℕ)). is_all_some (take (or_zero x.2) x.3)) same ∙ is.whole;
}

-- where an exchange of its entry is lost, it stays so
pub undecided_on : (a b : Known) (t key : ℕ) (written : Option (List ℕ)) → StaysUndecided a b → IsUndecided a t key written → IsUndecided b t key written
undecided_on a b t key written h is = record {
  shared = ap (λ (v : View). v.mode) h.view ∙ is.shared;
  unpinned = ap (λ (v : View). v.pinned) h.view ∙ is.unpinned;
  settled = subst IsSettled (sym (ap (λ (v : View). v.snapshot) h.view)) is.settled;
  due = let due = ap (λ (v : View). v.due) h.view in let above = is.due in omega arith;
  filled = filled_on a b t key written (ap said h.view) is.filled;
}

pub still_undecided : (a b : Known) → StaysUndecided a b → Still a b
still_undecided a b h = still_seat a b h.seat (ap left h.view)

-- ---- entered, behind a look back

module _ (a b c : Known) (enters : Enters a b) (looks : StaysOut b c) where
  pub still_entered_back : Still a c
  still_entered_back = still_trans a b c (still_seat a b enters.seat (ap left enters.view)) (still_seat b c looks.seat (ap left looks.view))

  module _ (t key : ℕ) (written : Option (List ℕ)) (is : IsUndecided a t key written) where
    filled_entered : HasFilled c t key written
    filled_entered = filled_on a c t key written (ap said looks.view ∙ ap said enters.view) is.filled

    -- the write may be decided
    pub opens_write : (deed : Deed) → deed ≡ deed_of key written → Opens c (Decide t deed)
    opens_write deed same = subst (λ (d : Deed). Opens c (Decide t d)) (sym same) (by written filled_entered) where
      linked : c.view.linked ≡ true
      linked = ap (λ (v : View). v.linked) looks.view ∙ ap (λ (v : View). v.linked) enters.view

      inserted : c.view.inserted ≡ true
      inserted = ap (λ (v : View). v.inserted) looks.view ∙ ap (λ (v : View). v.inserted) enters.view

      by : (w : Option (List ℕ)) → HasFilled c t key w → Opens c (Decide t (deed_of key w))
      by None has = (has.drawn, linked, (has.keyed, has.length, has.words, has.short), tt, inserted)
      by (Some words) has = (has.drawn, linked, (has.keyed, has.length, has.words, has.short), tt, inserted)

    pub shared_entered : c.view.mode ≡ Shared
    shared_entered = ap (λ (v : View). v.mode) looks.view ∙ ap (λ (v : View). v.mode) enters.view ∙ is.shared

    due_entered : c.view.due ≤ t
    due_entered = let due = ap (λ (v : View). v.due) looks.view ∙ ap (λ (v : View). v.due) enters.view in let above = is.due in omega arith

    unpinned_entered : c.view.pinned ≡ false
    unpinned_entered = ap (λ (v : View). v.pinned) looks.view ∙ ap (λ (v : View). v.pinned) enters.view ∙ is.unpinned

    settled_entered : IsSettled c.view.snapshot
    settled_entered = subst IsSettled (sym (ap (λ (v : View). v.snapshot) looks.view ∙ ap (λ (v : View). v.snapshot) enters.view)) is.settled

    -- and behind that nothing is drawn
    pub hold_written : (d : Known) (deed : Deed) → RecordsHinted c d t deed → IsInHold d
    hold_written d deed h = record {
      shared = ap (λ (v : View). v.mode) h.view ∙ shared_entered;
      undrawn = ap (λ (v : View). v.drawn) h.view;
      unpinned = ap (λ (v : View). v.pinned) h.view ∙ unpinned_entered;
      settled = subst IsSettled (sym (ap (λ (v : View). v.snapshot) h.view)) settled_entered;
    }

    pub hold_overtaken : (d : Known) → LosesTime c d t → IsInHold d
    hold_overtaken d h = record {
      shared = ap (λ (v : View). v.mode) h.view ∙ shared_entered;
      undrawn = ap (λ (v : View). v.drawn) h.view;
      unpinned = ap (λ (v : View). v.pinned) h.view ∙ unpinned_entered;
      settled = subst IsSettled (sym (ap (λ (v : View). v.snapshot) h.view)) settled_entered;
    }

    pub written_entered : (d : Known) (deed : Deed) → RecordsHinted c d t deed → Records a d t deed
    written_entered d deed h = records_later a c d t deed still_entered_back (records_by c d t deed due_entered h)

    pub still_overtaken : (d : Known) → LosesTime c d t → Still a d
    still_overtaken d h = still_trans a c d still_entered_back (lost_by c d t h)

-- What tries count that are lost, one after another.
use Rattle.std.proofs.Common.{◌≡◌, ◌∙◌, ◌+◌, ◌<◌, ◌⊎◌, ℕ, suc, ap, arith, false, inl, inr, refl, subst, sym, true}
use Rattle.std.specs.Fn.{iterate}
use Rattle.clsm_model.specs.declared.record.Deed.{Deed}
use Rattle.clsm_law.specs.declared.view.View.{View}
use Rattle.clsm_law.specs.Views.{next_word}
use Rattle.clsm_words.specs.declared.known.Known.{Known}
use Rattle.clsm_memtable.specs.Inserting.{Enters, StaysOut, StaysUndecided}
use Rattle.clsm_memtable.specs.Writing.{Draws, FindsLimit, GivesUp, LosesDraw, LosesTime as IsLost, LooksAhead, RecordsHinted}
use Rattle.clsm_store_calls.specs.declared.writing.Attempt.{Attempt}
use Rattle.clsm_store_calls.specs.declared.writing.Attempt.TheVariants.{Written, Full, Raced, Overtaken}
use Rattle.clsm_store_calls.specs.Resting.{is_answer}
use Rattle.clsm_store_calls.specs.Tally.{CancelsNone, IsRaced, LosesTime, LosesToSeats, OnlyLoses, Tally, after_losses}
use Rattle.clsm_store_calls.specs.Tally.{counted, looked, tally_of}
use Rattle.clsm_store_calls.specs.Writing.{CountsOne, CountsTries}
use Rattle.clsm_store_calls.proofs.Counting.{once_more}

-- ---- what the parts of a try count

-- it counted nothing
abbrev pub CountsNothing : Known → Known → Type 0
CountsNothing a b = tally_of b ≡ looked (tally_of a) (tally_of b)

pub nothing_trans : (a b c : Known) → CountsNothing a b → CountsNothing b c → CountsNothing a c
nothing_trans a b c h k = k ∙ ap (λ (t : Tally). looked t (tally_of c)) h

pub nothing_ahead : (a b : Known) → LooksAhead a b → CountsNothing a b
nothing_ahead a b h = subst (λ (v : View). counted v ≡ looked (tally_of a) (counted v)) (sym h.view) refl

pub nothing_drawn : (a b : Known) (t : ℕ) → Draws a b t → CountsNothing a b
nothing_drawn a b t h = subst (λ (v : View). counted v ≡ looked (tally_of a) (counted v)) (sym h.view) refl

pub nothing_full : (a b : Known) (t : ℕ) → FindsLimit a b t → CountsNothing a b
nothing_full a b t h = subst (λ (v : View). counted v ≡ looked (tally_of a) (counted v)) (sym h.view) refl

pub nothing_recorded : (a b : Known) (t : ℕ) (deed : Deed) → RecordsHinted a b t deed → CountsNothing a b
nothing_recorded a b t deed h = subst (λ (v : View). counted v ≡ looked (tally_of a) (counted v)) (sym h.view) refl

pub raced_draw : (a b : Known) → LosesDraw a b → CountsOne (tally_of a) (tally_of b) Raced
raced_draw a b h = subst (λ (v : View). CountsOne (tally_of a) (counted v) Raced) (sym h.view) refl

pub overtaken_decide : (a b : Known) (t : ℕ) → IsLost a b t → CountsOne (tally_of a) (tally_of b) Overtaken
overtaken_decide a b t h = subst (λ (v : View). CountsOne (tally_of a) (counted v) Overtaken) (sym h.view) refl

-- where no exchange was lost
pub nothing_raced : (a b : Known) → tally_of b ≡ record (tally_of a) { raced = b.view.raced } → b.view.raced ≡ a.view.raced → CountsNothing a b
nothing_raced a b is same = subst (λ (t : Tally). t ≡ looked (tally_of a) t) (sym (is ∙ ap (λ (n : ℕ). record (tally_of a) { raced = n }) same)) refl

pub nothing_entered : (a b : Known) → Enters a b → b.view.raced ≡ a.view.raced → CountsNothing a b
nothing_entered a b h same = nothing_raced a b (ap counted h.view) same

pub nothing_out : (a b : Known) → StaysOut a b → b.view.raced ≡ a.view.raced → CountsNothing a b
nothing_out a b h same = nothing_raced a b (ap counted h.view) same

pub raced_entry : (a b : Known) → StaysUndecided a b → b.view.raced ≡ next_word a.view.raced → CountsOne (tally_of a) (tally_of b) Raced
raced_entry a b h same =
    subst (λ (t : Tally). CountsOne (tally_of a) t Raced)
    (sym (ap counted h.view ∙ ap (λ (n : ℕ). record (tally_of a) { raced = n }) same)) refl

-- one try, behind what counted nothing
pub counts_behind : (a b c : Known) (attempt : Attempt) → CountsNothing a b → CountsOne (tally_of b) (tally_of c) attempt
    → CountsOne (tally_of a) (tally_of c) attempt
counts_behind a b c (Written t) h k = nothing_trans a b c h k
counts_behind a b c (Full t) h k = nothing_trans a b c h k
counts_behind a b c Raced h k = k ∙ ap (λ (t : Tally). record (looked t (tally_of c)) { raced = next_word t.raced }) h
counts_behind a b c Overtaken h k = k ∙ ap (λ (t : Tally). record (looked t (tally_of c)) { overtaken = next_word t.overtaken }) h

-- ---- tries

-- so many tries were lost
pub record LosesTries (tries : ℕ) (old new : Tally) : Type 0 where
  pub raced : ℕ
  pub overtaken : ℕ
  pub all : raced + overtaken ≡ tries
  pub counts : new ≡ after_losses old new raced overtaken

pub loses_none : (t : Tally) → LosesTries 0 t t
loses_none t = record { raced = 0; overtaken = 0; all = refl; counts = refl }

module _ (tries : ℕ) (a b c : Tally) (h : LosesTries tries a b) where
  on : c ≡ looked b c → c ≡ after_losses a c h.raced h.overtaken
  on k = k ∙ ap (λ (t : Tally). looked t c) h.counts

  on_raced : CountsOne b c Raced → c ≡ after_losses a c (suc h.raced) h.overtaken
  on_raced k = k ∙ ap (λ (t : Tally). record (looked t c) { raced = next_word t.raced }) h.counts
      ∙ ap (λ (n : ℕ). record (after_losses a c 0 h.overtaken) { raced = n }) (sym (once_more h.raced a.raced))

  on_overtaken : CountsOne b c Overtaken → c ≡ after_losses a c h.raced (suc h.overtaken)
  on_overtaken k = k ∙ ap (λ (t : Tally). record (looked t c) { overtaken = next_word t.overtaken }) h.counts
      ∙ ap (λ (n : ℕ). record (after_losses a c h.raced 0) { overtaken = n }) (sym (once_more h.overtaken a.overtaken))

  -- one more that is lost
  pub loses_more : (attempt : Attempt) → is_answer attempt ≡ false → CountsOne b c attempt → LosesTries (tries + 1) a c
  loses_more (Written t) lost k = absurd cc
  loses_more (Full t) lost k = absurd cc
  loses_more Raced lost k = record { raced = suc h.raced; overtaken = h.overtaken; all = let n = h.all in omega arith; counts = on_raced k }
  loses_more Overtaken lost k = record { raced = h.raced; overtaken = suc h.overtaken; all = let n = h.all in omega arith; counts = on_overtaken k }

  -- the last of so many, unless it is answered
  pub counts_last : (most : ℕ) (attempt : Attempt) → tries < most → (is_answer attempt ≡ true) ⊎ (tries + 1 ≡ most) → CountsOne b c attempt
      → CountsTries most a c attempt
  counts_last most (Written t) few last k = record { raced = h.raced; overtaken = h.overtaken; fewer = let n = h.all in omega arith; counts = on k }
  counts_last most (Full t) few last k = record { raced = h.raced; overtaken = h.overtaken; fewer = let n = h.all in omega arith; counts = on k }
  counts_last most Raced few (inl answered) k = absurd cc
  counts_last most Raced few (inr last) k = record {
    raced = suc h.raced;
    overtaken = h.overtaken;
    all = let n = h.all in omega arith;
    last = omega arith;
    counts = on_raced k;
  }
  counts_last most Overtaken few (inl answered) k = absurd cc
  counts_last most Overtaken few (inr last) k = record {
    raced = h.raced;
    overtaken = suc h.overtaken;
    all = let n = h.all in omega arith;
    last = omega arith;
    counts = on_overtaken k;
  }

-- ---- a call

only : (a b : Tally) (raced overtaken : ℕ) → b ≡ after_losses a b raced overtaken → OnlyLoses a b
only a b raced overtaken is = subst (λ (t : Tally). t ≡ record (looked a t) { raced = t.raced; overtaken = t.overtaken }) (sym is) refl

pub only_loses : (tries : ℕ) (a b : Tally) (attempt : Attempt) → CountsTries tries a b attempt → OnlyLoses a b
only_loses tries a b (Written t) k = only a b k.raced k.overtaken k.counts
only_loses tries a b (Full t) k = only a b k.raced k.overtaken k.counts
only_loses tries a b Raced k = only a b k.raced k.overtaken k.counts
only_loses tries a b Overtaken k = only a b k.raced k.overtaken k.counts

pub only_trans : (a b c : Tally) → OnlyLoses a b → OnlyLoses b c → OnlyLoses a c
only_trans a b c h k = k ∙ ap (λ (t : Tally). record (looked t c) { raced = c.raced; overtaken = c.overtaken }) h

pub only_none : (t : Tally) → OnlyLoses t t
only_none t = refl

pub cancels_none : (a b : Tally) → OnlyLoses a b → CancelsNone a b
cancels_none a b h = record {
  own = ap (λ (t : Tally). t.gave_up) h;
  others = ap (λ (t : Tally). t.cancelled) h;
  hasty = ap (λ (t : Tally). t.hasty) h;
}

-- ---- a write that gives up

-- with nothing drawn
pub raced_undrawn : (tries : ℕ) (a b : Tally) → LosesToSeats tries a b → IsRaced tries a b
raced_undrawn tries a b h = record {
  raced = h.raced;
  overtaken = h.overtaken;
  all = h.all;
  last = h.last;
  counts = subst (λ (t : Tally). t ≡ record (after_losses a t h.raced h.overtaken) { overtaken = t.overtaken; gave_up = t.gave_up }) (sym h.counts) refl;
  time = inl (ap (λ (t : Tally). t.gave_up) h.counts, ap (λ (t : Tally). t.overtaken) h.counts);
}

-- with a drawn time, which it gives up
pub raced_drawn : (tries : ℕ) (a : Tally) (b c : Known) (t : ℕ) → LosesToSeats tries a (tally_of b) → GivesUp b c t → IsRaced tries a (tally_of c)
raced_drawn tries a b c t h k = record {
  raced = h.raced;
  overtaken = h.overtaken;
  all = h.all;
  last = h.last;
  counts = gave ∙ ap (λ (t : Tally). record t { overtaken = c.view.overtaken; gave_up = c.view.gave_up }) h.counts ∙ looks;
  time = inr (time k.counted);
} where
  gave : tally_of c ≡ record (tally_of b) { overtaken = c.view.overtaken; gave_up = c.view.gave_up }
  gave = ap counted k.view

  looks : record (after_losses a (tally_of b) h.raced h.overtaken) { overtaken = c.view.overtaken; gave_up = c.view.gave_up }
      ≡ record (after_losses a (tally_of c) h.raced h.overtaken) { overtaken = c.view.overtaken; gave_up = c.view.gave_up }
  looks = subst (λ (v : View). record (after_losses a (tally_of b) h.raced h.overtaken) { overtaken = c.view.overtaken; gave_up = c.view.gave_up }
      ≡ record (after_losses a (counted v) h.raced h.overtaken) { overtaken = c.view.overtaken; gave_up = c.view.gave_up }) (sym k.view) refl

  gave_before : b.view.gave_up ≡ a.gave_up
  gave_before = ap (λ (t : Tally). t.gave_up) h.counts

  over_before : b.view.overtaken ≡ iterate next_word h.overtaken a.overtaken
  over_before = ap (λ (t : Tally). t.overtaken) h.counts

  time : ((c.view.gave_up ≡ next_word b.view.gave_up) × (c.view.overtaken ≡ b.view.overtaken))
      ⊎ ((c.view.gave_up ≡ b.view.gave_up) × (c.view.overtaken ≡ next_word b.view.overtaken))
      → LosesTime (after_losses a (tally_of c) h.raced h.overtaken) (tally_of c)
  time (inl own) = inl (own.0 ∙ ap next_word gave_before, own.1 ∙ over_before)
  time (inr lost) = inr (lost.0 ∙ gave_before, lost.1 ∙ ap next_word over_before)

-- What the merger carries of a frozen epoch is of one history with what it was told.
use Rattle.std.proofs.Common.{◌≡◌, ℕ, ◌+◌, ◌*◌, ◌<◌, ◌≤◌, ◌&&◌, not, Bool, true, false, cond, List, [], append-nil, length, get_or, refl, ap, sym, subst}
use Rattle.std.proofs.Common.{◌∙◌, arith, lt_of_not-le, vec_capacity}
use mathlib.Core.List.{IsPrefix}
use native.Mathlib.Decide.{dec_le}
use Rattle.std.proofs.lemmas.List.{get_or_append_left}
use Rattle.atomic_table.specs.Seated.{TableId}
use Rattle.clsm_model.specs.declared.slot.Slot.{Slot}
use Rattle.clsm_model.specs.declared.slot.Slot.TheVariants.{Nothing}
use Rattle.clsm_model.specs.History.{plain}
use Rattle.clsm_law.specs.declared.layout.Layout.{Layout}
use Rattle.clsm_law.specs.declared.merger.MergerView.{MergerView}
use Rattle.clsm_law.specs.declared.merger.Phase.{Phase}
use Rattle.clsm_law.specs.declared.merger.Phase.TheVariants.{Frozen}
use Rattle.clsm_law.specs.declared.word.Word.TheVariants.{Clock}
use Rattle.clsm_law.specs.declared.step.Step.TheVariants.{Look}
use Rattle.clsm_law.specs.Law.{AreRuns}
use Rattle.clsm_law.specs.Merging.{is_clean, is_frozen, merger_looked}
use Rattle.clsm_law.specs.Relation.{one_more_if}
use Rattle.clsm_law.proofs.Runs.Kept.{runs_stay as runs_agree}
use Rattle.clsm_words.specs.declared.known.Known.{Known}
use Rattle.clsm_words.specs.Knowing.{row_of}
use Rattle.clsm_words.specs.Merging.{FollowsMerger, IsSoundMerger}
use Rattle.clsm_words.specs.Plays.{Learns}
use Rattle.clsm_words.specs.Seats.{MessageState}
use Rattle.clsm_words.proofs.Changing.{look_leaves}
use Rattle.clsm_words.proofs.MergerFacts.{entries_below as entries_agree}
use Rattle.clsm_store_calls.specs.declared.merger_seat.MergerSeat.{MergerSeat}
use Rattle.clsm_store_calls.specs.Agreeing.{AgreesWith}
use Rattle.clsm_store_calls.specs.Flooring.{with_floor}
use Rattle.clsm_store_calls.specs.Freezing.{IsFrozen}
use Rattle.clsm_store_calls.specs.Merging.{IsOfHistory, IsReady, epoch_known, frozen_of, runs_known}
use Rattle.clsm_store_calls.proofs.Prepared.{epoch_stays, of_history, runs_stay, still_frozen}

-- ---- one history

-- a beginning and what it begins have the same slots as far as the first reaches
same_slot : (a b : List Slot) → IsPrefix a b → (t : ℕ) → t < length a → get_or b t Nothing ≡ get_or a t Nothing
same_slot a b begins t lt = ap (λ (l : List Slot). get_or l t Nothing) (sym begins.1) ∙ get_or_append_left a begins.0 Nothing t lt

module _ (m : MergerSeat) (sound : IsSoundMerger m.raw.knows) (frozen : IsFrozen m.raw.knows m.merges) (ready : IsReady m) (list : List Slot) where
  abbrev k : Known
  k = m.raw.knows

  abbrev end : ℕ
  end = (m.merges + 1) * k.layout.cells

  merged_is : (k.merger.merged * k.layout.cells ≡ m.merges * k.layout.cells)
  merged_is = ap (λ (n : ℕ). n * k.layout.cells) frozen.out.merged

  -- what agrees with the past up to the epoch's end is such a history
  of_agreeing : end ≤ length list → ((t : ℕ) → t < end → get_or list t Nothing ≡ get_or k.past t Nothing) → IsOfHistory list (frozen_of m)
  of_agreeing reaches agree =
      let runs : AreRuns k.layout (row_of k) (plain list) k.merger.merged k.merger.merged_floor =
      runs_agree k.layout (row_of k) (row_of k) (plain k.past) (plain list) k.merger.merged k.merger.merged_floor
      (λ t lt. let same = merged_is in agree t (omega arith)) (λ p named. record { count = refl; words = λ e i. refl }) sound.runs in
      record {
        reaches = reaches;
        epoch = (of_history m sound frozen ready).epoch ∙ entries_agree k.past list (m.merges * k.layout.cells) end (λ t lt. sym (agree t lt));
        writes = runs.content.writes;
        exact = λ key time from to. let floor = ready.floor in let floors = sound.floors in let same = merged_is in
            runs.content.exact key time (omega arith) (omega arith);
      }

  -- the past reaches to the epoch's end; so one of the two is such a history
  pub agreed : (length list ≤ length k.past → IsPrefix list k.past) → (length k.past ≤ length list → IsPrefix k.past list) → AgreesWith list (frozen_of m)
  agreed reaches within = elim (dec_le end (length list)) [
    | yes whole ↦ record {
      history = list;
      begins = ([], append-nil list);
      carried = of_agreeing whole (λ t lt. elim (dec_le (length list) (length k.past)) [
        | yes le ↦ sym (same_slot list k.past (reaches le) t (omega arith))
        | no nle ↦ same_slot k.past list (within (let lt' = lt_of_not-le nle in omega arith)) t
            (let known = (of_history m sound frozen ready).reaches in omega arith)
      ]);
      whole = λ _. refl;
    }
    | no part ↦ record {
      history = k.past;
      begins = reaches (let lt = lt_of_not-le part in let known = (of_history m sound frozen ready).reaches in omega arith);
      carried = of_history m sound frozen ready;
      whole = λ le. absurd (part le);
    }
  ]

-- ---- what a message and a look leave

-- while an epoch is frozen a look at the clock leaves the view as it was
frozen_unpolled : (p : Phase) (b : Bool) → is_frozen p ≡ true → (b && is_clean p) ≡ false
frozen_unpolled Frozen true e = refl
frozen_unpolled Frozen false e = refl
frozen_unpolled _ b e = absurd (cc e)

unpolled : (z : Layout) (m : MergerView) (x : ℕ) → is_frozen m.phase ≡ true → merger_looked z m Clock x ≡ m
unpolled z m x frozen =
    let none = frozen_unpolled m.phase (not m.exclusive) frozen in
    λ i. record m { clock_looks = one_more_if (none i) m.clock_looks; clock_found = cond (none i) x m.clock_found }

module _ (m : MergerSeat) (message : MessageState) (table : TableId) (told new : Known) (x : ℕ) (same_table : table ≡ m.raw.table)
    (learns : Learns m.raw.knows message told) (looks : FollowsMerger (Look Clock) told x new)
    (sound' : IsSoundMerger told) (sound : IsSoundMerger new) (frozen : IsFrozen m.raw.knows m.merges) (ready : IsReady m) where
  abbrev old : Known
  old = m.raw.knows

  -- the merger afterwards
  abbrev pub met : MergerSeat
  met = record { raw = record { table = table; knows = new }; merges = m.merges; floor = m.floor; noted = m.noted; walk = m.walk; seen = m.seen }

  layout : new.layout ≡ old.layout
  layout = looks.layout ∙ ap (λ (k : Known). k.layout) learns

  told_view : told.merger ≡ old.merger
  told_view = ap (λ (k : Known). k.merger) learns

  told_frozen : IsFrozen told m.merges
  told_frozen = still_frozen old told m.merges (subst (λ (v : MergerView). v ≡ with_floor old.merger v) (sym told_view) refl) frozen

  -- a look at the clock is not noted while an epoch is frozen
  view : new.merger ≡ old.merger
  view = looks.view ∙ unpolled told.layout told.merger x told_frozen.frozen ∙ told_view

  pub met_frozen : IsFrozen new m.merges
  met_frozen = still_frozen old new m.merges (subst (λ (v : MergerView). v ≡ with_floor old.merger v) (sym view) refl) frozen

  pub met_ready : IsReady met
  met_ready = record {
    floor = ready.floor ∙ ap (λ (v : MergerView). v.floor) (sym view);
    noted = ready.noted ∙ ap (λ (v : MergerView). v.noted) (sym view);
    early = subst (λ (z : Layout). m.floor ≤ (m.merges + 1) * z.cells) (sym layout) ready.early;
    room = subst (λ (z : Layout). z.cells ≤ vec_capacity m.walk.group) (sym layout) ready.room;
    seats = ready.seats ∙ ap (λ (z : Layout). z.seats) (sym layout);
  }

  epoch : epoch_known new ≡ epoch_known old
  epoch = epoch_stays told new sound' told_frozen.frozen told_frozen.out.exclusive looks.layout (ap (λ (v : MergerView). v.merged) looks.view) looks.longer
      ∙ ap (λ (k : Known). epoch_known k) learns

  runs : runs_known new ≡ runs_known old
  runs = runs_stay told new (ap (λ (v : MergerView). v.merged) looks.view) (look_leaves told new Clock x looks) ∙ ap (λ (k : Known). runs_known k) learns

  pub met_same : frozen_of met ≡ frozen_of m
  met_same = λ i. record {
    merger = record {
      store = record { table = same_table i; layout = layout i };
      merges = m.merges;
      holds = (view i).holds;
      busy = (view i).busy;
      polls = (view i).clock_looks;
      polled = (view i).clock_found;
    };
    floor = m.floor;
    rounds = (view i).rounds;
    noted = (view i).noted;
    epoch = epoch i;
    runs = runs i;
  }

  pub met_agrees : AgreesWith message.told (frozen_of m)
  met_agrees =
      let same : told.told ≡ message.told = ap (λ (k : Known). k.told) learns in
      subst (AgreesWith message.told) met_same (subst (λ (list : List Slot). AgreesWith list (frozen_of met)) same
      (agreed met sound met_frozen met_ready told.told looks.reaches looks.within))

-- A seat after it noted a snapshot, and after it closed one.
use Rattle.std.proofs.Common.{◌≡◌, ℕ, [], ◌∷◌, ◌++◌, refl, sym, ap, subst, ◌∙◌, arith, ◌&&◌, Bool, true, cond, not, Option, Some}
use Rattle.clsm_law.specs.declared.layout.Layout.{Layout}
use Rattle.clsm_law.specs.declared.word.Word.TheVariants.{Clock}
use Rattle.clsm_law.specs.declared.step.Step.TheVariants.{Note, CloseSnapshot, Look}
use Rattle.clsm_law.specs.declared.view.View.{View}
use Rattle.clsm_law.specs.declared.view.Mode.{Mode}
use Rattle.clsm_law.specs.declared.view.Mode.TheVariants.{Free}
use Rattle.clsm_law.specs.declared.view.SnapshotState.TheVariants.{Absent, Noted, Timed, Open}
use Rattle.clsm_law.specs.declared.view.SnapshotState.{SnapshotState}
use Rattle.clsm_law.specs.Views.{is_free, or_zero}
use Rattle.clsm_law.specs.OpenSteps.{IsOpenSnapshot, open_time, timed}
use Rattle.clsm_law.specs.Relation.{call_of, first_of, is_idle, looked, one_more_if}
use Rattle.clsm_model.specs.declared.record.Deed.TheVariants.{Close}
use Rattle.clsm_words.specs.declared.known.Known.{Known}
use Rattle.clsm_words.specs.Knowing.{Sound, Follows, IsNearHeld}
use Rattle.clsm_words.proofs.Keeps.{past_by, past_trans}
use Rattle.clsm_pins.specs.Snapshots.{ClosesSnapshot, NotesSnapshot}

-- two looks at the clock and a note between them, in a read outside the lock
noted_view : (z : Layout) (v : View) (b t : ℕ) → v.mode ≡ Free → v.pinned ≡ true
    → looked z (record (looked z v Clock b) { snapshot = Noted b }) Clock t
    ≡ record v { fresh_clock = Some t; clock = Some t; pin_clock = Some t; snapshot = Timed b t }
noted_view z v b t free pinned =
    let held = ap (λ (m : Mode). cond (not (is_free m)) (Some t) (cond (not (is_free m)) (Some b) v.hold_clock)) free in
    let under = ap (λ (p : Bool). cond p (Some t) (cond p (Some b) v.pin_clock)) pinned in
    let first = ap (λ (m : Mode). let one = cond (not (is_free m)) (first_of v.hold_first b) v.hold_first in cond (not (is_free m)) (first_of one t) one)
    free in
    let looks : one_more_if (is_idle v) (one_more_if (is_idle v) v.clock_looks) ≡ v.clock_looks =
    λ i. one_more_if (is_free (free i) && not (pinned i)) (one_more_if (is_free (free i) && not (pinned i)) v.clock_looks) in
    λ i. record v {
      fresh_clock = Some t;
      hold_clock = held i;
      hold_first = first i;
      clock = Some t;
      pin_clock = under i;
      snapshot = Timed b t;
      clock_looks = looks i;
    }

pub notes_of : (old first noted new : Known) (b x t : ℕ) → Sound old → old.view.mode ≡ Free → old.view.pinned ≡ true
    → Follows (Look Clock) old b first → Follows (Note b) first x noted → Follows (Look Clock) noted t new → NotesSnapshot old new t
notes_of old first noted new b x t sound free pinned one two three =
    let layout : noted.layout ≡ old.layout = two.layout ∙ one.layout in
    let e : new.view ≡ looked old.layout (record (looked old.layout old.view Clock b) { snapshot = Noted b }) Clock t =
    three.view ∙ (λ i. looked (layout i) ((two.view ∙ ap (λ (v : View). record v { snapshot = Noted b }) one.view) i) Clock t) in
    let is = e ∙ noted_view old.layout old.view b t free pinned in
    let kept = past_trans old first noted (past_by (Look Clock) old first b one refl) (past_by (Note b) first noted x two refl) in
    record {
      keeps = past_trans old noted new kept (past_by (Look Clock) noted new t three refl);
      view = is ∙ ap (λ (s : SnapshotState). record old.view { fresh_clock = Some t; clock = Some t; pin_clock = Some t; snapshot = s })
          (sym (ap (λ (v : View). v.snapshot) is));
      timed = ap (λ (v : View). timed v.snapshot) is;
      due = let tells = three.tells.0 in let d = ap (λ (v : View). v.due) is in omega arith;
      past = let tells = three.tells.5 in let p = ap (λ (v : View). v.past) is in omega arith;
      near = subst (λ (y : Layout × Option ℕ). IsNearHeld y.0 y.1 t) (λ i. ((three.layout ∙ layout) i, ap (λ (v : View). v.held) is i)) three.tells.3;
    }

-- an open snapshot has its time
pub is_opened : (s : SnapshotState) (t : ℕ) → open_time s ≡ Some t → IsOpenSnapshot s
is_opened (Open noted time) t e = tt
is_opened Absent t e = absurd cc
is_opened (Noted noted) t e = absurd cc
is_opened (Timed noted time) t e = absurd cc

pub closes_of : (old new : Known) (x t : ℕ) → Sound old → open_time old.view.snapshot ≡ Some t → Follows CloseSnapshot old x new → ClosesSnapshot old new t
closes_of old new x t sound opened one = record {
  keeps = past_by CloseSnapshot old new x one refl;
  view = one.view ∙ ap (λ (o : Option ℕ). record old.view { snapshot = Absent; calls = old.view.calls ++ call_of old.number (or_zero o) Close ∷ [] }) opened;
}

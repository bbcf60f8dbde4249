-- Looks at the clock and at the limit between two calls, and a refused try of the merger for the lock.
use Rattle.std.proofs.Common.{◌≡◌, ℕ, ◌-◌, ◌&&◌, not, true, false, cond, refl, sym, ap, subst, ◌∙◌, arith, Some}
use Rattle.clsm_law.specs.declared.layout.Layout.{Layout}
use Rattle.clsm_law.specs.declared.word.Word.TheVariants.{Clock, Limit}
use Rattle.clsm_law.specs.declared.step.Step.TheVariants.{Look}
use Rattle.clsm_law.specs.declared.view.View.{View}
use Rattle.clsm_law.specs.declared.view.Mode.TheVariants.{Free}
use Rattle.clsm_law.specs.declared.view.SnapshotState.{SnapshotState}
use Rattle.clsm_law.specs.declared.view.SnapshotState.TheVariants.{Absent, Noted, Timed, Open}
use Rattle.clsm_law.specs.declared.merger.MergerView.{MergerView}
use Rattle.clsm_law.specs.Merging.{is_clean}
use Rattle.clsm_law.specs.Views.{is_free, next_word}
use Rattle.clsm_law.specs.Relation.{first_of, looked, one_more_if, timed_by}
use Rattle.clsm_words.specs.declared.known.Known.{Known}
use Rattle.clsm_words.specs.Knowing.{Follows}
use Rattle.clsm_words.specs.Merging.{FollowsMerger}
use Rattle.clsm_lock.specs.Keeping.{IsRefusedMerger}
use Rattle.clsm_store_calls.specs.declared.merger_seat.MergerSeat.{MergerSeat}
use Rattle.clsm_store_calls.specs.Looking.{IsKeptOut, LooksForRoom, PollsClock}
use Rattle.clsm_store_calls.specs.Merging.{clean_of}
use Rattle.clsm_store_calls.specs.Resting.{IsAtRest, IsSettled}
use Rattle.clsm_store_calls.specs.Tally.{counted}

-- no time is given to a snapshot that is settled
settled_same : (s : SnapshotState) (x : ℕ) → IsSettled s → timed_by s x ≡ s
settled_same Absent x h = refl
settled_same (Noted noted) x h = absurd h
settled_same (Timed noted time) x h = absurd h
settled_same (Open noted time) x h = refl

-- the view after a look at the limit and one at the clock
abbrev polled : View → ℕ → ℕ → View
polled v limit clock = record v {
  fresh_clock = Some clock;
  hold_limit = Some limit;
  clock = Some clock;
  clock_looks = next_word v.clock_looks;
  limit_looks = next_word v.limit_looks;
}

view_polled : (z : Layout) (v : View) (limit clock : ℕ) → v.mode ≡ Free → v.pinned ≡ false → IsSettled v.snapshot
    → looked z (looked z v Limit limit) Clock clock ≡ polled v limit clock
view_polled z v limit clock free unpinned settled =
    let snapshot = settled_same v.snapshot clock settled in
    λ i. record v {
      fresh_clock = Some clock;
      hold_limit = Some limit;
      hold_clock = cond (not (is_free (free i))) (Some clock) v.hold_clock;
      hold_first = cond (not (is_free (free i))) (first_of v.hold_first clock) v.hold_first;
      clock = Some clock;
      pin_clock = cond (unpinned i) (Some clock) v.pin_clock;
      snapshot = snapshot i;
      clock_looks = one_more_if (is_free (free i) && not (unpinned i)) v.clock_looks;
      limit_looks = one_more_if (is_free (free i) && not (unpinned i)) v.limit_looks;
    }

module _ (k k1 k2 : Known) (limit clock : ℕ) (rests : IsAtRest k) (a : Follows (Look Limit) k limit k1) (b : Follows (Look Clock) k1 clock k2) where
  view : k2.view ≡ polled k.view limit clock
  view = b.view ∙ ap (λ (v : View). looked k1.layout v Clock clock) a.view ∙ view_polled k1.layout k.view limit clock rests.free rests.unpinned rests.settled

  pub looks_for_room : (left : ℕ) → left ≡ limit - clock → LooksForRoom k k2 left
  looks_for_room left is =
      let one = a.same (ap (λ (v : View). v.past) a.view) in
      let two = b.same (ap (λ (v : View). v.past) b.view) in record {
        only = record {
          number = b.number ∙ a.number;
          layout = b.layout ∙ a.layout;
          past = two.0 ∙ one.0;
          batches = two.1 ∙ one.1;
          pin = ap (λ (v : View). v.pin) view;
          snapshot = ap (λ (v : View). v.snapshot) view;
          calls = ap (λ (v : View). v.calls) view;
          due = ap (λ (v : View). v.due) view;
        };
        limit = limit;
        tally = ap counted view;
        clock = clock;
        looked = ap (λ (v : View). v.clock) view;
        above = let tells = b.tells.0 in let due = ap (λ (v : View). v.due) view in omega arith;
        left_is = is;
      }

  pub rests_on : IsAtRest k2
  rests_on = record {
    free = ap (λ (v : View). v.mode) view ∙ rests.free;
    unlooked = ap (λ (v : View). v.fresh_lock) view ∙ rests.unlooked;
    undrawn = ap (λ (v : View). v.drawn) view ∙ rests.undrawn;
    unpinned = ap (λ (v : View). v.pinned) view ∙ rests.unpinned;
    settled = subst IsSettled (sym (ap (λ (v : View). v.snapshot) view)) rests.settled;
  }

-- ---- the merger's

-- while nothing is frozen and it does not hold the lock, a look at the clock is counted, and what it
-- found is noted
module _ (k k' : Known) (x : ℕ) (free : k.merger.exclusive ≡ false) (clean : is_clean k.merger.phase ≡ true)
    (follows : FollowsMerger (Look Clock) k x k') where
  polled_view : k'.merger ≡ record k.merger { clock_looks = next_word k.merger.clock_looks; clock_found = x }
  polled_view = follows.view ∙ (λ i. record k.merger {
    clock_looks = one_more_if (not (free i) && clean i) k.merger.clock_looks;
    clock_found = cond (not (free i) && clean i) x k.merger.clock_found;
  })

  pub polled_found : k'.merger.clock_found ≡ x
  polled_found = ap (λ (m : MergerView). m.clock_found) polled_view

pub polls_clock : (old new : MergerSeat) (x : ℕ) → new.raw.table ≡ old.raw.table → new.merges ≡ old.merges → new.floor ≡ old.floor
    → old.raw.knows.merger.exclusive ≡ false → is_clean old.raw.knows.merger.phase ≡ true → FollowsMerger (Look Clock) old.raw.knows x new.raw.knows
    → PollsClock (clean_of old) (clean_of new)
polls_clock old new x table merges floor free clean follows =
    let view = polled_view old.raw.knows new.raw.knows x free clean follows in
    λ i. record {
      merger = record {
        store = record { table = table i; layout = follows.layout i };
        merges = merges i;
        holds = (view i).holds;
        busy = (view i).busy;
        polls = (view i).clock_looks;
        polled = new.raw.knows.merger.clock_found;
      };
      floor = floor i;
      rounds = (view i).rounds;
      readers = (view i).readers;
    }

-- a try for the lock that was refused is counted, and leaves all else
pub kept_out : (old new : MergerSeat) → new.raw.table ≡ old.raw.table → new.merges ≡ old.merges → new.floor ≡ old.floor
    → IsRefusedMerger old.raw.knows new.raw.knows → IsKeptOut (clean_of old) (clean_of new)
kept_out old new table merges floor refused =
    let view = refused.out.merger in
    λ i. record {
      merger = record {
        store = record { table = table i; layout = refused.out.keeps.layout i };
        merges = merges i;
        holds = (view i).holds;
        busy = refused.counted i;
        polls = (view i).clock_looks;
        polled = (view i).clock_found;
      };
      floor = floor i;
      rounds = (view i).rounds;
      readers = (view i).readers;
    }

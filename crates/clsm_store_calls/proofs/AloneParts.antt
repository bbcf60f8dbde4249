-- The parts of a batch with conditions in its hold of the lock, one after another.
use Rattle.std.proofs.Common.{◌≡◌, ◌≢◌, ℕ, ◌+◌, ◌*◌, ◌≤◌, ◌++◌, ◌∷◌, [], List, length, ap, sym, subst, ◌∙◌, arith}
use Rattle.std.proofs.Common.{Bool, cond, Option, None, Some}
use Rattle.clsm_model.specs.History.{plain}
use Rattle.clsm_model.specs.declared.record.CallRecord.{CallRecord}
use Rattle.clsm_model.specs.Right.{Member}
use Rattle.clsm_model.proofs.Batches.{begins_trans, prefix_length}
use Rattle.clsm_law.specs.declared.layout.Layout.{Layout}
use Rattle.clsm_law.specs.declared.step.Step.TheVariants.{Look}
use Rattle.clsm_law.specs.declared.view.Mode.TheVariants.{Free}
use Rattle.clsm_law.specs.declared.view.SnapshotState.{SnapshotState}
use Rattle.clsm_law.specs.declared.view.SnapshotState.TheVariants.{Absent, Noted, Open, Timed}
use Rattle.clsm_law.specs.declared.view.View.{View}
use Rattle.clsm_law.specs.declared.word.Word.TheVariants.{Clock, Limit}
use Rattle.clsm_memtable.specs.Writing.{FindsRoom, IsUnnoted}
use Rattle.clsm_memtable.proofs.Drawn.{finds_room}
use Rattle.clsm_pins.specs.Pinning.{Pins}
use Rattle.clsm_words.specs.declared.known.Known.{Known}
use Rattle.clsm_words.specs.Keeping.{OnlyReads}
use Rattle.clsm_words.specs.Knowing.{Follows, IsNearHeld, Sound, known_of}
use Rattle.clsm_store_calls.specs.declared.conditions.Condition.{Condition}
use Rattle.clsm_store_calls.specs.Batching.{IsAlone}
use Rattle.clsm_store_calls.specs.Conditional.{ActsAlone, BeginsAlone, StandsAt, TestsAlone, WritesAlone, WritesFrom}
use Rattle.clsm_store_calls.specs.Conditional.{due_behind, is_passed, records_of, with_hold, with_read}
use Rattle.clsm_store_calls.specs.Conditions.{AllHold}
use Rattle.clsm_store_calls.specs.Resting.{IsSettled}
use Rattle.clsm_store_calls.proofs.Rest.{same_past}
use Rattle.clsm_store_calls.proofs.Unmet.{all_same, same_below}

unnoted : (s : SnapshotState) → IsSettled s → IsUnnoted s
unnoted Absent is = tt
unnoted (Noted noted) is = absurd is
unnoted (Timed noted time) is = absurd is
unnoted (Open noted time) is = tt

-- ---- the beginning

-- it pinned the component, looked at the limit and the clock, and settled what is below that
module _ (b p l q s : Known) (component t limit : ℕ) (alone : IsAlone b) (pins : Pins b p component) (sound : Sound p)
    (limits : Follows (Look Limit) p limit l) (looks : Follows (Look Clock) l t q) (reads : OnlyReads q s) (settled : t ≤ length s.past) where
  holds : p.view.mode ≢ Free
  holds free = let mode = sym (ap (λ (v : View). v.mode) pins.view ∙ alone.exclusive) ∙ free in absurd cc

  room : FindsRoom p q t limit
  room = finds_room p l q limit t sound holds
      (unnoted p.view.snapshot (subst IsSettled (sym (ap (λ (v : View). v.snapshot) pins.view)) alone.settled)) limits looks

  held_on : q.view.held ≡ Some component
  held_on = ap (λ (v : View). v.held) room.view ∙ ap (λ (v : View). v.held) pins.view

  near : IsNearHeld q.layout (Some component) t
  near = subst (λ (o : Option ℕ). IsNearHeld q.layout o t) held_on looks.tells.3

  clock_noted : q.view.pin_clock ≡ Some t
  clock_noted = ap (λ (v : View). v.pin_clock) looks.view
      ∙ ap (λ (x : Bool). cond x (Some t) l.view.pin_clock) (ap (λ (v : View). v.pinned) limits.view ∙ ap (λ (v : View). v.pinned) pins.view)

  pub begun_alone : BeginsAlone b s component t limit
  begun_alone = record {
    stands = record {
      along = record {
        number = reads.seat.number ∙ room.place.seat.number ∙ pins.keeps.number;
        layout = reads.seat.layout ∙ room.place.seat.layout ∙ pins.keeps.layout;
        past = begins_trans (known_of b) (known_of q) (known_of s)
            (same_past b q (room.place.past ∙ pins.keeps.past) (room.place.batches ∙ pins.keeps.batches)) reads.seat.past;
      };
      clock = ap (λ (v : View). v.hold_clock) reads.view ∙ ap (λ (v : View). v.hold_clock) room.view;
      limit_is = ap (λ (v : View). v.hold_limit) reads.view ∙ ap (λ (v : View). v.hold_limit) room.view;
      seen = ap (λ (v : View). v.clock) reads.view ∙ ap (λ (v : View). v.clock) room.view;
      within = room.within;
      above = let due = room.due in let same = ap (λ (v : View). v.due) pins.view in omega arith;
      reached = settled;
    };
    view = ap (λ (v : View). with_read v s.view) reads.view ∙ ap (λ (v : View). with_read v s.view) room.view
        ∙ ap (λ (v : View). with_read v s.view) pins.view;
    pin = ap (λ (v : View). v.pin) reads.view ∙ ap (λ (v : View). v.pin) room.view ∙ ap (λ (v : View). v.pin) pins.view;
    pinned = ap (λ (v : View). v.pinned) reads.view ∙ ap (λ (v : View). v.pinned) room.view ∙ ap (λ (v : View). v.pinned) pins.view;
    held = ap (λ (v : View). v.held) reads.view ∙ held_on;
    pin_clock = ap (λ (v : View). v.pin_clock) reads.view ∙ clock_noted;
    due = ap (λ (v : View). v.due) reads.view ∙ ap (λ (v : View). v.due) room.view ∙ ap (λ (v : View). v.due) pins.view;
    from = let low = near.0 in let same = ap (λ (z : Layout). component * z.cells) reads.seat.layout in omega arith;
    until = let high = near.1 in let same = ap (λ (z : Layout). (component + 2) * z.cells) reads.seat.layout in omega arith;
  }

-- ---- the hold as a whole

module _ (b u h : Known) (t limit : ℕ) (writes : Bool) (members : List Member) (tests : TestsAlone b u t limit writes)
    (wrote : WritesFrom u h t members) where
  pub acts : ActsAlone b h
  acts = record {
    along = record {
      number = wrote.seat.number ∙ tests.stands.along.number;
      layout = wrote.seat.layout ∙ tests.stands.along.layout;
      past = begins_trans (known_of b) (known_of u) (known_of h) tests.stands.along.past wrote.seat.past;
    };
    view =
        (λ i. record h.view { staged = ap (λ (v : View). v.staged) wrote.view i; drawn = ap (λ (v : View). v.drawn) wrote.view i })
        ∙ ap (λ (v : View). with_hold v h.view) wrote.view
        ∙ ap (λ (v : View). with_hold v h.view) tests.view;
    pin = ap (λ (v : View). v.pin) wrote.view ∙ tests.pin;
    unpinned = ap (λ (v : View). v.pinned) wrote.view ∙ tests.unpinned;
  }

  stands_behind : StandsAt b h t limit
  stands_behind = record {
    along = acts.along;
    clock = ap (λ (v : View). v.hold_clock) wrote.view ∙ tests.stands.clock;
    limit_is = ap (λ (v : View). v.hold_limit) wrote.view ∙ tests.stands.limit_is;
    seen = ap (λ (v : View). v.clock) wrote.view ∙ tests.stands.seen;
    within = tests.stands.within;
    above = tests.stands.above;
    reached = let reached = tests.stands.reached in let longer = prefix_length u.past h.past wrote.seat.past.slots in omega arith;
  }

  calls_behind : h.view.calls ≡ b.view.calls ++ records_of b.number t members
  calls_behind =
      wrote.calls ∙ ap (λ (l : List CallRecord). l ++ records_of u.number t members) (ap (λ (v : View). v.calls) tests.view)
      ∙ ap (λ (n : ℕ). b.view.calls ++ records_of n t members) tests.stands.along.number

-- written
due_written : (b u h : Known) (t : ℕ) (members : List Member) → u.view.due ≡ cond (is_passed None members) b.view.due t
    → h.view.due ≡ due_behind u.view.due t members → h.view.due ≡ t + length members
due_written b u h t [] before after = after ∙ before ∙ omega arith
due_written b u h t (m ∷ ms) before after = after

pub written_alone : (b u h : Known) (t limit : ℕ) (conditions : List Condition) (members : List Member)
    → TestsAlone b u t limit (is_passed None members) → WritesFrom u h t members → AllHold (plain u.past) t conditions
    → WritesAlone b h conditions members t
written_alone b u h t limit conditions members tests wrote all = record {
  limit = limit;
  stands = stands_behind b u h t limit (is_passed None members) members tests wrote;
  holds = all_same (plain u.past) (plain h.past) t (same_below u.past (plain h.past) t wrote.seat.past.slots tests.stands.reached) conditions all;
  calls = calls_behind b u h t limit (is_passed None members) members tests wrote;
  due = due_written b u h t members tests.due wrote.due;
}

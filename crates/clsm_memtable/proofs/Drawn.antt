-- What a draw makes of a seat, and the looks before it.
use Rattle.std.proofs.Common.{◌≡◌, ◌≢◌, ℕ, ◌<◌, ◌≤◌, ◌==◌, ◌&&◌, not, Bool, true, false, cond, refl, sym, ap, ◌∙◌, subst, arith, Option, Some, None}
use Rattle.clsm_law.specs.declared.layout.Layout.{Layout}
use Rattle.clsm_law.specs.declared.word.Word.TheVariants.{Clock, Limit}
use Rattle.clsm_law.specs.declared.step.Step.TheVariants.{Draw, Look}
use Rattle.clsm_law.specs.declared.view.View.{View}
use Rattle.clsm_law.specs.declared.view.Mode.{Mode}
use Rattle.clsm_law.specs.declared.view.Mode.TheVariants.{Free, Shared, Exclusive}
use Rattle.clsm_law.specs.declared.view.SnapshotState.{SnapshotState}
use Rattle.clsm_law.specs.declared.view.SnapshotState.TheVariants.{Absent, Noted, Timed, Open}
use Rattle.clsm_law.specs.Views.{IsBelow, is_free, next_word, or_zero}
use Rattle.clsm_law.specs.Relation.{first_of, looked, one_more_if, taken, timed_by, after_draw}
use Rattle.clsm_words.specs.declared.known.Known.{Known}
use Rattle.clsm_words.specs.Knowing.{IsNearHeld, Sound, Follows}
use Rattle.clsm_words.specs.Keeping.{KeepsPlace}
use Rattle.clsm_words.proofs.Keeps.{place_by, place_trans}
use Rattle.clsm_memtable.specs.Writing.{IsUnnoted, Draws, FindsLimit, FindsRoom, LosesDraw, looked_in_hold, with_looks}

-- ---- the looks

unnoted_same : (s : SnapshotState) (x : ℕ) → IsUnnoted s → timed_by s x ≡ s
unnoted_same Absent x h = refl
unnoted_same (Noted noted) x h = absurd h
unnoted_same (Timed noted time) x h = refl
unnoted_same (Open noted time) x h = refl

-- a seat that holds the lock, shared or alone
unfree : (m : Mode) → m ≢ Free → is_free m ≡ false
unfree Free ne = absurd (ne refl)
unfree Shared ne = refl
unfree Exclusive ne = refl

pub shared_holds : (m : Mode) → m ≡ Shared → m ≢ Free
shared_holds m shared free = absurd cc

-- the view after a look at the limit
abbrev pub with_limit : View → ℕ → View
with_limit v limit = record v { hold_limit = Some limit }

pub limit_seen : (z : Layout) (v : View) (x : ℕ) → v.mode ≢ Free → looked z v Limit x ≡ with_limit v x
limit_seen z v x holds = ap (λ (b : Bool). record (with_limit v x) { limit_looks = one_more_if (b && not v.pinned) v.limit_looks }) (unfree v.mode holds)

-- and after one at the clock
abbrev with_clock : View → ℕ → View
with_clock v time = record v {
  fresh_clock = Some time;
  hold_clock = Some time;
  hold_first = first_of v.hold_first time;
  clock = Some time;
  pin_clock = cond v.pinned (Some time) v.pin_clock;
}

-- both looks
both_looked : (v w : View) (limit time : ℕ) → w ≡ with_clock (with_limit v limit) time → w ≡ looked_in_hold v w limit time
both_looked v w limit time is = subst (λ (u : View). u ≡ looked_in_hold v u limit time) (sym is) refl

clock_seen : (z : Layout) (v : View) (x : ℕ) → v.mode ≢ Free → IsUnnoted v.snapshot → looked z v Clock x ≡ with_clock v x
clock_seen z v x holds unnoted =
    ap (λ (b : Bool). record (with_clock v x) {
      hold_clock = cond (not b) (Some x) v.hold_clock;
      hold_first = cond (not b) (first_of v.hold_first x) v.hold_first;
      snapshot = timed_by v.snapshot x;
      clock_looks = one_more_if (b && not v.pinned) v.clock_looks;
    }) (unfree v.mode holds)
    ∙ ap (λ (s : SnapshotState). record (with_clock v x) { snapshot = s }) (unnoted_same v.snapshot x unnoted)

module _ (k k1 k2 : Known) (limit time : ℕ) (sound : Sound k) (holds : k.view.mode ≢ Free) (unnoted : IsUnnoted k.view.snapshot)
    (a : Follows (Look Limit) k limit k1) (b : Follows (Look Clock) k1 time k2) where
  both_seen : k2.view ≡ with_clock (with_limit k.view limit) time
  both_seen = b.view
      ∙ ap (λ (v : View). looked k1.layout v Clock time) (a.view ∙ limit_seen k.layout k.view limit holds)
      ∙ clock_seen k1.layout (with_limit k.view limit) time holds unnoted

  both_place : KeepsPlace k k2
  both_place = place_trans k k1 k2 (place_by (Look Limit) k k1 limit a refl a.walks) (place_by (Look Clock) k1 k2 time b refl b.walks)
      (λ m held held'. ap (λ (v : View). v.held) a.view ∙ held)

  -- the clock is at most the limit, and not below the due and the past
  within : time ≤ limit
  within = b.tells.4 limit (λ free. holds (sym (ap (λ (v : View). v.mode) both_seen) ∙ free)) (ap (λ (v : View). v.hold_limit) both_seen)

  pub finds_room : FindsRoom k k2 time limit
  finds_room = record {
    place = both_place;
    view = both_looked k.view k2.view limit time both_seen;
    within = within;
    due = let due = b.tells.0 in let e = ap (λ (v : View). v.due) both_seen in omega arith;
    passed = let past = b.tells.5 in let e = ap (λ (v : View). v.past) both_seen in omega arith;
  }

  at_limit : limit ≤ time → limit ≡ time
  at_limit le = let high = within in omega arith

  pub finds_limit : limit ≤ time → FindsLimit k k2 time
  finds_limit le = let is = both_seen ∙ ap (λ (n : ℕ). with_clock (with_limit k.view n) time) (at_limit le) in record {
    place = both_place;
    passed = let past = b.tells.5 in let e = ap (λ (v : View). v.past) both_seen in omega arith;
    view = both_looked k.view k2.view time time is;
  }

  -- ---- the exchange

  module _ (k3 : Known) (x : ℕ) (c : Follows (Draw time) k2 x k3) where
    after : (b : Bool) → (x == time) ≡ b → k3.view ≡ after_draw b (with_clock (with_limit k.view limit) time) time
    after b is = c.view ∙ ap (λ (won : Bool). after_draw won k2.view time) is ∙ ap (λ (v : View). after_draw b v time) both_seen

    place : KeepsPlace k k3
    place = place_trans k k2 k3 both_place (place_by (Draw time) k2 k3 x c refl c.walks) (λ m held held'. ap (λ (v : View). v.held) both_seen ∙ held)

    there : (b : Bool) → (x == time) ≡ b → k3.view.hold_limit ≢ None
    there b is none = let some = ap (λ (v : View). v.hold_limit) (after b is) in absurd cc

    pub draws : time < limit → (x == time) ≡ true → Draws k k3 time
    draws lt won = record {
      place = place;
      view = subst (λ (v : View). v
          ≡ record (with_looks (taken k.view time) v) { hold_clock = Some time; hold_first = first_of k.view.hold_first time; clock = Some time })
          (sym (after true won)) refl;
      looked = there true won;
      below = subst (IsBelow time) (sym (ap (λ (v : View). v.hold_limit) (after true won))) lt;
      due = let due = b.tells.0 in let e = ap (λ (v : View). v.due) both_seen in omega arith;
      near = subst (λ (z : Layout). IsNearHeld z k.view.held time) both_place.seat.layout
          (subst (λ (o : Option ℕ). IsNearHeld k2.layout o time) (ap (λ (v : View). v.held) both_seen) b.tells.3);
      passed = let past = b.tells.5 in let e = ap (λ (v : View). v.past) both_seen in omega arith;
    }

    pub loses_draw : (x == time) ≡ false → LosesDraw k k3
    loses_draw lost = record {
      place = place;
      first = let is = after false lost in ap (λ (v : View). v.hold_first) is
          ∙ ap (λ (v : View). first_of k.view.hold_first (or_zero v.clock)) (sym is);
      view = subst (λ (v : View). v ≡ record (with_looks k.view v) { fresh_clock = None; raced = next_word k.view.raced }) (sym (after false lost)) refl;
      looked = there false lost;
    }

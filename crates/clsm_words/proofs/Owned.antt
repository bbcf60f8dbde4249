-- No open step of a caller changes a word of the merger's own.
use Rattle.std.proofs.Common.{◌≡◌, ◌≢◌, ℕ, ◌+◌, ◌%◌, ◌<◌, ◌≤◌, ⊎_elim, true, length, refl, ap, ◌∙◌, arith, Some, None}
use prog.Atomic.{either}
use Rattle.clsm_law.specs.declared.view.View.{View}
use Rattle.clsm_law.specs.declared.word.Word.{Word}
use Rattle.clsm_law.specs.declared.word.Word.TheVariants.{Clock, Head, Order, State, Count, Entry}
use Rattle.clsm_law.specs.declared.step.Step.{Step}
use Rattle.clsm_law.specs.declared.step.Step.TheVariants.{Draw, Link, FillOrder, Insert, Decide, Cancel, Look, Stage, Commit}
use Rattle.clsm_law.specs.declared.view.Mode.TheVariants.{Shared}
use Rattle.clsm_law.specs.Memory.{cell_of, region_of, link_at, put}
use Rattle.clsm_law.specs.Views.{or_zero}
use Rattle.clsm_law.specs.Merging.{retired_region}
use Rattle.clsm_law.specs.Worlds.{outcome_at}
use Rattle.clsm_law.specs.Law.{first_shown, each}
use Rattle.clsm_law.proofs.Cases.{by_test}
use Rattle.clsm_law.proofs.Frames.{put_other, put_same}
use Rattle.clsm_law.proofs.Batches.Opens.{opens_plain}
use Rattle.clsm_law.proofs.Stepping.Steps.{May, memory_by}
use Rattle.clsm_law.proofs.Setting.{Setting, v, M, x, own, own_drawn, Opens, drawn_shown, none_drawn, undecided}
use Rattle.clsm_law.proofs.Growth.{cancels_shown}
use Rattle.clsm_law.proofs.Decided.Cells.{first_if_quiet, retired_end}
use Rattle.clsm_law.proofs.Runs.Kept.{seat_same}
use Rattle.clsm_law.proofs.Orders.Facts.{R, P, region_small, link_same}
use Rattle.clsm_law.proofs.Clock.Times.{region_of_epoch}
use Rattle.clsm_words.specs.Merging.{IsLetGo, IsOwn}

-- while the merger holds the lock each drawn time is decided
pub held_decided : (s : Setting) → s.merger.exclusive ≡ true → (t : ℕ) → t < length s.slots → outcome_at s.slots t ≢ None
held_decided s e t lt none = let i = s.law.owned t lt none in none_drawn s.ground e i.0 t i.1

-- once what is retired is let go, a shown time is of the other region
module _ (s : Setting) (gone : IsLetGo s.merger) where
  shown_apart : (t : ℕ) → first_shown s.z s.merger ≤ t → t < length s.slots → region_of s.z (cell_of s.z t) ≢ retired_region s.merger
  shown_apart t from until same =
      let first = first_if_quiet s.z s.merger gone.1 in
      let end = retired_end s.ground gone.0 in
      let is : region_of s.z (cell_of s.z t) ≡ s.merger.merged % 2 = region_of_epoch s.z s.merger.merged t (omega arith) (omega arith) in
      absurd (omega arith)

  -- and so is a drawn one
  drawn_apart : (i t : ℕ) → each s.z View.drawn s.views i ≡ Some t → region_of s.z (cell_of s.z t) ≢ retired_region s.merger
  drawn_apart i t e = let d = drawn_shown s.ground i t e in let first = first_if_quiet s.z s.merger gone.1 in let from = d.0 in
      shown_apart t (omega arith) d.1

-- ---- the clock

no_draw : (s : Setting) → s.merger.exclusive ≡ true → (v s).mode ≢ Shared
no_draw s e shared = let free = s.law.locked_out e s.me in absurd cc

own_clock : (s : Setting) (step : Step) → Opens s step → s.merger.exclusive ≡ true → M s step Clock ≡ s.memory Clock
own_clock s (Draw t) o e = absurd (no_draw s e o.0)
own_clock s (Commit members) o e = absurd (let free = s.law.locked_out e s.me in let alone = o.0 in cc)
own_clock s (Look word) o e = λ k. put_same s.memory word k Clock
own_clock s step o e = refl

-- ---- the states

-- another cell's
other_state : (s : Setting) (t c y : ℕ) → cell_of s.z t ≢ c → put s.memory (State (cell_of s.z t)) y (State c) ≡ s.memory (State c)
other_state s t c y ne = put_other s.memory (State (cell_of s.z t)) (State c) y (λ q. ne cc)

-- a cancel of a decided time changes nothing
cancel_held : (s : Setting) (t c : ℕ) → Opens s (Cancel t) → s.merger.exclusive ≡ true → M s (Cancel t) (State c) ≡ s.memory (State c)
cancel_held s t c o e = let shown = cancels_shown s t o in
    by_test (λ b. put s.memory (State (cell_of s.z t)) (either b 1 (s.memory (State (cell_of s.z t)))) (State c) ≡ s.memory (State c)) (x s (Cancel t)) 0
    (λ empty. absurd (held_decided s e t shown.1 (undecided s.ground t shown.0 shown.1 empty)))
    (λ _ k. put_same s.memory (State (cell_of s.z t)) k (State c))

own_state : (s : Setting) (step : Step) → Opens s step → (c : ℕ) → IsOwn s.z s.merger (State c) → M s step (State c) ≡ s.memory (State c)
own_state s (Decide t deed) o c is = ⊎_elim
    (λ (e : s.merger.exclusive ≡ true). absurd (none_drawn s.ground e s.me t o.0))
    (λ (h : IsLetGo s.merger × (region_of s.z c ≡ retired_region s.merger)). other_state s t c _
    (λ q. drawn_apart s h.0 s.me t o.0 (ap (region_of s.z) q ∙ h.1)))
    is
own_state s (Cancel t) o c is = ⊎_elim
    (λ (e : s.merger.exclusive ≡ true). cancel_held s t c o e)
    (λ (h : IsLetGo s.merger × (region_of s.z c ≡ retired_region s.merger)). let shown = cancels_shown s t o in
    other_state s t c _ (λ q. shown_apart s h.0 t shown.0 shown.1 (ap (region_of s.z) q ∙ h.1)))
    is
own_state s (Look word) o c is = λ k. put_same s.memory word k (State c)
own_state s step o c is = refl

-- ---- the heads
own_head : (s : Setting) (step : Step) → Opens s step → (region chain : ℕ) → IsOwn s.z s.merger (Head region chain) → M s step (Head region chain)
    ≡ s.memory (Head region chain)
own_head s (Link head) o region chain is = put_other s.memory (Head (region_of s.z (cell_of s.z (own s))) (or_zero (v s).key % s.z.chains))
    (Head region chain) _ (λ q. let same : region_of s.z (cell_of s.z (own s)) ≡ region = cc in
    drawn_apart s is.0 s.me (own s) (own_drawn s o.0) (same ∙ is.1))
own_head s (Look word) o region chain is = λ k. put_same s.memory word k (Head region chain)
own_head s step o region chain is = refl

-- ---- the heads of the ordered lists
own_order : (s : Setting) (step : Step) → Opens s step → (link : ℕ) → IsOwn s.z s.merger (Order link) → M s step (Order link) ≡ s.memory (Order link)
own_order s (FillOrder w) o link is = put_other s.memory (Order (P s + 1)) (Order link) w
    (λ q. let same : P s + 1 ≡ link = cc in let head = is.1 in absurd (omega arith))
own_order s (Insert p next) o link is = put_other s.memory (Order (link_at (R s) p)) (Order link) _ (λ q.
    let same : link_at (R s) p ≡ link_at link 0 = cc in
    let head = is.1 in
    let one = link_same (R s) link p 0 (region_small s) (omega arith) same in
    drawn_apart s is.0 s.me (own s) (own_drawn s o.0) (one.1 one.0 ∙ is.1))
own_order s (Look word) o link is = λ k. put_same s.memory word k (Order link)
own_order s step o link is = refl

own_plain : (s : Setting) (step : Step) → Opens s step → (word : Word) → IsOwn s.z s.merger word → M s step word ≡ s.memory word
own_plain s step o Clock is = own_clock s step o is
own_plain s step o (Head region chain) is = own_head s step o region chain is
own_plain s step o (Order link) is = own_order s step o link is
own_plain s step o (State cell) is = own_state s step o cell is
own_plain s step o (Count place) is = (seat_same s step o place).count
own_plain s step o (Entry place entry part) is = (seat_same s step o place).words entry part
own_plain s step o word is = absurd is

-- so it is of the step as it is made: the key of a staged cell is none of them
pub own_kept : (s : Setting) (step : Step) → May s step → (word : Word) → IsOwn s.z s.merger word → memory_by s step word ≡ s.memory word
own_kept s (Stage t key) o Clock is = refl
own_kept s (Stage t key) o (Head region chain) is = refl
own_kept s (Stage t key) o (Order link) is = refl
own_kept s (Stage t key) o (State cell) is = refl
own_kept s (Stage t key) o (Count place) is = refl
own_kept s (Stage t key) o (Entry place entry part) is = refl
own_kept s (Stage t key) o word is = absurd is
own_kept s step o word is = own_plain s step (opens_plain s step o) word is

-- How the clauses on the lock, and on the merger's hold of it, are kept.
use Rattle.std.proofs.Common.{◌≡◌, ◌≢◌, ℕ, zero, suc, ◌+◌, ◌*◌, ◌<◌, ◌≤◌, ◌⊎◌, inl, inr, ⊎_elim, Bool, true, false, cond, List, [], ◌∷◌, length}
use Rattle.std.proofs.Common.{set, sym, refl, ap, ◌∙◌, arith, sum_by, Some, length-set}
use mathlib.Core.Logic.{dite}
use native.Mathlib.Decide.{ℕ_discrete}
use prog.Atomic.{either}
use Rattle.std.proofs.lemmas.List.Sums.{sum_by-set, sum_by-cons}
use Rattle.std.proofs.Math.ListN.{length-replicate}
use Rattle.clsm_model.specs.declared.slot.Slot.TheVariants.{Nothing}
use Rattle.clsm_model.specs.declared.record.Deed.{Deed}
use Rattle.clsm_model.specs.Right.{write_by}
use Rattle.clsm_law.specs.declared.layout.Layout.{Layout}
use Rattle.clsm_law.specs.declared.word.Word.{Word}
use Rattle.clsm_law.specs.declared.word.Word.TheVariants.{Lock, Clock, Snap, Pin as PinOf}
use Rattle.clsm_law.specs.declared.step.Step.{Step}
use Rattle.clsm_law.specs.declared.step.Step.TheVariants.{EnterShared, LeaveShared, EnterExclusive, LeaveExclusive, Draw, Fill, Decide, Cancel, Look, Pad}
use Rattle.clsm_law.specs.declared.step.Step.TheVariants.{WriteRun, ClearState, Publish, ExtendClock, ExtendLimit}
use Rattle.clsm_law.specs.declared.view.View.{View}
use Rattle.clsm_law.specs.declared.view.Mode.{Mode}
use Rattle.clsm_law.specs.declared.view.Mode.TheVariants.{Free, Shared, Exclusive}
use Rattle.clsm_law.specs.declared.merger.MergerView.{MergerView}
use Rattle.clsm_law.specs.declared.merger.Phase.TheVariants.{Frozen}
use Rattle.clsm_law.specs.Codes.{exclusive_hold, less}
use Rattle.clsm_law.specs.Memory.{Memory}
use Rattle.clsm_law.specs.Views.{hold_of, idle}
use Rattle.clsm_law.specs.Merging.{epoch_end, is_retired, merger_looked, unseen, reader_at, reader_by}
use Rattle.clsm_law.specs.Law.{each, holders, IsLockedOut, AreSole, IsMerger}
use Rattle.clsm_law.proofs.Cases.{by_test, by_bool}
use Rattle.clsm_law.proofs.Frames.{keep1, puts_each, same_each, looked_leaves, filled_leaves}
use Rattle.clsm_law.proofs.Setting.{Setting, v, x, w, M, V, S, Opens, looked_same, Ground, found, merger', memory', slots', OpensTo, merger_looked_same}
use Rattle.clsm_law.proofs.Setting.{by_seat}
use Rattle.clsm_law.proofs.GrowthMerger.{length_passed}
use Rattle.clsm_law.proofs.Decided.Kept.{run_other}
use Rattle.clsm_law.proofs.Phases.{retired_not_clean, frozen_not_clean}

-- ---- tests and modes

-- a test does not come out both ways
pub not_both : {b : Bool} → b ≡ true → b ≡ false → ⊥
not_both e f = cc

-- a look leaves the merger's hold
pub exclusive_looked : (z : Layout) (m : MergerView) (word : Word) (n : ℕ) → (merger_looked z m word n).exclusive ≡ m.exclusive
exclusive_looked z m (Snap i) n = refl
exclusive_looked z m word n = refl

-- ---- seats

pub seated_kept : (s : Setting) (step : Step) → Opens s step → length (V s step) ≡ s.z.seats
seated_kept s step o = length-set s.views s.me (w s step) ∙ s.law.seated

pub seated_merged : (g : Ground) (step : Step) → OpensTo g step → length g.views ≡ g.z.seats
seated_merged g step o = g.law.seated

-- ---- the holders

-- who holds the lock exclusively has its word
lock_held : (g : Ground) → g.merger.exclusive ≡ true → g.memory Lock ≡ exclusive_hold
lock_held g e = g.law.lock ∙ ap (λ b. cond b exclusive_hold (sum_by holders g.views)) e

-- else its word counts the shared holders
lock_shared : (g : Ground) → g.merger.exclusive ≡ false → g.memory Lock ≡ sum_by holders g.views
lock_shared g e = g.law.lock ∙ ap (λ b. cond b exclusive_hold (sum_by holders g.views)) e

-- a seat adds one hold at most
hold_most : (m : Mode) → hold_of m ≤ exclusive_hold
hold_most Free = omega arith
hold_most Shared = omega arith
hold_most Exclusive = omega arith

-- so all holds together fit the word
holders_below : (views : List View) → sum_by holders views ≤ exclusive_hold * length views
holders_below [] = omega arith
holders_below (y ∷ ys) = let a = sum_by-cons holders y ys in let b = holders_below ys in let c = hold_most y.mode in omega arith

-- where no seat holds the lock the count is 0
none_shared : (z : Layout) (views : List View) → ((i : ℕ) → each z View.mode views i ≡ Free) → sum_by holders views ≡ 0
none_shared z [] h = refl
none_shared z (y ∷ ys) h = let a = sum_by-cons holders y ys in let b = none_shared z ys (λ i. h (suc i)) in let c : holders y ≡ 0 = ap hold_of (h 0) in
    omega arith

-- and where a seat counts for nothing it is no holder
no_holder : (m : Mode) → hold_of m ≡ 0 → m ≡ Free
no_holder Free e = refl
no_holder Shared e = absurd (omega arith)
no_holder Exclusive e = absurd (omega arith)

-- and so where the count is 0, no seat is
pub shared_none : (z : Layout) (views : List View) → sum_by holders views ≡ 0 → (i : ℕ) → each z View.mode views i ≡ Free
shared_none z [] e i = refl
shared_none z (y ∷ ys) e zero = let a = sum_by-cons holders y ys in no_holder y.mode (omega arith)
shared_none z (y ∷ ys) e (suc i) = let a = sum_by-cons holders y ys in shared_none z ys (omega arith) i

-- where the count is below an exclusive hold, there is none
none_exclusive : (z : Layout) (views : List View) → sum_by holders views < exclusive_hold → (i : ℕ) → each z View.mode views i ≢ Exclusive
none_exclusive z [] lt i e = absurd cc
none_exclusive z (y ∷ ys) lt zero e = let a = sum_by-cons holders y ys in let b : holders y ≡ exclusive_hold = ap hold_of e in absurd (omega arith)
none_exclusive z (y ∷ ys) lt (suc i) e = let a = sum_by-cons holders y ys in none_exclusive z ys (omega arith) i e

-- where none is exclusive they are no more than the seats
holders_few : (z : Layout) (views : List View) → ((i : ℕ) → each z View.mode views i ≢ Exclusive) → sum_by holders views ≤ length views
holders_few z [] none = omega arith
holders_few z (y ∷ ys) none = let a = sum_by-cons holders y ys in let b = holders_few z ys (λ i. none (suc i)) in let c = one_most y.mode (none 0) in
    omega arith
  where
    one_most : (m : Mode) → m ≢ Exclusive → hold_of m ≤ 1
    one_most Free ne = omega arith
    one_most Shared ne = omega arith
    one_most Exclusive ne = absurd (ne refl)

-- and where one is, it is the only one
holders_most : (z : Layout) (views : List View) → AreSole (each z View.mode views)
    → (sum_by holders views ≤ exclusive_hold) ⊎ (sum_by holders views ≤ length views)
holders_most z [] sole = inl (omega arith)
holders_most z (y ∷ ys) sole = head y.mode refl (holders_most z ys (λ i j f ne. sole (suc i) (suc j) f (λ same. ne (omega arith))))
  where
    head : (m : Mode) → y.mode ≡ m → (sum_by holders ys ≤ exclusive_hold) ⊎ (sum_by holders ys ≤ length ys) → (sum_by holders (y ∷ ys) ≤ exclusive_hold)
        ⊎ (sum_by holders (y ∷ ys) ≤ length (y ∷ ys))
    head Exclusive e rest = let a = sum_by-cons holders y ys in let b = none_shared z ys (λ i. sole 0 (suc i) e (λ same. absurd (omega arith))) in
        let c : holders y ≡ exclusive_hold = ap hold_of e in inl (omega arith)
    head Free e rest = let a = sum_by-cons holders y ys in let c : holders y ≡ 0 = ap hold_of e in
        ⊎_elim (λ (le : sum_by holders ys ≤ exclusive_hold). inl (omega arith)) (λ (le : sum_by holders ys ≤ length ys). inr (omega arith)) rest
    head Shared e rest = let a = sum_by-cons holders y ys in let c : holders y ≡ 1 = ap hold_of e in let b =
        holders_few z ys (λ i f. absurd (let free = sole (suc i) 0 f (λ same. absurd (omega arith)) in cc)) in inr (omega arith)

-- a holder keeps the merger out
pub held_free : (g : Ground) (i : ℕ) → each g.z View.mode g.views i ≢ Free → g.merger.exclusive ≡ false
held_free g i ne = by_bool (λ b. g.merger.exclusive ≡ b → g.merger.exclusive ≡ false) g.merger.exclusive (λ _ h. absurd (ne (g.law.locked_out h i)))
    (λ _ h. h) refl

pub shared_free : (g : Ground) (i : ℕ) → each g.z View.mode g.views i ≡ Shared → g.merger.exclusive ≡ false
shared_free g i e = held_free g i (λ free. absurd cc)

pub exclusive_free : (g : Ground) (i : ℕ) → each g.z View.mode g.views i ≡ Exclusive → g.merger.exclusive ≡ false
exclusive_free g i e = held_free g i (λ free. absurd cc)

-- where LOCK is 0 nobody holds it
unlocked : (g : Ground) → g.memory Lock ≡ 0 → g.merger.exclusive ≡ false
unlocked g e = by_bool (λ b. g.merger.exclusive ≡ b → g.merger.exclusive ≡ false) g.merger.exclusive (λ _ h. let a = lock_held g h in absurd (omega arith))
    (λ _ h. h) refl

pub all_free : (g : Ground) → g.memory Lock ≡ 0 → (i : ℕ) → each g.z View.mode g.views i ≡ Free
all_free g e = let a = lock_shared g (unlocked g e) in shared_none g.z g.views (omega arith)

-- LOCK is no greater than an exclusive hold
pub lock_most : (g : Ground) → g.memory Lock ≤ exclusive_hold
lock_most g = by_bool (λ b. g.merger.exclusive ≡ b → g.memory Lock ≤ exclusive_hold) g.merger.exclusive (λ _ h. let a = lock_held g h in omega arith)
    (λ _ h. let a = lock_shared g h in let c = g.law.seated in let d = g.sound.1.1 in
    ⊎_elim (λ (b : sum_by holders g.views ≤ exclusive_hold). omega arith) (λ (b : sum_by holders g.views ≤ length g.views). omega arith)
    (holders_most g.z g.views g.law.sole)) refl

-- ---- the lock's word
module _ (s : Setting) where
  -- the count after the step: the seat's old view is taken out and its new one counted
  counted : (y : View) → sum_by holders (set s.views s.me y) + holders (v s) ≡ sum_by holders s.views + holders y
  counted y = sum_by-set holders s.views s.me y (idle s.z) s.inside

  -- a step that leaves the mode leaves the count
  pub same_count : (y : View) → y.mode ≡ (v s).mode → cond s.merger.exclusive exclusive_hold (sum_by holders s.views)
      ≡ cond s.merger.exclusive exclusive_hold (sum_by holders (set s.views s.me y))
  same_count y e = let a = counted y in let b : holders y ≡ holders (v s) = ap hold_of e in let c : sum_by holders s.views
      ≡ sum_by holders (set s.views s.me y) = omega arith in ap (cond s.merger.exclusive exclusive_hold) c

  -- who enters finds no exclusive holder
  pub enters_free : (l : ℕ) → Opens s (EnterShared l) → x s (EnterShared l) ≡ l → s.merger.exclusive ≡ false
  enters_free l o e = by_bool (λ b. s.merger.exclusive ≡ b → s.merger.exclusive ≡ false) s.merger.exclusive
      (λ _ h. let a = lock_held s.ground h in let b = o.2 in absurd (omega arith)) (λ _ h. h) refl

  -- among the callers neither
  pub enters_beside : (l : ℕ) → Opens s (EnterShared l) → x s (EnterShared l) ≡ l → (i : ℕ) → each s.z View.mode s.views i ≢ Exclusive
  enters_beside l o e = let a = lock_shared s.ground (enters_free l o e) in let b = o.2 in none_exclusive s.z s.views (omega arith)

  -- an entry that wins adds the seat to the count, and one that loses leaves it
  lock_enters : (l n : ℕ) → Opens s (EnterShared l) → (b : Bool) → (b ≡ true → x s (EnterShared l) ≡ l) → n + holders (v s)
      ≡ sum_by holders s.views + hold_of (cond b Shared (v s).mode)
      → either b (l + 1) (s.memory Lock) ≡ cond s.merger.exclusive exclusive_hold n
  lock_enters l n o true won e = let free = enters_free l o (won refl) in let found = lock_shared s.ground free in let here = won refl in
      let none : holders (v s) ≡ 0 = ap hold_of o.0 in rw free (omega arith)
  lock_enters l n o false won e = let same : sum_by holders s.views ≡ n = omega arith in s.law.lock ∙ ap (cond s.merger.exclusive exclusive_hold) same

  -- so does one that takes it alone
  lock_takes : (n : ℕ) → Opens s EnterExclusive → (b : Bool) → (b ≡ true → x s EnterExclusive ≡ 0) → n + holders (v s)
      ≡ sum_by holders s.views + hold_of (cond b Exclusive (v s).mode)
      → either b exclusive_hold (s.memory Lock) ≡ cond s.merger.exclusive exclusive_hold n
  lock_takes n o true won e = let free = unlocked s.ground (won refl) in let found = lock_shared s.ground free in let here = won refl in
      let none : holders (v s) ≡ 0 = ap hold_of o in rw free (omega arith)
  lock_takes n o false won e = let same : sum_by holders s.views ≡ n = omega arith in s.law.lock ∙ ap (cond s.merger.exclusive exclusive_hold) same

  -- a holder that leaves takes 1 from the word and from the count
  lock_leaves : (n : ℕ) → Opens s LeaveShared → n + holders (v s) ≡ sum_by holders s.views + 0 → less 1 (s.memory Lock)
      ≡ cond s.merger.exclusive exclusive_hold n
  lock_leaves n o e = let free = shared_free s.ground s.me o.0 in let found = lock_shared s.ground free in let one : holders (v s) ≡ 1 =
      ap hold_of o.0 in let few = holders_below s.views in let seats = s.law.seated in let most = s.sound.1.1 in
      rw free (omega arith)

  -- and one that held it alone takes its hold
  lock_gives : (n : ℕ) → Opens s LeaveExclusive → n + holders (v s) ≡ sum_by holders s.views + 0 → less exclusive_hold (s.memory Lock)
      ≡ cond s.merger.exclusive exclusive_hold n
  lock_gives n o e = let free = exclusive_free s.ground s.me o.0 in let found = lock_shared s.ground free in let one : holders (v s) ≡ exclusive_hold =
      ap hold_of o.0 in let few = holders_below s.views in let seats = s.law.seated in let most = s.sound.1.1 in
      rw free (omega arith)

pub lock_kept : (s : Setting) (step : Step) → Opens s step → M s step Lock ≡ cond s.merger.exclusive exclusive_hold (sum_by holders (V s step))
lock_kept s (EnterShared l) o = by_test (λ b. (n : ℕ) → n + holders (v s) ≡ sum_by holders s.views + hold_of (cond b Shared (v s).mode)
    → either b (l + 1) (s.memory Lock) ≡ cond s.merger.exclusive exclusive_hold n) (x s (EnterShared l)) l
    (λ e n. lock_enters s l n o true (λ _. e)) (λ _ n. lock_enters s l n o false (λ f. absurd cc)) (sum_by holders (V s (EnterShared l)))
    (counted s (w s (EnterShared l)))
lock_kept s EnterExclusive o = by_test (λ b. (n : ℕ) → n + holders (v s) ≡ sum_by holders s.views + hold_of (cond b Exclusive (v s).mode)
    → either b exclusive_hold (s.memory Lock) ≡ cond s.merger.exclusive exclusive_hold n) (x s EnterExclusive) 0
    (λ e n. lock_takes s n o true (λ _. e)) (λ _ n. lock_takes s n o false (λ f. absurd cc)) (sum_by holders (V s EnterExclusive))
    (counted s (w s EnterExclusive))
lock_kept s LeaveShared o = lock_leaves s (sum_by holders (V s LeaveShared)) o (counted s (w s LeaveShared))
lock_kept s LeaveExclusive o = lock_gives s (sum_by holders (V s LeaveExclusive)) o (counted s (w s LeaveExclusive))
lock_kept s (Fill part n) o = s.law.lock ∙ same_count s (w s (Fill part n)) (filled_leaves (v s) part n).0
lock_kept s (Look word) o = ap (λ (m : Memory). m Lock) (looked_same s word) ∙ s.law.lock
    ∙ same_count s (w s (Look word)) (looked_leaves s.z (v s) word (x s (Look word))).0
lock_kept s step o = s.law.lock ∙ same_count s (w s step) refl

-- the merger leaves the word at 0, and no seat holds the lock
lock_frees : (g : Ground) → OpensTo g LeaveExclusive → less exclusive_hold (g.memory Lock) ≡ sum_by holders g.views
lock_frees g o = let found = lock_held g o.0 in let none = none_shared g.z g.views (g.law.locked_out o.0) in omega arith

pub lock_merged : (g : Ground) (step : Step) → OpensTo g step → memory' g step Lock ≡ cond (merger' g step).exclusive exclusive_hold (sum_by holders g.views)
lock_merged g EnterExclusive o =
    by_test (λ b. either b exclusive_hold (g.memory Lock) ≡ cond (cond b true g.merger.exclusive) exclusive_hold (sum_by holders g.views))
    (found g EnterExclusive) 0 (λ _. refl) (λ _. g.law.lock)
lock_merged g LeaveExclusive o = lock_frees g o
lock_merged g (Look word) o = ap (λ (m : Memory). m Lock) (merger_looked_same g word) ∙ g.law.lock
    ∙ ap (λ b. cond b exclusive_hold (sum_by holders g.views)) (sym (exclusive_looked g.z g.merger word (found g (Look word))))
lock_merged g (WriteRun word n) o = run_other g.memory word Lock n o.1 (λ r. r) ∙ g.law.lock
lock_merged g step o = g.law.lock

-- ---- the merger locks the callers out, and its end is its own

locked_out_after : (s : Setting) (step : Step) → Opens s step → s.merger.exclusive ≡ true → (w s step).mode ≡ Free
locked_out_after s (EnterShared l) o e = by_test (λ b. cond b Shared (v s).mode ≡ Free) (x s (EnterShared l)) l
    (λ won. absurd (not_both e (enters_free s l o won))) (λ _. o.0)
locked_out_after s EnterExclusive o e = by_test (λ b. cond b Exclusive (v s).mode ≡ Free) (x s EnterExclusive) 0
    (λ won. absurd (not_both e (unlocked s.ground won))) (λ _. o)
locked_out_after s LeaveShared o e = refl
locked_out_after s LeaveExclusive o e = refl
locked_out_after s (Fill part n) o e = (filled_leaves (v s) part n).0 ∙ s.law.locked_out e s.me
locked_out_after s (Look word) o e = (looked_leaves s.z (v s) word (x s (Look word))).0 ∙ s.law.locked_out e s.me
locked_out_after s step o e = s.law.locked_out e s.me

pub locked_out_kept : (s : Setting) (step : Step) → Opens s step → IsLockedOut s.merger.exclusive (each s.z View.mode (V s step))
locked_out_kept s step o e = by_seat s (w s step) (λ _ u. u.mode ≡ Free) (locked_out_after s step o e) (λ i ne. s.law.locked_out e i)

pub locked_out_merged : (g : Ground) (step : Step) → OpensTo g step → IsLockedOut (merger' g step).exclusive (each g.z View.mode g.views)
locked_out_merged g EnterExclusive o = by_test (λ b. IsLockedOut (cond b true g.merger.exclusive) (each g.z View.mode g.views)) (found g EnterExclusive) 0
    (λ e _. let a = lock_shared g o.1 in shared_none g.z g.views (omega arith)) (λ _. g.law.locked_out)
locked_out_merged g LeaveExclusive o = λ e. absurd cc
locked_out_merged g (Look word) o = keep1 (λ b. IsLockedOut b (each g.z View.mode g.views))
    (exclusive_looked g.z g.merger word (found g (Look word))) g.law.locked_out
locked_out_merged g step o = g.law.locked_out

-- from the seat's own hold after the step, and from what another's exclusive hold leaves it
sole_by : (s : Setting) (y : View) → (y.mode ≡ Exclusive → (j : ℕ) → j ≢ s.me → each s.z View.mode s.views j ≡ Free)
    → ((i : ℕ) → i ≢ s.me → each s.z View.mode s.views i ≡ Exclusive → y.mode ≡ Free) → AreSole (each s.z View.mode (set s.views s.me y))
sole_by s y own other i j e ne = let p = puts_each s.z View.mode s.views s.me y s.inside in let f = each s.z View.mode (set s.views s.me y) in
    dite (ℕ_discrete i s.me)
    (λ (a : i ≡ s.me). dite (ℕ_discrete j s.me)
    (λ (b : j ≡ s.me). absurd (ne (b ∙ sym a)))
    (λ n. p.other j n ∙ own (sym p.here ∙ ap f (sym a) ∙ e) j n))
    (λ a. dite (ℕ_discrete j s.me)
    (λ (b : j ≡ s.me). ap f b ∙ p.here ∙ other i a (sym (p.other i a) ∙ e))
    (λ n. p.other j n ∙ s.law.sole i j (sym (p.other i a) ∙ e) ne))

-- an entry that loses leaves the mode
pub sole_same : (s : Setting) (y : View) → y.mode ≡ (v s).mode → AreSole (each s.z View.mode (set s.views s.me y))
sole_same s y e = keep1 AreSole (same_each s.z View.mode s.views s.me y s.inside e) s.law.sole

pub sole_kept : (s : Setting) (step : Step) → Opens s step → AreSole (each s.z View.mode (V s step))
sole_kept s (EnterShared l) o = sole_by s (w s (EnterShared l))
    (by_test (λ b. cond b Shared (v s).mode ≡ Exclusive → (j : ℕ) → j ≢ s.me → each s.z View.mode s.views j ≡ Free) (x s (EnterShared l)) l (λ _ e. absurd cc)
    (λ _ e. absurd (let free = o.0 in cc)))
    (λ i ne e. by_test (λ b. cond b Shared (v s).mode ≡ Free) (x s (EnterShared l)) l (λ won. absurd (enters_beside s l o won i e)) (λ _. o.0))
sole_kept s EnterExclusive o = sole_by s (w s EnterExclusive)
    (by_test (λ b. cond b Exclusive (v s).mode ≡ Exclusive → (j : ℕ) → j ≢ s.me → each s.z View.mode s.views j ≡ Free) (x s EnterExclusive) 0
    (λ won _ j _. all_free s.ground won j) (λ _ e. absurd cc))
    (λ i ne e. by_test (λ b. cond b Exclusive (v s).mode ≡ Free) (x s EnterExclusive) 0 (λ won. absurd (let free = all_free s.ground won i in cc)) (λ _. o))
sole_kept s LeaveShared o = sole_by s (w s LeaveShared) (λ e. absurd cc) (λ i ne e. refl)
sole_kept s LeaveExclusive o = sole_by s (w s LeaveExclusive) (λ e. absurd cc) (λ i ne e. refl)
sole_kept s (Fill part n) o = sole_same s (w s (Fill part n)) (filled_leaves (v s) part n).0
sole_kept s (Look word) o = sole_same s (w s (Look word)) (looked_leaves s.z (v s) word (x s (Look word))).0
sole_kept s step o = sole_same s (w s step) refl

pub sole_merged : (g : Ground) (step : Step) → OpensTo g step → AreSole (each g.z View.mode g.views)
sole_merged g step o = g.law.sole

-- ---- the merger's own clause

-- a decide and a cancel leave the clock
pub decide_length : (s : Setting) (t : ℕ) (deed : Deed) → length (S s (Decide t deed)) ≡ length s.slots
decide_length s t deed = by_test (λ b. length (cond b (set s.slots t (write_by s.me deed)) s.slots) ≡ length s.slots) (x s (Decide t deed)) 0
    (λ _. length-set s.slots t (write_by s.me deed)) (λ _. refl)

pub cancel_length : (s : Setting) (t : ℕ) → length (S s (Cancel t)) ≡ length s.slots
cancel_length s t = by_test (λ b. length (cond b (set s.slots t (Some Nothing)) s.slots) ≡ length s.slots) (x s (Cancel t)) 0
    (λ _. length-set s.slots t (Some Nothing)) (λ _. refl)

-- a view of the merger with another's phase, merges, hold and freeze
abbrev beside : MergerView → MergerView → MergerView
beside m new =
    record new { phase = m.phase; merged = m.merged; exclusive = m.exclusive; clock_extended = m.clock_extended; limit_extended = m.limit_extended }

-- the clause does not name the rest, but for how many readers there are; and it says nothing of the
-- cancelled cells and of the clock but in a hold of the merger, and in a freeze
merger_beside : (z : Layout) (m new : MergerView) (clock clock' : ℕ) → IsMerger z m clock → length new.readers ≡ z.seats
    → (new.padded ≡ true → m.exclusive ≡ true) → (m.clock_extended ≡ true → clock' ≡ epoch_end z m) → IsMerger z (beside m new) clock'
merger_beside z m new clock clock' h seats pads at_end = record {
  seats = seats;
  some_merged = h.some_merged;
  clean = h.clean;
  pads = pads;
  extends = h.extends;
  limit_after = h.limit_after;
  at_end = at_end;
  top = h.top;
}

-- while the merger does not hold the lock, it says nothing of the clock
pub merger_unheld : (s : Setting) (clock : ℕ) → s.merger.exclusive ≡ false → IsMerger s.z s.merger clock
merger_unheld s clock free = let h = s.law.merger in
    merger_beside s.z s.merger s.merger (length s.slots) clock h h.seats h.pads (λ e. absurd (not_both (h.extends e) free))

pub merger_kept : (s : Setting) (step : Step) → Opens s step → IsMerger s.z s.merger (length (S s step))
merger_kept s (Draw t) o = merger_unheld s (length (S s (Draw t))) (shared_free s.ground s.me o.0)
merger_kept s (Decide t deed) o = keep1 (IsMerger s.z s.merger) (decide_length s t deed) s.law.merger
merger_kept s (Cancel t) o = keep1 (IsMerger s.z s.merger) (cancel_length s t) s.law.merger
merger_kept s step o = s.law.merger

-- a freeze ends in phase frozen, and another hold leaves the phase
merger_leaves : (m : MergerView) (n : ℕ) (z : Layout) → IsMerger z m n → (b : Bool) → is_retired (cond b Frozen m.phase) ≡ true → 1 ≤ m.merged
merger_leaves m n z h true f = absurd cc
merger_leaves m n z h false f = h.some_merged f

-- so after a step that leaves those
merger_stays : (g : Ground) (step : Step) → length (merger' g step).readers ≡ g.z.seats → ((merger' g step).padded ≡ true → g.merger.exclusive ≡ true)
    → IsMerger g.z (beside g.merger (merger' g step)) (length g.slots)
merger_stays g step seats pads = merger_beside g.z g.merger (merger' g step) (length g.slots) (length g.slots) g.law.merger seats pads g.law.merger.at_end

pub merger_merged : (g : Ground) (step : Step) → OpensTo g step → IsMerger g.z (merger' g step) (length (slots' g step))
merger_merged g EnterExclusive o = let h = g.law.merger in record {
  seats = h.seats;
  some_merged = h.some_merged;
  clean = λ _. o.0;
  pads = λ e. absurd (not_both (h.pads e) o.1);
  extends = λ e. absurd (not_both (h.extends e) o.1);
  limit_after = h.limit_after;
  at_end = h.at_end;
  top = h.top;
}
merger_merged g LeaveExclusive o = let h = g.law.merger in record {
  seats = h.seats;
  some_merged = merger_leaves g.merger (length g.slots) g.z h g.merger.limit_extended;
  clean = λ e. absurd cc;
  pads = λ e. absurd cc;
  extends = λ e. absurd cc;
  limit_after = λ e. absurd cc;
  at_end = λ e. absurd cc;
  top = λ e. absurd cc;
}
merger_merged g (Look (Snap i)) o = merger_stays g (Look (Snap i)) g.law.merger.seats g.law.merger.pads
merger_merged g (Look (PinOf i)) o = let n = found g (Look (PinOf i)) in merger_stays g (Look (PinOf i))
    (by_bool (λ b. length (cond b (set g.merger.readers i (reader_by (reader_at g.merger.readers i) n)) g.merger.readers) ≡ g.z.seats)
    (is_retired g.merger.phase)
    (λ _. length-set g.merger.readers i (reader_by (reader_at g.merger.readers i) n) ∙ g.law.merger.seats) (λ _. g.law.merger.seats)) g.law.merger.pads
merger_merged g (Look Clock) o = merger_stays g (Look Clock) g.law.merger.seats g.law.merger.pads
merger_merged g (Look word) o = g.law.merger
merger_merged g (Pad t) o = merger_stays g (Pad t) g.law.merger.seats (λ _. o.0)
merger_merged g (ClearState cell) o = let h = g.law.merger in record {
  seats = h.seats;
  some_merged = λ _. h.some_merged o.0;
  clean = λ e. absurd (retired_not_clean g.merger.phase o.0 (h.clean e));
  pads = h.pads;
  extends = h.extends;
  limit_after = h.limit_after;
  at_end = h.at_end;
  top = h.top;
}
merger_merged g Publish o = let h = g.law.merger in let not_held : g.merger.exclusive ≡ true → ⊥ = λ e. frozen_not_clean g.merger.phase o.0 (h.clean e) in
    record {
      seats = length-replicate g.z.seats unseen;
      some_merged = λ _. omega arith;
      clean = λ e. absurd (not_held e);
      pads = h.pads;
      extends = h.extends;
      limit_after = h.limit_after;
      at_end = λ e. absurd (not_held (h.extends e));
      top = λ e. absurd (not_held (h.extends e));
    }
merger_merged g ExtendClock o = let h = g.law.merger in record {
  seats = h.seats;
  some_merged = h.some_merged;
  clean = h.clean;
  pads = h.pads;
  extends = λ _. o.0;
  limit_after = λ _. refl;
  at_end = λ _. length_passed g o;
  top = λ _. o.2;
}
merger_merged g ExtendLimit o = let h = g.law.merger in record {
  seats = h.seats;
  some_merged = h.some_merged;
  clean = h.clean;
  pads = h.pads;
  extends = h.extends;
  limit_after = λ _. o.1;
  at_end = h.at_end;
  top = h.top;
}
merger_merged g step o = g.law.merger

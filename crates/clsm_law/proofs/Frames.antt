-- What a step changes, and what it leaves as it was, of the functions that the clauses name.
use Rattle.std.proofs.Common.{◌≡◌, ◌≢◌, ℕ, zero, suc, ◌<◌, cond, List, [], ◌∷◌, ◌++◌, length, set, sym, refl, ap, ◌∙◌, subst, arith, Option, Some, None}
use Rattle.std.proofs.Common.{get_or-set_other, get_or-set_same}
use mathlib.Core.Logic.{dite}
use native.Mathlib.Decide.{ℕ_discrete}
use Rattle.clsm_model.specs.declared.slot.Slot.{Slot}
use Rattle.clsm_law.specs.declared.layout.Layout.{Layout}
use Rattle.clsm_law.specs.declared.word.Word.{Word}
use Rattle.clsm_law.specs.declared.word.Word.TheVariants.{Lock}
use Rattle.clsm_law.specs.declared.word.Part.{Part}
use Rattle.clsm_law.specs.declared.word.Part.TheVariants.{Key}
use Rattle.clsm_law.specs.declared.view.View.{View}
use Rattle.clsm_law.specs.Memory.{Memory, is_same, put}
use Rattle.clsm_law.specs.Views.{idle}
use Rattle.clsm_law.specs.Relation.{given_up, looked, filled}
use Rattle.clsm_law.specs.Worlds.{view_at, outcome_at}
use Rattle.clsm_law.specs.Law.{each}
use Rattle.clsm_law.proofs.Rows.Words.{same_word, is_same-refl}
use Rattle.clsm_law.proofs.Cases.{by_test, by_bool}

-- g is f, but x at k
pub record Puts {A : Type 0} (f g : ℕ → A) (k : ℕ) (x : A) : Type 0 where
  pub here : g k ≡ x
  pub other : (i : ℕ) → i ≢ k → g i ≡ f i

-- a fact at each place, from the one at k and those elsewhere
pub at_each : (P : ℕ → Type 0) (k : ℕ) → P k → ((i : ℕ) → i ≢ k → P i) → (i : ℕ) → P i
at_each P k here other i = dite (ℕ_discrete i k) (λ e. subst P (sym e) here) (λ ne. other i ne)

pub keep1 : {A : Type 0} (P : A → Type 0) {a b : A} → b ≡ a → P a → P b
keep1 P e h = subst P (sym e) h

pub keep2 : {A B : Type 0} (P : A → B → Type 0) {a a' : A} {b b' : B} → a' ≡ a → b' ≡ b → P a b → P a' b'
keep2 {A = A} {B = B} P {a} {a'} {b} {b'} e f h = subst (λ (x : A). P x b') (sym e) (subst (λ (y : B). P a y) (sym f) h)

pub keep3 : {A B C : Type 0} (P : A → B → C → Type 0) {a a' : A} {b b' : B} {c c' : C} → a' ≡ a → b' ≡ b → c' ≡ c → P a b c → P a' b' c'
keep3 {A = A} P {a} {a'} {b} {b'} {c} {c'} e f g h = subst (λ (x : A). P x b' c') (sym e) (keep2 (P a) f g h)

-- ---- memory

-- a word that is written as it was changes nothing
pub put_same : (memory : Memory) (w : Word) → put memory w (memory w) ≡ memory
put_same memory w k v = by_bool (λ b. is_same v w ≡ b → cond b (memory w) (memory v) ≡ memory v) (is_same v w) (λ _ e. ap memory (sym (same_word v w e)))
    (λ _ _. refl) refl k

-- the written word
pub put_here : (memory : Memory) (w : Word) (x : ℕ) → put memory w x w ≡ x
put_here memory w x = ap (λ b. cond b x (memory w)) (is_same-refl w)

-- any other word
pub put_other : (memory : Memory) (w v : Word) (x : ℕ) → v ≢ w → put memory w x v ≡ memory v
put_other memory w v x ne = by_bool (λ b. is_same v w ≡ b → cond b x (memory v) ≡ memory v) (is_same v w) (λ _ e. absurd (ne (same_word v w e)))
    (λ _ _. refl) refl

-- ---- views

pub puts_each : {A : Type 0} (z : Layout) (f : View → A) (views : List View) (me : ℕ) (w : View) → me < length views
    → Puts (each z f views) (each z f (set views me w)) me (f w)
puts_each z f views me w lt = record { here = ap f (get_or-set_same views me w (idle z) lt); other = λ i ne. ap f (get_or-set_other views me i w (idle z) ne) }

pub same_each : {A : Type 0} (z : Layout) (f : View → A) (views : List View) (me : ℕ) (w : View) → me < length views → f w ≡ f (view_at z views me)
    → each z f (set views me w) ≡ each z f views
same_each z f views me w lt e = let p = puts_each z f views me w lt in
    let all = at_each (λ i. each z f (set views me w) i ≡ each z f views i) me (p.here ∙ e) p.other in λ k i. all i k

-- a look and a fill change neither how the lock is held, nor what is drawn, nor the past
pub looked_leaves : (z : Layout) (y : View) (word : Word) (n : ℕ) → ((looked z y word n).mode ≡ y.mode) × ((looked z y word n).drawn ≡ y.drawn)
    × ((looked z y word n).past ≡ y.past)
looked_leaves z y Lock n = (refl, refl, refl)
looked_leaves z y word n = (refl, refl, refl)

pub filled_leaves : (y : View) (part : Part) (n : ℕ) → ((filled y part n).mode ≡ y.mode) × ((filled y part n).drawn ≡ y.drawn)
    × ((filled y part n).past ≡ y.past)
filled_leaves y Key n = (refl, refl, refl)
filled_leaves y part n = (refl, refl, refl)

-- a time that is not given up was drawn
pub not_given_up : (d : Option ℕ) (t u : ℕ) → given_up d t ≡ Some u → d ≡ Some u
not_given_up None t u e = e
not_given_up (Some y) t u e = by_test (λ b. cond b None (Some y) ≡ Some u → Some y ≡ Some u) y t (λ _ e. absurd cc) (λ _ e. e) e

-- ---- slots

pub puts_slot : (slots : List (Option Slot)) (t : ℕ) (s : Option Slot) → t < length slots → Puts (outcome_at slots) (outcome_at (set slots t s)) t s
puts_slot slots t s lt = record { here = get_or-set_same slots t s None lt; other = λ i ne. get_or-set_other slots t i s None ne }

-- a slot that is not undecided is one that is decided
pub some_of : (o : Option Slot) → o ≢ None → (b : Slot) × (o ≡ Some b)
some_of None ne = absurd (ne refl)
some_of (Some b) ne = (b, refl)

-- an undecided slot at the end shows nothing new
grown_at : (slots : List (Option Slot)) (t : ℕ) → outcome_at (slots ++ None ∷ []) t ≡ outcome_at slots t
grown_at [] zero = refl
grown_at [] (suc t) = refl
grown_at (s ∷ ss) zero = refl
grown_at (s ∷ ss) (suc t) = grown_at ss t

pub slots_grown : (slots : List (Option Slot)) → outcome_at (slots ++ None ∷ []) ≡ outcome_at slots
slots_grown slots k t = grown_at slots t k

-- only a drawn time has a slot
pub slot_below : (slots : List (Option Slot)) (t : ℕ) → outcome_at slots t ≢ None → t < length slots
slot_below [] t ne = absurd (ne refl)
slot_below (s ∷ ss) zero ne = omega arith
slot_below (s ∷ ss) (suc t) ne = let h = slot_below ss t ne in omega arith

pub past_end : (slots : List (Option Slot)) → outcome_at slots (length slots) ≡ None
past_end [] = refl
past_end (s ∷ ss) = past_end ss

pub has : (o : Option ℕ) → o ≢ None → (x : ℕ) × (o ≡ Some x)
has None ne = absurd (ne refl)
has (Some x) ne = (x, refl)

-- How a caller's step keeps the clauses of the chains.
use Rattle.std.proofs.Common.{◌≡◌, ◌≢◌, ℕ, ◌+◌, ◌%◌, ◌≤◌, Bool, true, false, cond, List, ◌∷◌, length, set, sym, refl, ap, ◌∙◌, subst, arith}
use Rattle.std.proofs.Common.{⊎_elim, Option, Some, None}
use prog.Atomic.{either}
use Rattle.clsm_model.specs.declared.slot.Slot.TheVariants.{Wrote}
use Rattle.clsm_model.specs.declared.slot.Change.TheVariants.{Keep, Set, Remove as Erase}
use Rattle.clsm_model.specs.declared.record.Deed.{Deed}
use Rattle.clsm_model.specs.declared.record.Deed.TheVariants.{Put, Remove, Rmw}
use Rattle.clsm_model.specs.Right.{write_by}
use Rattle.clsm_law.specs.declared.layout.Layout.{Layout}
use Rattle.clsm_law.specs.declared.word.Word.{Word}
use Rattle.clsm_law.specs.declared.word.Word.TheVariants.{Lock, Head, Cell}
use Rattle.clsm_law.specs.declared.word.Part.{Part}
use Rattle.clsm_law.specs.declared.word.Part.TheVariants.{Key, Next}
use Rattle.clsm_law.specs.declared.step.Step.{Step}
use Rattle.clsm_law.specs.declared.step.Step.TheVariants.{Draw, Fill, Link, Decide, Cancel, Look}
use Rattle.clsm_law.specs.declared.view.View.{View}
use Rattle.clsm_law.specs.Memory.{Memory, cell_of, region_of, put}
use Rattle.clsm_law.specs.Views.{or_zero, SaysWrite}
use Rattle.clsm_law.specs.Relation.{Chains, pushed, looked, filled}
use Rattle.clsm_law.specs.Worlds.{outcome_at}
use Rattle.clsm_law.specs.Law.{each, In, Distinct, IsChain, AreChained, AreIn, AreOnce, IsLinkedAt, AreStanding, AreLinked}
use Rattle.clsm_law.specs.Law.{AreLoose, first_live, first_shown}
use Rattle.clsm_law.proofs.Cases.{by_test}
use Rattle.clsm_law.proofs.Frames.{keep1, put_same, put_other, not_given_up}
use Rattle.clsm_law.proofs.Setting.{Setting, v, x, w, M, V, S, C, Opens, own, own_drawn, looked_same, drawn_shown, drawn_live, clock_shared, by_seat}
use Rattle.clsm_law.proofs.Growth.{longer, OfDecided, writes_kept}
use Rattle.clsm_law.proofs.Chains.Facts.{by_line, chain_same, in_pushed, is_pushed, in_as, own_region, own_chain, is_there, nowhere, other_cell, stays_in}

-- ---- the words lead along the chains
chained_links : (s : Setting) (h : ℕ) → Opens s (Link h) → x s (Link h) ≡ h
    → AreChained s.z (put s.memory (Head (own_region s) (own_chain s)) (cell_of s.z (own s) + 1)) (pushed s.chains (own_region s) (own_chain s) (own s))
chained_links s h o e r k a b =
    let memory' = put s.memory (Head (own_region s) (own_chain s)) (cell_of s.z (own s) + 1) in
    let now = s.law.chained r k a b in
    let next : s.memory (Cell (cell_of s.z (own s)) Next) ≡ h = s.law.filled s.me (own s) h Next (own_drawn s o.0) o.5 in
    by_line (λ t. IsChain s.z memory' (cond t (cell_of s.z (own s) + 1) (s.memory (Head r k))) (cond t (own s ∷ s.chains r k) (s.chains r k))) r k
    (own_region s) (own_chain s)
    (λ er ek. (
      refl,
      chain_same s.z s.memory memory' (s.memory (Cell (cell_of s.z (own s)) Next)) (s.chains r k) (λ t i. refl)
          (subst (λ (y : ℕ). IsChain s.z s.memory y (s.chains r k)) ((λ i. s.memory (Head (er i) (ek i))) ∙ e ∙ sym next) now),
    ))
    (λ _. chain_same s.z s.memory memory' (s.memory (Head r k)) (s.chains r k) (λ t i. refl) now)

pub chained_kept : (s : Setting) (step : Step) → Opens s step → AreChained s.z (M s step) (C s step)
chained_kept s (Look c) o = keep1 (λ (m : Memory). AreChained s.z m s.chains) (looked_same s c) s.law.chained
chained_kept s (Fill part y) o = λ r k a b. chain_same s.z s.memory (M s (Fill part y)) (s.memory (Head r k)) (s.chains r k)
    (λ t i. put_other s.memory (Cell (cell_of s.z (own s)) part) (Cell (cell_of s.z t) Next) y (λ e. other_cell s o.0 o.1 r k t i cc)) (s.law.chained r k a b)
chained_kept s (Link h) o = by_test
    (λ b. AreChained s.z (put s.memory (Head (own_region s) (own_chain s)) (either b (cell_of s.z (own s) + 1) (x s (Link h))))
    (cond b (pushed s.chains (own_region s) (own_chain s) (own s)) s.chains)) (x s (Link h)) h
    (chained_links s h o)
    (λ _. keep1 (λ (m : Memory). AreChained s.z m s.chains) (put_same s.memory (Head (own_region s) (own_chain s))) s.law.chained)
chained_kept s step o = λ r k a b. chain_same s.z s.memory (M s step) (s.memory (Head r k)) (s.chains r k) (λ t i. refl) (s.law.chained r k a b)

-- ---- a chain holds drawn times of its region and its chain
pub lies_as : (s : Setting) (memory' : Memory) (len : ℕ) → length s.slots ≤ len
    → ((r k t : ℕ) → In t (s.chains r k) → memory' (Cell (cell_of s.z t) Key) ≡ s.memory (Cell (cell_of s.z t) Key))
    → AreIn s.z memory' (first_live s.z s.merger) len s.chains
lies_as s memory' len le same r k t i = let l = s.law.lies r k t i in in_as s.z s.memory memory' _ _ _ len r k t l l.live le (same r k t i)

lies_links : (s : Setting) (h : ℕ) → Opens s (Link h) → AreIn s.z (M s (Link h)) (first_live s.z s.merger) (length s.slots)
    (pushed s.chains (own_region s) (own_chain s) (own s))
lies_links s h o r k t i = let mine = own_drawn s o.0 in let l = drawn_live s.ground s.me (own s) mine in let p = drawn_shown s.ground s.me (own s) mine in
    ⊎_elim
    (λ (m : (own s ≡ t) × (r ≡ own_region s) × (k ≡ own_chain s)). record {
      live = let a = l.from in let e = m.0 in omega arith;
      drawn = let a = p.1 in let e = m.0 in omega arith;
      region = ap (λ (y : ℕ). region_of s.z (cell_of s.z y)) (sym m.0) ∙ sym m.1;
      chain = ap (λ (y : ℕ). s.memory (Cell (cell_of s.z y) Key) % s.z.chains) (sym m.0)
          ∙ ap (λ (y : ℕ). y % s.z.chains) (s.law.filled s.me (own s) (or_zero (v s).key) Key mine (is_there (v s).key o.2)) ∙ sym m.2;
    })
    (λ (m : In t (s.chains r k)). let n = s.law.lies r k t m in record { live = n.live; drawn = n.drawn; region = n.region; chain = n.chain })
    (in_pushed s.chains (own_region s) (own_chain s) (own s) r k t i)

pub lies_kept : (s : Setting) (step : Step) → Opens s step → AreIn s.z (M s step) (first_live s.z s.merger) (length (S s step)) (C s step)
lies_kept s (Look c) o = keep1 (λ (m : Memory). AreIn s.z m (first_live s.z s.merger) (length s.slots) s.chains) (looked_same s c) s.law.lies
lies_kept s (Fill part y) o = lies_as s (M s (Fill part y)) (length s.slots) (omega arith)
    (λ r k t i. put_other s.memory (Cell (cell_of s.z (own s)) part) (Cell (cell_of s.z t) Key) y (λ e. other_cell s o.0 o.1 r k t i cc))
lies_kept s (Link h) o = by_test (λ b. AreIn s.z (M s (Link h)) (first_live s.z s.merger) (length s.slots)
    (cond b (pushed s.chains (own_region s) (own_chain s) (own s)) s.chains)) (x s (Link h)) h
    (λ _. lies_links s h o) (λ _. lies_as s (M s (Link h)) (length s.slots) (omega arith) (λ r k t i. refl))
lies_kept s step o = lies_as s (M s step) (length (S s step)) (longer s step) (λ r k t i. refl)

-- ---- each time once
pub once_kept : (s : Setting) (step : Step) → Opens s step → AreOnce (C s step)
once_kept s (Link h) o = by_test (λ b. AreOnce (cond b (pushed s.chains (own_region s) (own_chain s) (own s)) s.chains)) (x s (Link h)) h
    (λ _ r k. by_line (λ b. Distinct (cond b (own s ∷ s.chains r k) (s.chains r k))) r k (own_region s) (own_chain s)
    (λ _ _. (nowhere s o.0 o.1 r k, s.law.once r k)) (λ _. s.law.once r k))
    (λ _. s.law.once)
once_kept s step o = s.law.once

-- ---- a write stands in the chain of its key
-- the key of the write that a deed is
key_of_write : (y : View) (deed : Deed) (seat i key : ℕ) (written : Option (List ℕ)) → SaysWrite y (write_by 0 deed) → write_by seat deed
    ≡ Some (Wrote i key written) → y.key ≡ Some key
key_of_write y (Put k value) seat i key written says e = cc (says.0, e)
key_of_write y (Remove k) seat i key written says e = cc (says.0, e)
key_of_write y (Rmw k old Keep) seat i key written says e = absurd says
key_of_write y (Rmw k old (Set value)) seat i key written says e = cc (says.0, e)
key_of_write y (Rmw k old Erase) seat i key written says e = cc (says.0, e)
key_of_write y deed seat i key written says e = absurd says

decided_linked : (s : Setting) (step : Step) → Opens s step → OfDecided s (λ t key _. IsLinkedAt s.z s.chains t key) step
decided_linked s (Decide t deed) o = let k = s.law.linked s.me t o.0 o.1 in
    λ i key written e. let is = key_of_write (v s) deed s.me i key written o.2 e in let same : k.0 ≡ key = cc (k.1, is) in
    subst (IsLinkedAt s.z s.chains t) same k.2
decided_linked s step o = tt

pub standing_kept : (s : Setting) (step : Step) → Opens s step → AreStanding s.z (first_shown s.z s.merger) (outcome_at (S s step)) (C s step)
standing_kept s step o t i key written le e = stays_in s step _ _ t
    (writes_kept s step o (first_shown s.z s.merger) (λ t key _. IsLinkedAt s.z s.chains t key) (decided_linked s step o) s.law.standing t i key written le e)

-- ---- a drawn time stands in a chain, its own, just where it is linked
-- what is drawn, the key and whether it is linked are as they were after a look; after a Fill, two
-- of them
looked_as : (z : Layout) (y : View) (c : Word) (n : ℕ) (P : Option ℕ → Option ℕ → Bool → Type 0) → P y.drawn y.key y.linked
    → P (looked z y c n).drawn (looked z y c n).key (looked z y c n).linked
looked_as z y Lock n P h = h
looked_as z y c n P h = h

filled_as : (y : View) (p : Part) (n : ℕ) (P : Option ℕ → Bool → Type 0) → P y.drawn y.linked → P (filled y p n).drawn (filled y p n).linked
filled_as y Key n P h = h
filled_as y p n P h = h

-- a linked time stands in the chain of its key
abbrev StandsLinked : Setting → Chains → Option ℕ → Option ℕ → Bool → Type 0
StandsLinked s chains drawn key linked = (t : ℕ) → drawn ≡ Some t → linked ≡ true → (k : ℕ) × (key ≡ Some k) × IsLinkedAt s.z chains t k

pub linked_by : (s : Setting) (chains : Chains) (y : View) → ((r k t : ℕ) → In t (s.chains r k) → In t (chains r k))
    → StandsLinked s chains y.drawn y.key y.linked
    → AreLinked s.z (each s.z View.drawn (set s.views s.me y)) (each s.z View.key (set s.views s.me y)) (each s.z View.linked (set s.views s.me y)) chains
linked_by s chains y grow now = by_seat s y (λ i u. StandsLinked s chains u.drawn u.key u.linked) now
    (λ i ne t d l. let n = s.law.linked i t d l in (n.0, n.1, grow _ _ t n.2))

linked_after : (s : Setting) (step : Step) → Opens s step → StandsLinked s (C s step) (w s step).drawn (w s step).key (w s step).linked
linked_after s (Draw t) o =
    by_test (λ b. StandsLinked s s.chains (cond b (Some t) (v s).drawn) (cond b None (v s).key) (cond b false (v s).linked)) (x s (Draw t)) t
    (λ _ u d l. absurd cc) (λ _. s.law.linked s.me)
linked_after s (Fill part y) o = λ u d l. let f = filled_as (v s) part y (λ _ linked. linked ≡ false) o.1 in absurd (cc (f, l))
linked_after s (Link h) o =
    by_test (λ b. StandsLinked s (cond b (pushed s.chains (own_region s) (own_chain s) (own s)) s.chains) (v s).drawn (v s).key (cond b true (v s).linked))
    (x s (Link h)) h
    (λ _ u d l. let same : own s ≡ u = ap or_zero d in subst (λ (u : ℕ). (k : ℕ) × ((v s).key ≡ Some k)
    × IsLinkedAt s.z (pushed s.chains (own_region s) (own_chain s) (own s)) u k) same
    (or_zero (v s).key, is_there (v s).key o.2, is_pushed s.chains (own_region s) (own_chain s) (own s)))
    (λ _. s.law.linked s.me)
linked_after s (Decide t deed) o = λ u d l. absurd cc
linked_after s (Cancel t) o = λ u d l. s.law.linked s.me u (not_given_up (v s).drawn t u d) l
linked_after s (Look c) o = looked_as s.z (v s) c (x s (Look c)) (StandsLinked s s.chains) (s.law.linked s.me)
linked_after s step o = s.law.linked s.me

pub linked_kept : (s : Setting) (step : Step) → Opens s step → AreLinked s.z (each s.z View.drawn (V s step)) (each s.z View.key (V s step))
    (each s.z View.linked (V s step)) (C s step)
linked_kept s step o = linked_by s (C s step) (w s step) (stays_in s step) (linked_after s step o)

-- a loose time stands in none
abbrev StandsLoose : Chains → Option ℕ → Bool → Type 0
StandsLoose chains drawn linked = (t : ℕ) → drawn ≡ Some t → linked ≡ false → (r k : ℕ) → ¬ In t (chains r k)

pub loose_by : (s : Setting) (chains : Chains) (y : View) → ((i t r k : ℕ) → i ≢ s.me → each s.z View.drawn s.views i ≡ Some t → In t (chains r k)
    → In t (s.chains r k)) → StandsLoose chains y.drawn y.linked
    → AreLoose (each s.z View.drawn (set s.views s.me y)) (each s.z View.linked (set s.views s.me y)) chains
loose_by s chains y back now = by_seat s y (λ i u. StandsLoose chains u.drawn u.linked) now
    (λ i ne t d l r k m. s.law.loose i t d l r k (back i t r k ne d m))

-- the own time enters a chain, and no other's
links_own : (s : Setting) (step : Step) → Opens s step → (i t r k : ℕ) → i ≢ s.me → each s.z View.drawn s.views i ≡ Some t → In t (C s step r k)
    → In t (s.chains r k)
links_own s (Link h) o i t r k ne d = by_test
    (λ b. In t (cond b (pushed s.chains (own_region s) (own_chain s) (own s)) s.chains r k) → In t (s.chains r k)) (x s (Link h)) h
    (λ _ m. ⊎_elim (λ (e : (own s ≡ t) × (r ≡ own_region s) × (k ≡ own_chain s)). absurd
    (ne (s.law.alone i s.me t d (own_drawn s o.0 ∙ ap (λ (u : ℕ). Some u) e.0))))
    (λ (n : In t (s.chains r k)). n) (in_pushed s.chains (own_region s) (own_chain s) (own s) r k t m))
    (λ _ m. m)
links_own s step o i t r k ne d = λ m. m

loose_after : (s : Setting) (step : Step) → Opens s step → StandsLoose (C s step) (w s step).drawn (w s step).linked
loose_after s (Draw t) o = by_test (λ b. StandsLoose s.chains (cond b (Some t) (v s).drawn) (cond b false (v s).linked))
    (x s (Draw t)) t
    (λ e u d l r k i. let same : t ≡ u = ap or_zero d in let b = (s.law.lies r k u i).drawn in let c = clock_shared s.ground s.me o.0 in omega arith)
    (λ _. s.law.loose s.me)
loose_after s (Fill part y) o = filled_as (v s) part y (StandsLoose s.chains) (s.law.loose s.me)
loose_after s (Link h) o =
    by_test (λ b. StandsLoose (cond b (pushed s.chains (own_region s) (own_chain s) (own s)) s.chains) (v s).drawn (cond b true (v s).linked))
    (x s (Link h)) h
    (λ _ u d l. absurd cc) (λ _. s.law.loose s.me)
loose_after s (Decide t deed) o = λ u d l. absurd cc
loose_after s (Cancel t) o = λ u d l. s.law.loose s.me u (not_given_up (v s).drawn t u d) l
loose_after s (Look c) o = looked_as s.z (v s) c (x s (Look c)) (λ drawn _ linked. StandsLoose s.chains drawn linked)
    (s.law.loose s.me)
loose_after s step o = s.law.loose s.me

pub loose_kept : (s : Setting) (step : Step) → Opens s step → AreLoose (each s.z View.drawn (V s step)) (each s.z View.linked (V s step)) (C s step)
loose_kept s step o = loose_by s (C s step) (w s step) (links_own s step o) (loose_after s step o)

-- What the steps of settling make of a seat.
use Rattle.std.proofs.Common.{◌≡◌, ◌≢◌, ℕ, ◌+◌, ◌*◌, ◌<◌, ◌≤◌, ◌==◌, ◌&&◌, not, nat_lt, Bool, true, false, cond, max, length, refl, sym, ap, ◌∙◌, subst}
use Rattle.std.proofs.Common.{arith, inl, inr, Option, Some, None, eq-eqb, ne_eqb, lt-ltb}
use Rattle.std.proofs.lemmas.Bool.{cases_eq, cases_lt, le-leb, and_from}
use Rattle.clsm_law.specs.declared.layout.Layout.{Layout}
use Rattle.clsm_law.specs.declared.word.Word.TheVariants.{Front, State}
use Rattle.clsm_law.specs.declared.step.Step.TheVariants.{Cancel, Look, RaiseFront}
use Rattle.clsm_law.specs.declared.view.View.{View}
use Rattle.clsm_law.specs.declared.view.Waiting.{Waiting}
use Rattle.clsm_law.specs.Memory.{cell_of}
use Rattle.clsm_law.specs.Views.{IsBelow, is_below}
use Rattle.clsm_law.specs.OpenSteps.{HoldsFrom}
use Rattle.clsm_law.specs.Relation.{again_after, is_met_by_state, counted_cancel, is_seen, is_seen_of, is_own, is_waited_for, given_up, once_more}
use Rattle.clsm_law.specs.Relation.{one_more_if, view_after, waited_after, reached_after, reached_by_state}
use Rattle.clsm_law.proofs.Cases.{by_bool}
use Rattle.clsm_law.proofs.Clock.Times.{cell_below}
use Rattle.clsm_law.specs.Raising.{MayRaise}
use Rattle.clsm_words.specs.declared.known.Known.{Known}
use Rattle.clsm_words.specs.Knowing.{Opens, Follows}
use Rattle.clsm_words.specs.Keeping.{OnlyReads}
use Rattle.clsm_words.proofs.Keeps.{but_read, reads_by}
use Rattle.clsm_search.proofs.Looking.{grows, grows_by_state}
use Rattle.clsm_memtable.specs.Settled.{HasLooked, HasWaited, IsClockFrom, MaySettle, MaySettleBelow}

-- ---- what may be settled stays so

pub may_stays : (k k' : Known) (component t : ℕ) → OnlyReads k k' → MaySettle k component t → MaySettle k' component t
may_stays k k' component t h may = record {
  held = ap (λ (v : View). v.held) h.view ∙ may.held;
  from = subst (λ (z : Layout). component * z.cells ≤ t) (sym h.seat.layout) may.from;
  until = subst (λ (z : Layout). t < (component + 2) * z.cells) (sym h.seat.layout) may.until;
  clock = subst (λ (o : Option ℕ). IsClockFrom o (t + 1)) (sym (ap (λ (v : View). v.clock) h.view)) may.clock;
  own = λ u e. may.own u (sym (ap (λ (v : View). v.drawn) h.view) ∙ e);
}

pub may_below_stays : (k k' : Known) (component s : ℕ) → OnlyReads k k' → MaySettleBelow k component s → MaySettleBelow k' component s
may_below_stays k k' component s h may = record {
  held = ap (λ (v : View). v.held) h.view ∙ may.held;
  merged = let r = h.reached in let m = may.merged in let e = ap (λ (z : Layout). component * z.cells) h.seat.layout in omega arith;
  until = subst (λ (z : Layout). s ≤ (component + 2) * z.cells) (sym h.seat.layout) may.until;
  clock = subst (λ (o : Option ℕ). IsClockFrom o s) (sym (ap (λ (v : View). v.clock) h.view)) may.clock;
  own = λ u e. may.own u (sym (ap (λ (v : View). v.drawn) h.view) ∙ e);
  raise = subst (λ (v : View). MayRaise v s) (sym h.view) may.raise;
}

clock_from : (o : Option ℕ) (s t : ℕ) → t ≤ s → IsClockFrom o s → IsClockFrom o t
clock_from None s t le h = h
clock_from (Some clock) s t le h = omega arith

pub may_one : (k : Known) (component s t : ℕ) → MaySettleBelow k component s → component * k.layout.cells ≤ t → t < s → MaySettle k component t
may_one k component s t may from lt = record {
  held = may.held;
  from = from;
  until = let u = may.until in omega arith;
  clock = clock_from k.view.clock s (t + 1) (omega arith) may.clock;
  own = λ u e. let h = may.own u e in omega arith;
}

-- ---- where the steps are open

pub opens_look : (k : Known) (component t : ℕ) → MaySettle k component t → Opens k (Look (State (cell_of k.layout t)))
opens_look k component t may = (
  lt-ltb (cell_of k.layout t) (2 * k.layout.cells) (cell_below k.layout t (let some = k.layout.cells_in_range.0 in omega arith)),
  inl (λ none. absurd (let held = may.held in cc (none, held))),
)

is_under : (o : Option ℕ) (t : ℕ) → IsClockFrom o (t + 1) → IsBelow t o
is_under None t h = h
is_under (Some clock) t h = omega arith

pub opens_cancel : (k : Known) (component t : ℕ) → MaySettle k component t → Opens k (Cancel t)
opens_cancel k component t may = inr (subst (λ (o : Option ℕ). HoldsFrom k.layout o t) (sym may.held) may.from, is_under k.view.clock t may.clock)

-- ---- what is reached

under_true : (o : Option ℕ) (t : ℕ) → IsClockFrom o (t + 1) → is_below t o ≡ true
under_true None t h = absurd h
under_true (Some clock) t h = lt-ltb t clock (omega arith)

seen : (k : Known) (component t : ℕ) → MaySettle k component t → is_seen k.layout k.view t ≡ true
seen k component t may =
    subst (λ (o : Option ℕ). is_seen_of k.layout o k.view.clock t ≡ true) (sym may.held)
    (rw (le-leb (component * k.layout.cells) t may.from, lt-ltb t ((component + 2) * k.layout.cells) may.until, under_true k.view.clock t may.clock) refl)

passes : (k : Known) (component t : ℕ) → MaySettle k component t → t ≤ k.view.reached → t + 1 ≤ reached_after k.layout k.view t
passes k component t may le = elim (cases_eq t k.view.reached) [
  | inl here ↦ let own : (t == k.view.reached) ≡ true = eq-eqb t k.view.reached here in let is = seen k component t may in
      subst (λ (b : Bool). t + 1 ≤ cond b (k.view.reached + 1) k.view.reached) (sym (and_from (t == k.view.reached) (is_seen k.layout k.view t) own is))
      (omega arith)
  | inr ne ↦ let g = grows k.layout k.view t in omega arith
]

found_passes : (k : Known) (component t x : ℕ) → MaySettle k component t → t ≤ k.view.reached → x ≢ 0
    → t + 1 ≤ reached_by_state k.layout k.view (cell_of k.layout t) x
found_passes k component t x may le some = elim (cases_eq t k.view.reached) [
  | inl here ↦ let cell : (cell_of k.layout t == cell_of k.layout k.view.reached)
      ≡ true = eq-eqb (cell_of k.layout t) (cell_of k.layout k.view.reached) (ap (cell_of k.layout) here) in
      let found : not (x == 0) ≡ true = ap not (ne_eqb x 0 some) in
      subst (λ (b : Bool). t + 1 ≤ cond b (reached_after k.layout k.view k.view.reached) k.view.reached)
      (sym (and_from (not (x == 0)) (cell_of k.layout t == cell_of k.layout k.view.reached) found cell))
      (subst (λ (u : ℕ). t + 1 ≤ reached_after k.layout k.view u) here (passes k component t may le))
  | inr ne ↦ let g = grows_by_state k.layout k.view (cell_of k.layout t) x in omega arith
]

-- ---- a look at the time's state

pub look_keeps : (k k' : Known) (cell x : ℕ) → Follows (Look (State cell)) k x k' → OnlyReads k k'
look_keeps k k' cell x follows =
    reads_by (Look (State cell)) k k' x k.view.fresh_heads
    (cond (is_met_by_state k.layout k.view cell x) (cell + 1) k.view.met) k.view.fresh_link k.view.low k.view.high
    (reached_by_state k.layout k.view cell x) k.view.past k.view.cancelled (waited_after k.layout k.view.waited cell x) follows refl
    (grows_by_state k.layout k.view cell x)

pub look_reaches : (k k' : Known) (component t x : ℕ) → MaySettle k component t → t ≤ k.view.reached → x ≢ 0
    → Follows (Look (State (cell_of k.layout t))) k x k' → t + 1 ≤ k'.view.reached
look_reaches k k' component t x may le some follows = let e = ap (λ (v : View). v.reached) follows.view in
    let p = found_passes k component t x may le some in omega arith

-- ---- how often it looked

after_one : (z : Layout) (waited : Option Waiting) (cell x : ℕ) → x ≡ 0
    → waited_after z waited cell x ≡ Some (record { cell = cell; again = again_after z waited cell })
after_one z waited cell x e = ap (λ (n : ℕ). waited_after z waited cell n) e

more : (z : Layout) (again n : ℕ) → n < z.patience → n ≤ again → n + 1 ≤ once_more z again
more z again n lt le = elim (cases_lt again z.patience) [
  | inl under ↦ subst (λ (b : Bool). n + 1 ≤ cond b (again + 1) again) (sym (lt-ltb again z.patience under)) (omega arith)
  | inr above ↦ by_bool (λ b. n + 1 ≤ cond b (again + 1) again) (nat_lt again z.patience) (λ _. omega arith) (λ _. omega arith)
]

looked_again : (z : Layout) (waited : Option Waiting) (cell n : ℕ) → n < z.patience → HasLooked waited cell n → n + 1 ≤ again_after z waited cell
looked_again z None cell n lt has = absurd has
looked_again z (Some w) cell n lt has =
    subst (λ (b : Bool). n + 1 ≤ cond b (once_more z w.again) 0) (sym (eq-eqb w.cell cell has.0)) (more z w.again n lt has.1)

pub look_waits : (k k' : Known) (t x : ℕ) → x ≡ 0 → Follows (Look (State (cell_of k.layout t))) k x k' → HasWaited k' t 0
look_waits k k' t x e follows =
    let is : k'.view.waited ≡ Some (record { cell = cell_of k.layout t; again = again_after k.layout k.view.waited (cell_of k.layout t) }) =
    ap (λ (v : View). v.waited) follows.view ∙ after_one k.layout k.view.waited (cell_of k.layout t) x e in
    subst (λ (o : Option Waiting). HasLooked o (cell_of k'.layout t) 0) (sym is)
    (ap (λ (z : Layout). cell_of z t) (sym (look_keeps k k' (cell_of k.layout t) x follows).seat.layout), omega arith)

pub look_waits_on : (k k' : Known) (t x n : ℕ) → n < k.layout.patience → HasWaited k t n → x ≡ 0 → Follows (Look (State (cell_of k.layout t))) k x k'
    → HasWaited k' t (n + 1)
look_waits_on k k' t x n lt has e follows =
    let is : k'.view.waited ≡ Some (record { cell = cell_of k.layout t; again = again_after k.layout k.view.waited (cell_of k.layout t) }) =
    ap (λ (v : View). v.waited) follows.view ∙ after_one k.layout k.view.waited (cell_of k.layout t) x e in
    subst (λ (o : Option Waiting). HasLooked o (cell_of k'.layout t) (n + 1)) (sym is) (
      ap (λ (z : Layout). cell_of z t) (sym (look_keeps k k' (cell_of k.layout t) x follows).seat.layout),
      looked_again k.layout k.view.waited (cell_of k.layout t) n lt has,
    )

-- ---- a cancel of another's time

other_drawn : (o : Option ℕ) (t : ℕ) → ((u : ℕ) → o ≡ Some u → t < u) → (given_up o t ≡ o) × (is_own o t ≡ false)
other_drawn None t own = (refl, refl)
other_drawn (Some u) t own = let lt = own u refl in let ne : (u == t) ≡ false = ne_eqb u t (λ e. omega arith) in (ap (λ b. cond b None (Some u)) ne, ne)

-- where it waited for the cell's time, it is waited for
waited_for : (z : Layout) (waited : Option Waiting) (cell : ℕ) → HasLooked waited cell z.patience → is_waited_for z waited cell ≡ true
waited_for z None cell has = absurd has
waited_for z (Some w) cell has = rw (eq-eqb w.cell cell has.0, le-leb z.patience w.again has.1) refl

not_hasty : (b : Bool) (n : ℕ) → one_more_if (b && not true) n ≡ n
not_hasty true n = refl
not_hasty false n = refl

pub cancel_keeps : (k k' : Known) (component t x : ℕ) → MaySettle k component t → HasWaited k t k.layout.patience → Follows (Cancel t) k x k' → OnlyReads k k'
cancel_keeps k k' component t x may has follows =
    let v = k.view in
    let r = reached_after k.layout v t in
    let other = other_drawn v.drawn t may.own in
    let alike : view_after k.layout k.number v (Cancel t) x
    ≡ but_read v v.fresh_heads v.met v.fresh_link v.low v.high r v.past (one_more_if (x == 0) v.cancelled) None =
    ap (λ (drawn : Option ℕ). record (counted_cancel k.layout v t x) { drawn = drawn; reached = r }) other.0
    ∙ ap (λ (own : Bool). record v {
      reached = r;
      overtaken = one_more_if (own && not (x == 0)) v.overtaken;
      gave_up = one_more_if (own && x == 0) v.gave_up;
      cancelled = one_more_if (not own && x == 0) v.cancelled;
      waited = cond own v.waited None;
      hasty = one_more_if (not own && x == 0 && not (is_waited_for k.layout v.waited (cell_of k.layout t))) v.hasty;
    }) other.1
    ∙ ap (λ (waited : Bool). record v {
      reached = r;
      cancelled = one_more_if (x == 0) v.cancelled;
      waited = None;
      hasty = one_more_if (x == 0 && not waited) v.hasty;
    }) (waited_for k.layout v.waited (cell_of k.layout t) has)
    ∙ ap (λ (hasty : ℕ). record v { reached = r; cancelled = one_more_if (x == 0) v.cancelled; waited = None; hasty = hasty }) (not_hasty (x == 0) v.hasty) in
    reads_by (Cancel t) k k' x v.fresh_heads v.met v.fresh_link v.low v.high r v.past (one_more_if (x == 0) v.cancelled) None follows alike (grows k.layout v t)

pub cancel_reaches : (k k' : Known) (component t x : ℕ) → MaySettle k component t → t ≤ k.view.reached → Follows (Cancel t) k x k' → t + 1 ≤ k'.view.reached
cancel_reaches k k' component t x may le follows = let e = ap (λ (v : View). v.reached) follows.view in let p = passes k component t may le in omega arith

-- ---- the front

pub front_keeps : (k k' : Known) (x : ℕ) → Follows (Look Front) k x k' → OnlyReads k k'
front_keeps k k' x follows =
    reads_by (Look Front) k k' x k.view.fresh_heads k.view.met k.view.fresh_link k.view.low k.view.high
    (max k.view.reached x) k.view.past k.view.cancelled k.view.waited follows refl (omega arith)

pub front_reaches : (k k' : Known) (x : ℕ) → Follows (Look Front) k x k' → x ≤ k'.view.reached
front_reaches k k' x follows = let e = ap (λ (v : View). v.reached) follows.view in omega arith

pub raise_keeps : (k k' : Known) (s x : ℕ) → Follows (RaiseFront s) k x k' → OnlyReads k k'
raise_keeps k k' s x follows =
    reads_by (RaiseFront s) k k' x k.view.fresh_heads k.view.met k.view.fresh_link k.view.low k.view.high k.view.reached
    (max k.view.past s) k.view.cancelled k.view.waited follows refl (omega arith)

pub raise_reaches : (k k' : Known) (s x : ℕ) → Follows (RaiseFront s) k x k' → s ≤ length k'.past
raise_reaches k k' s x follows = let e = ap (λ (v : View). v.past) follows.view in let long = follows.sound.length_is in omega arith

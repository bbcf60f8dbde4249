-- How the clauses on what an exclusive holder found are kept: no other seat changes a head or a
-- link meanwhile, and the seat's own exchanges end the look that they were made by.
use Rattle.std.proofs.Common.{◌≡◌, ◌≢◌, ℕ, zero, suc, ◌+◌, ◌*◌, ◌%◌, ◌<◌, ◌≤◌, ◌&&◌, inl, inr, ⊎_elim, Bool, true, false, cond, List, length}
use Rattle.std.proofs.Common.{set, sym, refl, ap, ◌∙◌, subst, arith, Option, Some, None, nat_lt, length-set, get_or-set_same, get_or-set_other}
use Rattle.std.specs.Prelude.{slice_index_or}
use mathlib.Core.Logic.{dite}
use native.Mathlib.Decide.{ℕ_discrete}
use Rattle.std.proofs.lemmas.Bool.{cases_lt, ltb-true}
use Rattle.std.proofs.lemmas.List.{get_or_past}
use Rattle.clsm_law.specs.declared.word.Word.TheVariants.{Limit, Head, Order, Count, Entry}
use Rattle.clsm_law.specs.declared.word.Part.TheVariants.{Key}
use Rattle.clsm_law.specs.declared.step.Step.{Step}
use Rattle.clsm_law.specs.declared.step.Step.TheVariants.{EnterShared, LeaveShared, EnterExclusive, LeaveExclusive, Draw, Fill, Link, FillOrder}
use Rattle.clsm_law.specs.declared.step.Step.TheVariants.{Insert, Decide, Cancel, Look, WriteRun, ClearHead, ClearOrder, ExtendLimit}
use Rattle.clsm_law.specs.declared.view.FreshLink.{FreshLink}
use Rattle.clsm_law.specs.declared.view.View.{View}
use Rattle.clsm_law.specs.declared.view.Mode.{Mode}
use Rattle.clsm_law.specs.declared.view.Mode.TheVariants.{Free, Shared, Exclusive}
use Rattle.clsm_law.specs.declared.layout.Layout.{Layout}
use Rattle.clsm_law.specs.Memory.{Memory, cell_of, region_of, link_at}
use Rattle.clsm_law.specs.Views.{blank, line_of, own_line, or_zero}
use Rattle.clsm_law.specs.Relation.{holds_lock, is_listed}
use Rattle.clsm_law.specs.Law.{each, In, place_of_time, AreFoundHeads, AreFoundLinks}
use Rattle.clsm_law.specs.Law.{IsFoundLink}
use Rattle.clsm_law.proofs.Cases.{by_test, by_bool}
use Rattle.clsm_law.proofs.Frames.{put_other, not_given_up}
use Rattle.clsm_law.proofs.Clock.Times.{region_below}
use Rattle.clsm_law.proofs.Clock.Kept.{limit_same}
use Rattle.clsm_law.proofs.Setting.{Setting, v, x, w, M, V, Opens, looked_same, by_seat, own, own_drawn, Ground, memory', OpensTo, merger_looked_same}
use Rattle.clsm_law.proofs.Setting.{drawn_shown}
use Rattle.clsm_law.proofs.Lock.Kept.{exclusive_free, not_both}
use Rattle.clsm_law.proofs.Chains.Merged.{current_region}
use Rattle.clsm_law.proofs.Orders.Facts.{R, P, link_same, link_behind, another_place}
use Rattle.clsm_law.proofs.Orders.Members.{by_listed}
use Rattle.clsm_law.proofs.Orders.Merged.{now_apart, retired_small}

-- ---- lists of looks

-- a line says what was set there
set_says : (l : List (Option ℕ)) (i n : ℕ) (o : Option ℕ) → slice_index_or (set l i o) i None ≡ Some n → o ≡ Some n
set_says l i n o e = elim (cases_lt i (length l)) [
  | inl lt ↦ sym (get_or-set_same l i o None lt) ∙ e
  | inr le ↦ absurd (let same = length-set l i o in let past : slice_index_or (set l i o) i None ≡ None = get_or_past (set l i o) i None (omega arith) in
      cc (past, e))
]

-- a blank list says nothing
blank_says : (k i n : ℕ) → slice_index_or (blank k) i None ≢ Some n
blank_says zero i n e = absurd cc
blank_says (suc k) zero n e = absurd cc
blank_says (suc k) (suc i) n e = blank_says k i n e

-- a line is of one head
same_line : (r c r' c' : ℕ) → r < 2 → r' < 2 → line_of r c ≡ line_of r' c' → (r ≡ r') × (c ≡ c')
same_line r c r' c' a b e = (omega arith, omega arith)

left : (a b : Bool) → (a && b) ≡ true → a ≡ true
left true b e = refl
left false b e = absurd cc

-- who does not hold the lock has drawn nothing
undrawn : (s : Setting) → (v s).mode ≡ Free → (v s).drawn ≡ None
undrawn s free = is (v s).drawn refl where
  is : (d : Option ℕ) → (v s).drawn ≡ d → d ≡ None
  is None e = refl
  is (Some t) e = absurd (s.law.holding s.me t e free)

-- nor does any seat beside an exclusive holder
undrawn_beside : (s : Setting) (i : ℕ) → i ≢ s.me → each s.z View.mode s.views i ≡ Exclusive → (v s).drawn ≡ None
undrawn_beside s i ne e = undrawn s (s.law.sole i s.me e (λ same. ne (sym same)))

-- ---- heads

-- the heads are as this list of looks says
abbrev FindsHeads : Setting → Memory → Mode → List (Option ℕ) → Type 0
FindsHeads s memory mode heads = (t chain n : ℕ) → mode ≡ Exclusive → s.memory Limit ≤ t + s.z.cells → t < s.memory Limit
    → slice_index_or heads (line_of (region_of s.z (cell_of s.z t)) chain) None ≡ Some n → memory (Head (region_of s.z (cell_of s.z t)) chain) ≡ n

-- a seat that has drawn nothing changes no head
heads_stay : (s : Setting) (step : Step) → Opens s step → (v s).drawn ≡ None → (r c : ℕ) → M s step (Head r c) ≡ s.memory (Head r c)
heads_stay s (Link head) o none r c = absurd (o.0 none)
heads_stay s (Look word) o none r c = λ k. looked_same s word k (Head r c)
heads_stay s step o none r c = refl

-- a look notes what it found
head_looked : (s : Setting) (r c : ℕ) → r < 2 → FindsHeads s s.memory (v s).mode
    (cond (holds_lock (v s)) (set (v s).fresh_heads (line_of r c) (Some (s.memory (Head r c)))) (v s).fresh_heads)
head_looked s r c lt = by_bool (λ b. FindsHeads s s.memory (v s).mode
    (cond b (set (v s).fresh_heads (line_of r c) (Some (s.memory (Head r c)))) (v s).fresh_heads)) (holds_lock (v s))
    (λ _ t chain n mode from until look. let r' = region_of s.z (cell_of s.z t) in dite (ℕ_discrete (line_of r' chain) (line_of r c))
    (λ e. let same = same_line r' chain r c (region_below s.z (cell_of s.z t)) lt e in
    let is : Some (s.memory (Head r c)) ≡ Some n = set_says (v s).fresh_heads (line_of r c) n (Some (s.memory (Head r c)))
    (subst (λ (k : ℕ). slice_index_or (set (v s).fresh_heads (line_of r c) (Some (s.memory (Head r c)))) k None ≡ Some n) e look) in
    (λ k. s.memory (Head (same.0 k) (same.1 k))) ∙ ap or_zero is)
    (λ ne. s.law.found_heads s.me t chain n mode from until
    (sym (get_or-set_other (v s).fresh_heads (line_of r c) (line_of r' chain) (Some (s.memory (Head r c))) None ne) ∙ look)))
    (λ _. s.law.found_heads s.me)

-- an exchange leaves the other heads, and of its own nothing is noted any more
head_linked : (s : Setting) (head : ℕ) → FindsHeads s (M s (Link head)) (v s).mode (set (v s).fresh_heads (own_line s.z (v s)) None)
head_linked s head t chain n mode from until look = let r' = region_of s.z (cell_of s.z t) in
    dite (ℕ_discrete (line_of r' chain) (own_line s.z (v s)))
    (λ e. absurd (let is : None ≡ Some n = set_says (v s).fresh_heads (own_line s.z (v s)) n None
    (subst (λ (k : ℕ). slice_index_or (set (v s).fresh_heads (own_line s.z (v s)) None) k None ≡ Some n) e look) in cc))
    (λ ne. put_other s.memory (Head (region_of s.z (cell_of s.z (own s))) (or_zero (v s).key % s.z.chains)) (Head r' chain) _
    (λ e. let a : r' ≡ region_of s.z (cell_of s.z (own s)) = cc in let b : chain ≡ or_zero (v s).key % s.z.chains = cc in ne (λ k. line_of (a k) (b k)))
    ∙ s.law.found_heads s.me t chain n mode from until
    (sym (get_or-set_other (v s).fresh_heads (own_line s.z (v s)) (line_of r' chain) None None ne) ∙ look))

heads_after : (s : Setting) (step : Step) → Opens s step → FindsHeads s (M s step) (w s step).mode (w s step).fresh_heads
heads_after s (EnterShared l) o = λ t chain n mode. absurd (by_test (λ b. cond b Shared (v s).mode ≢ Exclusive) (x s (EnterShared l)) l
    (λ _ e. absurd cc) (λ _ e. absurd (let free = o.0 in cc)) mode)
heads_after s EnterExclusive o = by_test (λ b. FindsHeads s (M s EnterExclusive) (cond b Exclusive (v s).mode) (cond b (blank (2 * s.z.chains))
    (v s).fresh_heads)) (x s EnterExclusive) 0 (λ _ t chain n mode from until look. absurd (blank_says (2 * s.z.chains) _ n look))
    (λ _ t chain n mode. absurd (let free = o in cc))
heads_after s LeaveShared o = λ t chain n mode. absurd cc
heads_after s LeaveExclusive o = λ t chain n mode. absurd cc
heads_after s (Fill Key y) o = s.law.found_heads s.me
heads_after s (Fill part y) o = s.law.found_heads s.me
heads_after s (Link head) o = head_linked s head
heads_after s (Look (Head r c)) o = λ t chain n mode from until look. (λ k. looked_same s (Head r c) k (Head (region_of s.z (cell_of s.z t)) chain))
    ∙ head_looked s r c (ltb-true r 2 (left (nat_lt r 2) (nat_lt c s.z.chains) o.0)) t chain n mode from until look
heads_after s (Look word) o = λ t chain n mode from until look. (λ k. looked_same s word k (Head (region_of s.z (cell_of s.z t)) chain))
    ∙ s.law.found_heads s.me t chain n mode from until look
heads_after s step o = s.law.found_heads s.me

pub found_heads_kept : (s : Setting) (step : Step) → Opens s step
    → AreFoundHeads s.z (M s step) (M s step Limit) (each s.z View.mode (V s step)) (each s.z View.fresh_heads (V s step))
found_heads_kept s step o = subst (λ (limit : ℕ). AreFoundHeads s.z (M s step) limit (each s.z View.mode (V s step)) (each s.z View.fresh_heads (V s step)))
    (sym (limit_same s step)) (by_seat s (w s step) (λ i u. FindsHeads s (M s step) u.mode u.fresh_heads) (heads_after s step o)
    (λ i ne t chain n mode from until look. heads_stay s step o (undrawn_beside s i ne mode) _ _ ∙ s.law.found_heads i t chain n mode from until look))

pub found_heads_merged : (g : Ground) (step : Step) → OpensTo g step
    → AreFoundHeads g.z (memory' g step) (memory' g step Limit) (each g.z View.mode g.views) (each g.z View.fresh_heads g.views)
found_heads_merged g (Look c) o = subst (λ (m : Memory). AreFoundHeads g.z m (m Limit) (each g.z View.mode g.views) (each g.z View.fresh_heads g.views))
    (sym (merger_looked_same g c)) g.law.found_heads
found_heads_merged g (WriteRun (Count p) y) o = g.law.found_heads
found_heads_merged g (WriteRun (Entry p e i) y) o = g.law.found_heads
found_heads_merged g (WriteRun word y) o = absurd o.1
found_heads_merged g (ClearHead region chain) o = λ i t c n mode from until look.
    put_other g.memory (Head region chain) (Head (region_of g.z (cell_of g.z t)) c) 0
    (λ e. let same : region_of g.z (cell_of g.z t) ≡ region = cc in now_apart g o.0 t from until (same ∙ o.2))
    ∙ g.law.found_heads i t c n mode from until look
found_heads_merged g ExtendLimit o = λ i t c n mode. absurd (not_both o.0 (exclusive_free g i mode))
found_heads_merged g step o = g.law.found_heads

-- ---- the exchanges of an exclusive holder

-- its exchange of a head finds what its look found
pub head_as_found : (s : Setting) (head : ℕ) → Opens s (Link head) → (v s).mode ≡ Exclusive → x s (Link head) ≡ head
head_as_found s head o mode = let d = s.law.pending s.me (own s) (own_drawn s o.0) in let a = d.1 in let b = s.law.bounded in
    s.law.found_heads s.me (own s) (or_zero (v s).key % s.z.chains) head mode d.0 (omega arith) o.6

-- and so does its exchange of a link
pub link_as_found : (s : Setting) (p next : ℕ) → Opens s (Insert p next) → (v s).mode ≡ Exclusive → x s (Insert p next) ≡ next
link_as_found s p next o mode =
    (s.law.found_links s.me (own s) (record { link = link_at (R s) p; next = next }) mode (own_drawn s o.0) o.1 o.6).leads

-- ---- links

-- the link is as this look says, until the drawn cell is inserted
abbrev FindsLink : Setting → Memory → Mode → Option ℕ → Bool → Option FreshLink → Type 0
FindsLink s memory mode drawn inserted fresh = (t : ℕ) (found : FreshLink) → mode ≡ Exclusive → drawn ≡ Some t → inserted ≡ false → fresh ≡ Some found
    → IsFoundLink s.z memory t found

-- it is found so where its word stays
found_as : (z : Layout) (memory memory' : Memory) (t : ℕ) (found : FreshLink) (l : IsFoundLink z memory t found)
    → memory' (Order (link_at (region_of z (cell_of z t)) l.before)) ≡ memory (Order (link_at (region_of z (cell_of z t)) l.before))
    → IsFoundLink z memory' t found
found_as z memory memory' t found l same = record {
  before = l.before;
  link = l.link;
  another = l.another;
  leads = subst (λ (k : ℕ). memory' (Order k) ≡ memory (Order k)) (sym l.link) same ∙ l.leads;
}

-- a seat that has drawn nothing changes no link
links_stay : (s : Setting) (step : Step) → Opens s step → (v s).drawn ≡ None → (k : ℕ) → M s step (Order k) ≡ s.memory (Order k)
links_stay s (FillOrder y) o none k = absurd (o.0 none)
links_stay s (Insert p next) o none k = absurd (o.0 none)
links_stay s (Look word) o none k = λ j. looked_same s word j (Order k)
links_stay s step o none k = refl

-- the look that the seat has goes on, where this step leaves the links
still_found : (s : Setting) (step : Step) → ((k : ℕ) → M s step (Order k) ≡ s.memory (Order k))
    → FindsLink s (M s step) (v s).mode (v s).drawn (v s).inserted (v s).fresh_link
still_found s step same t found mode drawn out look =
    found_as s.z s.memory (M s step) t found (s.law.found_links s.me t found mode drawn out look) (same _)

-- a look at a link behind a known place notes what it found
link_looked : (s : Setting) (k : ℕ) → FindsLink s s.memory (v s).mode (v s).drawn (v s).inserted
    (cond (is_listed s.z (v s) k) (Some (record { link = k; next = s.memory (Order k) })) (v s).fresh_link)
link_looked s k = by_listed s (λ b. FindsLink s s.memory (v s).mode (v s).drawn (v s).inserted
    (cond b (Some (record { link = k; next = s.memory (Order k) })) (v s).fresh_link)) k
    (λ some p e leads t found mode drawn out look. let same : own s ≡ t = ap or_zero drawn in
    let is : record { link = k; next = s.memory (Order k) } ≡ found = cc in
    subst (IsFoundLink s.z s.memory t) is (subst (λ (u : ℕ). IsFoundLink s.z s.memory u (record { link = k; next = s.memory (Order k) })) same (record {
      before = p;
      link = e;
      another = ⊎_elim (λ (zero : 0 ≡ p) (own : p ≡ P s). absurd (omega arith)) (λ (i : In p (s.orders (R s))). another_place s some out (R s) p i) leads;
      leads = refl;
    })))
    (s.law.found_links s.me)

links_after : (s : Setting) (step : Step) → Opens s step
    → FindsLink s (M s step) (w s step).mode (w s step).drawn (w s step).inserted (w s step).fresh_link
links_after s (EnterShared l) o = λ t found mode drawn. absurd (s.law.holding s.me t drawn o.0)
links_after s EnterExclusive o = λ t found mode drawn. absurd (s.law.holding s.me t drawn o)
links_after s LeaveShared o = λ t found mode. absurd cc
links_after s LeaveExclusive o = λ t found mode. absurd cc
links_after s (Draw u) o = λ t found mode. absurd (let shared = o.0 in cc)
links_after s (Fill Key y) o = still_found s (Fill Key y) (λ k. refl)
links_after s (Fill part y) o = still_found s (Fill part y) (λ k. refl)
links_after s (FillOrder y) o = λ t found mode drawn out look. let l = s.law.found_links s.me t found mode drawn out look in
    let same : own s ≡ t = ap or_zero drawn in let r = region_of s.z (cell_of s.z t) in
    found_as s.z s.memory (M s (FillOrder y)) t found l (put_other s.memory (Order (P s + 1)) (Order (link_at r l.before)) y
    (λ e. let at : link_at r l.before ≡ P s + 1 = cc in
    let behind : link_at r l.before ≡ link_at r (place_of_time s.z t) =
    at ∙ ap (λ (u : ℕ). place_of_time s.z u + 1) same ∙ sym (link_behind r (cell_of s.z t)) in
    l.another (link_same r r l.before (place_of_time s.z t) (region_below s.z (cell_of s.z t)) (region_below s.z (cell_of s.z t)) behind).0))
links_after s (Insert p next) o = λ t found mode drawn out look. absurd cc
links_after s (Decide u deed) o = λ t found mode drawn. absurd cc
links_after s (Cancel u) o = λ t found mode drawn. still_found s (Cancel u) (λ k. refl) t found mode (not_given_up (v s).drawn u t drawn)
links_after s (Look (Order k)) o = λ t found mode drawn out look. let l = link_looked s k t found mode drawn out look in
    found_as s.z s.memory (M s (Look (Order k))) t found l (λ j. looked_same s (Order k) j (Order (link_at (region_of s.z (cell_of s.z t)) l.before)))
links_after s (Look word) o = still_found s (Look word) (λ k j. looked_same s word j (Order k))
links_after s step o = still_found s step (λ k. refl)

pub found_links_by : (s : Setting) (memory : Memory) (y : View) → ((i : ℕ) → i ≢ s.me → each s.z View.mode s.views i ≡ Exclusive
    → (k : ℕ) → memory (Order k) ≡ s.memory (Order k)) → FindsLink s memory y.mode y.drawn y.inserted y.fresh_link
    → AreFoundLinks s.z memory (each s.z View.mode (set s.views s.me y)) (each s.z View.drawn (set s.views s.me y))
    (each s.z View.inserted (set s.views s.me y))
    (each s.z View.fresh_link (set s.views s.me y))
found_links_by s memory y same now = by_seat s y (λ i u. FindsLink s memory u.mode u.drawn u.inserted u.fresh_link) now
    (λ i ne t found mode drawn out look. found_as s.z s.memory memory t found (s.law.found_links i t found mode drawn out look) (same i ne mode _))

pub found_links_kept : (s : Setting) (step : Step) → Opens s step
    → AreFoundLinks s.z (M s step) (each s.z View.mode (V s step)) (each s.z View.drawn (V s step))
    (each s.z View.inserted (V s step)) (each s.z View.fresh_link (V s step))
found_links_kept s step o = found_links_by s (M s step) (w s step) (λ i ne mode. links_stay s step o (undrawn_beside s i ne mode)) (links_after s step o)

-- a step of the merger that leaves the links
still_merged : (g : Ground) (step : Step) → ((k : ℕ) → memory' g step (Order k) ≡ g.memory (Order k)) → AreFoundLinks g.z (memory' g step)
    (each g.z View.mode g.views) (each g.z View.drawn g.views) (each g.z View.inserted g.views) (each g.z View.fresh_link g.views)
still_merged g step same i t found mode drawn out look =
    found_as g.z g.memory (memory' g step) t found (g.law.found_links i t found mode drawn out look) (same _)

pub found_links_merged : (g : Ground) (step : Step) → OpensTo g step → AreFoundLinks g.z (memory' g step) (each g.z View.mode g.views)
    (each g.z View.drawn g.views) (each g.z View.inserted g.views) (each g.z View.fresh_link g.views)
found_links_merged g (Look c) o = still_merged g (Look c) (λ k j. merger_looked_same g c j (Order k))
found_links_merged g (WriteRun (Count p) y) o = still_merged g (WriteRun (Count p) y) (λ k. refl)
found_links_merged g (WriteRun (Entry p e i) y) o = still_merged g (WriteRun (Entry p e i) y) (λ k. refl)
found_links_merged g (WriteRun word y) o = absurd o.1
found_links_merged g (ClearOrder region) o = λ i t found mode drawn out look. let l = g.law.found_links i t found mode drawn out look in
    let p = drawn_shown g i t drawn in let r = region_of g.z (cell_of g.z t) in
    found_as g.z g.memory (memory' g (ClearOrder region)) t found l (put_other g.memory (Order region) (Order (link_at r l.before)) 0
    (λ e. let at : link_at r l.before ≡ link_at region 0 = cc in
    let is = link_same r region l.before 0 (region_below g.z (cell_of g.z t)) (retired_small g region o.2) at in
    current_region g o.0 t p.0 p.1 (is.1 is.0 ∙ o.2)))
found_links_merged g step o = still_merged g step (λ k. refl)

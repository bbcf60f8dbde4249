-- What `==` says of callers' views: whether they are the same but for their counts.
use Rattle.std.proofs.Common.{◌≡◌, ◌==◌, ◌&&◌, ℕ, Bool, true, List, [], ◌∷◌, map, Option, refl, sym, ap, subst}
use Rattle.std.proofs.Math.Bool.{true≢false}
use Rattle.std.proofs.lemmas.Bool.Decides.{Decides-and, Decides-like}
use Rattle.std.specs.Bool.{Decides}
use Rattle.std.specs.Cmp.{unsigned_Decides, booleans_Decides}
use Rattle.std.specs.Cmp.Lexicographic.{pointwise, pointwise_decides}
use Rattle.std.specs.Option.{option_eq}
use Rattle.clsm_model.proofs.Equals.{Decides-by_same, option_eq-Decides}
use Rattle.clsm_model.proofs.EqualRecords.{CallRecord-Decides, Members-Decides}
use Rattle.clsm_law.specs.Same.{uncounted}
use Rattle.clsm_law.specs.declared.view.FreshLink.{FreshLink}
use Rattle.clsm_law.specs.declared.view.Mode.{Mode}
use Rattle.clsm_law.specs.declared.view.Mode.TheVariants.{Free, Shared, Exclusive}
use Rattle.clsm_law.specs.declared.view.SnapshotState.{SnapshotState}
use Rattle.clsm_law.specs.declared.view.SnapshotState.TheVariants.{Absent, Noted, Timed, Open}
use Rattle.clsm_law.specs.declared.view.View.{View}
use Rattle.clsm_law.specs.contracts.view.FreshLinkPartialEq.TheImpl as of_links
use Rattle.clsm_law.specs.contracts.view.FreshLinkEq.TheImpl.Laws as link_laws
use Rattle.clsm_law.specs.contracts.view.ModePartialEq.TheImpl as of_modes
use Rattle.clsm_law.specs.contracts.view.ModeEq.TheImpl.Laws as mode_laws
use Rattle.clsm_law.specs.contracts.view.SnapshotStatePartialEq.TheImpl as of_states
use Rattle.clsm_law.specs.contracts.view.SnapshotStateEq.TheImpl.Laws as state_laws
use Rattle.clsm_law.specs.contracts.view.ViewPartialEq.TheImpl as of_views
use Rattle.clsm_law.specs.contracts.view.ViewEq.TheImpl.Laws as view_laws

infixr 30 ◌&◌
-- two tests together decide both
pub ◌&◌ : {a b : Bool} {P Q : Type 0} → Decides a P → Decides b Q → Decides (a && b) (P × Q)
◌&◌ p q = Decides-and _ _ p q

mode-same : (a b : Mode) → of_modes.ghosts.eq a b ≡ true → a ≡ b
mode-same Free Free h = refl
mode-same Shared Shared h = refl
mode-same Exclusive Exclusive h = refl
mode-same _ _ h = absurd (true≢false (sym h))

pub Mode-Decides : (a b : Mode) → Decides (of_modes.ghosts.eq a b) (a ≡ b)
Mode-Decides = Decides-by_same mode_laws.laws-law mode-same

state-same : (a b : SnapshotState) → of_states.ghosts.eq a b ≡ true → a ≡ b
state-same Absent Absent h = refl
state-same (Noted t) (Noted u) h = ap Noted ((unsigned_Decides t u).0 h)
state-same (Timed n t) (Timed m u) h = let e = (unsigned_Decides n m & unsigned_Decides t u).0 h in λ i. Timed (e.0 i) (e.1 i)
state-same (Open n t) (Open m u) h = let e = (unsigned_Decides n m & unsigned_Decides t u).0 h in λ i. Open (e.0 i) (e.1 i)
state-same _ _ h = absurd (true≢false (sym h))

pub SnapshotState-Decides : (a b : SnapshotState) → Decides (of_states.ghosts.eq a b) (a ≡ b)
SnapshotState-Decides = Decides-by_same state_laws.laws-law state-same

link-same : (a b : FreshLink) → of_links.ghosts.eq a b ≡ true → a ≡ b
link-same a b h = let e = (unsigned_Decides a.link b.link & unsigned_Decides a.next b.next).0 h in λ i. record { link = e.0 i; next = e.1 i }

pub FreshLink-Decides : (a b : FreshLink) → Decides (of_links.ghosts.eq a b) (a ≡ b)
FreshLink-Decides = Decides-by_same link_laws.laws-law link-same

word : (o p : Option ℕ) → Decides (option_eq ◌==◌ o p) (o ≡ p)
word = option_eq-Decides unsigned_Decides

link : (o p : Option FreshLink) → Decides (option_eq of_links.ghosts.eq o p) (o ≡ p)
link = option_eq-Decides FreshLink-Decides

words : (xs ys : List (Option ℕ)) → Decides (pointwise (option_eq ◌==◌) xs ys) (xs ≡ ys)
words = pointwise_decides word

-- equal views agree in every field but their counts
view-same : (v w : View) → of_views.ghosts.eq v w ≡ true → uncounted v ≡ uncounted w
view-same v w h =
    let fields = (Mode-Decides v.mode w.mode & word v.fresh_lock w.fresh_lock & word v.fresh_clock w.fresh_clock & words v.fresh_heads w.fresh_heads
    & word v.hold_limit w.hold_limit & word v.hold_clock w.hold_clock
    & word v.drawn w.drawn & word v.key w.key & word v.length w.length & words v.words w.words & word v.next w.next
    & booleans_Decides v.linked w.linked & word v.order_next w.order_next & booleans_Decides v.inserted w.inserted & link v.fresh_link w.fresh_link
    & unsigned_Decides v.met w.met & unsigned_Decides v.low w.low & unsigned_Decides v.high w.high
    & Members-Decides v.staged w.staged & booleans_Decides v.committed w.committed
    & unsigned_Decides v.pin w.pin & booleans_Decides v.pinned w.pinned & word v.held w.held & word v.clock w.clock & word v.pin_clock w.pin_clock
    & SnapshotState-Decides v.snapshot w.snapshot & unsigned_Decides v.reached w.reached & unsigned_Decides v.past w.past & unsigned_Decides v.due w.due
    & pointwise_decides CallRecord-Decides v.calls w.calls).0 h in
    cc

-- two views are equal where they are the same without their counts
pub View-Decides : (v w : View) → Decides (of_views.ghosts.eq v w) (uncounted v ≡ uncounted w)
View-Decides v w = (view-same v w, λ same. subst (λ u. of_views.ghosts.eq (uncounted v) u ≡ true) same (view_laws.laws-law.refl (uncounted v)))

-- ---- lists of views

-- a test of what a function makes of two values tests two lists for the same of each
pub along-Decides : {A B : Type 0} (f : A → B) {E : A → A → Bool} → ((x y : A) → Decides (E x y) (f x ≡ f y)) → (xs ys : List A)
    → Decides (pointwise E xs ys) (map f xs ≡ map f ys)
along-Decides f each [] [] = (λ h. refl, λ e. refl)
along-Decides f each [] (y ∷ ys) = (λ h. absurd (true≢false (sym h)), λ e. cc)
along-Decides f each (x ∷ xs) [] = (λ h. absurd (true≢false (sym h)), λ e. cc)
along-Decides f each (x ∷ xs) (y ∷ ys) =
    Decides-like _ (λ e i. e.0 i ∷ e.1 i) (λ e. (cc, cc)) (each x y & along-Decides f each xs ys)

pub Views-Decides : (vs ws : List View) → Decides (pointwise of_views.ghosts.eq vs ws) (map uncounted vs ≡ map uncounted ws)
Views-Decides = along-Decides uncounted View-Decides

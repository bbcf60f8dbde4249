-- What `==` says of values and rows: whether they are the same.
use Rattle.std.proofs.Common.{◌≡◌, ℕ, ◌&&◌, Bool, true, List, length, take, Option, Some, None, refl, sym, ◌∙◌, ap, subst}
use Rattle.std.proofs.Math.Bool.{true≢false}
use Rattle.std.proofs.Math.Seq.{take-append_seam}
use Rattle.std.proofs.lemmas.Bool.Decides.{Decides-and, Decides-like, same_from_decides}
use Rattle.std.specs.Bool.{Decides}
use Rattle.std.specs.Cmp.{IsEquivalence, unsigned_Decides}
use Rattle.std.specs.Cmp.Lexicographic.{pointwise, pointwise_decides, bytes_decides}
use Rattle.std.specs.Option.{option_eq}
use Rattle.clsm_model.specs.Map.{Pair}
use Rattle.clsm_model.specs.Value.{padded}
use Rattle.clsm_model.specs.contracts.value.ValuePartialEq.TheImpl as of_values
use Rattle.clsm_model.specs.contracts.value.ValueEq.TheImpl.Laws as value_laws
use Rattle.clsm_model.specs.contracts.rows.RowsPartialEq.TheImpl as of_rows

-- ---- tests in general

-- an equivalence whose yes says that two values are the same answers just that
pub Decides-by_same : {A : Type 0} {E : A → A → Bool} → IsEquivalence E → ((x y : A) → E x y ≡ true → x ≡ y) → (x y : A) → Decides (E x y) (x ≡ y)
Decides-by_same {E = E} laws same x y = (same x y, λ e. subst (λ z. E x z ≡ true) e (laws.refl x))

pub option_eq-Decides : {A : Type 0} {E : A → A → Bool} → ((x y : A) → Decides (E x y) (x ≡ y)) → (o p : Option A) → Decides (option_eq E o p) (o ≡ p)
option_eq-Decides each None None = (λ h. refl, λ e. refl)
option_eq-Decides each None (Some y) = (λ h. absurd (true≢false (sym h)), λ e. cc)
option_eq-Decides each (Some x) None = (λ h. absurd (true≢false (sym h)), λ e. cc)
option_eq-Decides each (Some x) (Some y) = (λ h. ap Some ((each x y).0 h), λ e. (each x y).1 cc)

-- two pairs are the same where both parts are
pub pair-Decides : {A B : Type 0} {E : A → A → Bool} {F : B → B → Bool} → ((x y : A) → Decides (E x y) (x ≡ y)) → ((x y : B) → Decides (F x y) (x ≡ y))
    → (p q : A × B) → Decides (E p.0 q.0 && F p.1 q.1) (p ≡ q)
pair-Decides first second p q =
    Decides-like _ (λ e i. (e.0 i, e.1 i)) (λ e. (ap (λ pair. pair.0) e, ap (λ pair. pair.1) e)) (Decides-and _ _ (first p.0 q.0) (second p.1 q.1))

-- two tests of lists that decide the same, the one item by item, answer the same
pub same_test : {A : Type 0} {E : A → A → Bool} {F : List A → List A → Bool} → ((x y : A) → Decides (E x y) (x ≡ y))
    → ((xs ys : List A) → Decides (F xs ys) (xs ≡ ys)) → (xs ys : List A) → pointwise E xs ys ≡ F xs ys
same_test each whole xs ys = same_from_decides _ _ (pointwise_decides each xs ys) (whole xs ys)

-- ---- values and rows

-- the padded words and their number tell the words
padded-same : (v w : List ℕ) → padded v ≡ padded w → length v ≡ length w → v ≡ w
padded-same v w places count =
    sym (take-append_seam v _) ∙ ap (take (length v)) places ∙ ap (λ n. take n (padded w)) count ∙ take-append_seam w _

value-same : (v w : List ℕ) → of_values.ghosts.eq v w ≡ true → v ≡ w
value-same v w h =
    let e = (Decides-and _ _ (bytes_decides (padded v) (padded w)) (unsigned_Decides (length v) (length w))).0 h in
    padded-same v w e.0 e.1

pub Value-Decides : (v w : List ℕ) → Decides (of_values.ghosts.eq v w) (v ≡ w)
Value-Decides = Decides-by_same value_laws.laws-law value-same

pub Rows-Decides : (a b : List Pair) → Decides (of_rows.ghosts.eq a b) (a ≡ b)
Rows-Decides = pointwise_decides (pair-Decides unsigned_Decides bytes_decides)

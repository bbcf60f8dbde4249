-- The test of words for equality.
use Rattle.std.proofs.Common.{◌≡◌, ◌==◌, ◌&&◌, true, refl, ap, eq-eqb}
use Rattle.std.proofs.lemmas.Bool.{and_parts, and_from, eqb-true}
use Rattle.clsm_law.specs.declared.word.Word.{Word}
use Rattle.clsm_law.specs.declared.word.Word.TheVariants.{Lock, Clock, Limit, Front, Merged, Pin, Snap, Head, Cell, Order, Hint, State, Count, Entry}
use Rattle.clsm_law.specs.declared.word.Part.{Part}
use Rattle.clsm_law.specs.declared.word.Part.TheVariants.{Key, Length, Value, Next}
use Rattle.clsm_law.specs.Memory.{is_same, is_same_part}

is_same_part-refl : (p : Part) → is_same_part p p ≡ true
is_same_part-refl (Value i) = eq-eqb i i refl
is_same_part-refl Key = refl
is_same_part-refl Length = refl
is_same_part-refl Next = refl

-- each word is the same as itself
pub is_same-refl : (w : Word) → is_same w w ≡ true
is_same-refl Lock = refl
is_same-refl Clock = refl
is_same-refl Limit = refl
is_same-refl Front = refl
is_same-refl Merged = refl
is_same-refl (Pin i) = eq-eqb i i refl
is_same-refl (Snap i) = eq-eqb i i refl
is_same-refl (Head r s) = and_from _ _ (eq-eqb r r refl) (eq-eqb s s refl)
is_same-refl (Cell c p) = and_from _ _ (eq-eqb c c refl) (is_same_part-refl p)
is_same-refl (Order k) = eq-eqb k k refl
is_same-refl (Hint c i) = and_from _ _ (eq-eqb c c refl) (eq-eqb i i refl)
is_same-refl (State c) = eq-eqb c c refl
is_same-refl (Count p) = eq-eqb p p refl
is_same-refl (Entry p e i) = and_from _ _ (and_from _ _ (eq-eqb p p refl) (eq-eqb e e refl)) (eq-eqb i i refl)

same_part : (p q : Part) → is_same_part p q ≡ true → p ≡ q
same_part Key Key h = refl
same_part Length Length h = refl
same_part (Value i) (Value j) h = ap Value (eqb-true i j h)
same_part Next Next h = refl
same_part _ _ h = cc

-- and as no other
pub same_word : (v w : Word) → is_same v w ≡ true → v ≡ w
same_word Lock Lock h = refl
same_word Clock Clock h = refl
same_word Limit Limit h = refl
same_word Front Front h = refl
same_word Merged Merged h = refl
same_word (Pin i) (Pin j) h = ap Pin (eqb-true i j h)
same_word (Snap i) (Snap j) h = ap Snap (eqb-true i j h)
same_word (Head r s) (Head q t) h =
    let e = and_parts (r == q) (s == t) h in
    let f = eqb-true r q e.0 in
    let g = eqb-true s t e.1 in cc
same_word (Cell c p) (Cell d q) h =
    let e = and_parts (c == d) (is_same_part p q) h in
    let f = eqb-true c d e.0 in
    let g = same_part p q e.1 in cc
same_word (Order k) (Order l) h = ap Order (eqb-true k l h)
same_word (Hint c i) (Hint d j) h =
    let e = and_parts (c == d) (i == j) h in
    let f = eqb-true c d e.0 in
    let g = eqb-true i j e.1 in cc
same_word (State c) (State d) h = ap State (eqb-true c d h)
same_word (Count p) (Count q) h = ap Count (eqb-true p q h)
same_word (Entry p e i) (Entry q f j) h =
    let a = and_parts (p == q && e == f) (i == j) h in
    let b = and_parts (p == q) (e == f) a.0 in
    let x = eqb-true p q b.0 in
    let y = eqb-true e f b.1 in
    let u = eqb-true i j a.1 in cc
same_word _ _ h = cc

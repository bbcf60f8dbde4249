-- Two lists, place by place.
use Rattle.std.proofs.Common.{◌≡◌, ℕ, zero, suc, ◌<◌, List, [], ◌∷◌, ◌++◌, length, get_or}
use Rattle.std.proofs.Common.{refl, arith}
use Rattle.std.specs.List.{AllZip}

-- one more place
pub zip_push : {A B : Type 0} (R : A → B → Type 0) (xs : List A) (ys : List B) (x : A) (y : B) →
    AllZip R xs ys → R x y → AllZip R (xs ++ x ∷ []) (ys ++ y ∷ [])
zip_push R [] [] x y all one = (one, tt)
zip_push R [] (z ∷ ys) x y all one = absurd all
zip_push R (z ∷ xs) [] x y all one = absurd all
zip_push R (z ∷ xs) (w ∷ ys) x y all one = (all.0, zip_push R xs ys x y all.1 one)

-- each place of the first list has one in the second
pub zip_at : {A B : Type 0} (R : A → B → Type 0) (xs : List A) (ys : List B) (i : ℕ) (d : A) →
    AllZip R xs ys → i < length xs → (y : B) × R (get_or xs i d) y
zip_at R [] ys i d all inside = absurd (omega arith)
zip_at R (x ∷ xs) [] i d all inside = absurd all
zip_at R (x ∷ xs) (y ∷ ys) zero d all inside = (y, all.0)
zip_at R (x ∷ xs) (y ∷ ys) (suc i) d all inside = zip_at R xs ys i d all.1 (omega arith)

-- the element behind a list
pub get_seam : {A : Type 0} (xs : List A) (y : A) (ys : List A) (d : A) →
    get_or (xs ++ y ∷ ys) (length xs) d ≡ y
get_seam [] y ys d = refl
get_seam (x ∷ xs) y ys d = get_seam xs y ys d

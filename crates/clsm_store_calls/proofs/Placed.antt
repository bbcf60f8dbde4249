-- Reads of many keys: the value of one more is in its place.
use Rattle.std.proofs.Common.{◌∙◌, ℕ, ◌+◌, ◌<◌, ◌≤◌, List, [], ◌∷◌, ◌++◌, Option, ap, get_or, length, map, set, subst, sym, take}
use Rattle.std.proofs.lemmas.List.{map-append, take_all, take_more, take_more_set}
use Rattle.std.specs.List.{AllZip}
use Rattle.clsm_model.specs.History.{History, value}
use Rattle.clsm_store_calls.specs.Many.{HoldValues}

zip_push : {A B : Type 0} (R : A → B → Type 0) (xs : List A) (ys : List B) (x : A) (y : B) → AllZip R xs ys → R x y → AllZip R (xs ++ x ∷ []) (ys ++ y ∷ [])
zip_push R [] [] x y all is = (is, tt)
zip_push R [] (b ∷ ys) x y all is = elim all [ ]
zip_push R (a ∷ xs) [] x y all is = elim all [ ]
zip_push R (a ∷ xs) (b ∷ ys) x y all is = (all.0, zip_push R xs ys x y all.1 is)

module _ {K V : Type 0} (key : K → ℕ) (Tells : V → Option (List ℕ) → Type 0) (h : History) (t : ℕ) where
  -- one key more
  pub one_more : (keys : List K) (places : List V) (at : ℕ) (d : K) (place : V) → at < length keys → at < length places
      → HoldValues Tells h t (map key (take at keys)) (take at places) → Tells place (value h (key (get_or keys at d)) t)
      → HoldValues Tells h t (map key (take (at + 1) keys)) (take (at + 1) (set places at place))
  one_more keys places at d place some room before told =
      subst (λ (new : List V). HoldValues Tells h t (map key (take (at + 1) keys)) new) (sym (take_more_set places at place room))
      (subst (λ (new : List ℕ). HoldValues Tells h t new (take at places ++ place ∷ []))
      (sym (ap (map key) (take_more keys at d some) ∙ map-append key (take at keys) (get_or keys at d ∷ [])))
      (zip_push _ (map key (take at keys)) (take at places) (key (get_or keys at d)) place before told))

  -- all are, once there is no key left
  pub all_placed : (keys : List K) (places : List V) (at : ℕ) → length keys ≤ at → length places ≤ at
      → HoldValues Tells h t (map key (take at keys)) (take at places) → HoldValues Tells h t (map key keys) places
  all_placed keys places at end end' before =
      subst (λ (new : List V). HoldValues Tells h t (map key keys) new) (take_all at places end')
      (subst (λ (new : List K). HoldValues Tells h t (map key new) (take at places)) (take_all at keys end) before)

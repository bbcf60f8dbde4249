-- Places that are filled one after another.
use Rattle.std.proofs.Common.{◌≡◌, ℕ, ◌+◌, ◌<◌, List, [], ◌∷◌, ◌++◌, length, map, take, set, get_or, refl, ap, sym, ◌∙◌, true, Option, Some}
use Rattle.std.proofs.lemmas.List.{take_more_set, map_more}
use Rattle.clsm_law.specs.Views.{is_all_some}

-- one place more is filled
pub fill_more : (xs : List (Option ℕ)) (ws : List ℕ) (i : ℕ) → i < length xs → i < length ws → take i xs ≡ map (λ w. Some w) (take i ws)
    → take (i + 1) (set xs i (Some (get_or ws i 0))) ≡ map (λ w. Some w) (take (i + 1) ws)
fill_more xs ws i in_xs in_ws e = take_more_set xs i (Some (get_or ws i 0)) in_xs ∙ ap (λ l. l ++ Some (get_or ws i 0) ∷ []) e
    ∙ sym (map_more (λ w. Some w) ws i 0 in_ws)

-- each of them is there
pub all_there : (ws : List ℕ) → is_all_some (map (λ (w : ℕ). Some w) ws) ≡ true
all_there [] = refl
all_there (w ∷ ws) = all_there ws

-- When the first words filled into a cell are a value's.
use Rattle.std.proofs.Common.{◌≡◌, ◌↔◌, ℕ, ◌<◌, ◌≤◌, ◌&&◌, EachIndex, List, [], ◌∷◌, length, map, take, get_or, Option, Some, None, refl, sym, ap, ◌∙◌, arith}
use Rattle.std.specs.List.{list_all}
use Rattle.std.specs.Option.{is_some}
use Rattle.std.proofs.lemmas.List.{ext_get_or, get_or-map, length-map, length-take-le}
use Rattle.clsm_law.specs.Views.{is_all_some}

said-at : (written : List ℕ) (i : ℕ) → i < length written → get_or (map (λ w. Some w) written) i None ≡ Some (get_or written i 0)
said-at written i lt = get_or-map (λ (w : ℕ). Some w) written i 0 None lt

pub words_said : (words : List (Option ℕ)) (written : List ℕ) → length written ≤ length words
    → EachIndex (take (length written) words) (λ i. get_or (take (length written) words) i None ≡ Some (get_or written i 0)) ↔ (take
    (length written) words ≡ map (λ w. Some w) written)
words_said words written inside =
    let k = length-take-le (length written) words inside in
    let m = length-map written (λ (w : ℕ). Some w) in (
      λ each. ext_get_or None (take (length written) words) (map (λ w. Some w) written) (omega arith)
          (λ i lt. each i lt ∙ sym (said-at written i (omega arith))),
      λ same i lt. ap (λ (ws : List (Option ℕ)). get_or ws i None) same ∙ said-at written i (omega arith),
    )

pub is_all_some-all : (words : List (Option ℕ)) → list_all is_some words ≡ is_all_some words
is_all_some-all [] = refl
is_all_some-all (word ∷ words) = ap (λ b. is_some word && b) (is_all_some-all words)

-- The text of a value, one word more.
use Rattle.std.proofs.Common.{◌≡◌, ℕ, ◌+◌, ◌<◌, List, [], ◌∷◌, ◌++◌, length, take, get_or, refl, ap, ◌∙◌, append_assoc}
use Rattle.std.proofs.lemmas.List.{take_more}
use Rattle.std.specs.Fmt.{decimal}
use Rattle.clsm_model.specs.Value.{comma, text}

-- what stands between these words and one more
abbrev pub separator_after : List ℕ → List ℕ
separator_after [] = []
separator_after (_ ∷ _) = comma ∷ []

separator_after-push : (words : List ℕ) (word : ℕ) → separator_after (words ++ word ∷ []) ≡ comma ∷ []
separator_after-push [] word = refl
separator_after-push (_ ∷ _) word = refl

text-push : (words : List ℕ) (word : ℕ) → text words ++ (separator_after words ++ decimal word) ≡ text (words ++ word ∷ [])
text-push [] word = refl
text-push (first ∷ []) word = refl
text-push (first ∷ second ∷ words) word =
    append_assoc (decimal first) _ _ ∙ ap (λ (end : List ℕ). decimal first ++ (comma ∷ end)) (text-push (second ∷ words) word)

-- the same of the words of a list, one by one
pub separator_after-take_more : (words : List ℕ) (i : ℕ) → i < length words → separator_after (take (i + 1) words) ≡ comma ∷ []
separator_after-take_more words i within = rw (take_more words i 0 within) (separator_after-push (take i words) (get_or words i 0))

pub text-take_more : (words : List ℕ) (i : ℕ) → i < length words
    → text (take i words) ++ (separator_after (take i words) ++ decimal (get_or words i 0)) ≡ text (take (i + 1) words)
text-take_more words i within = rw (take_more words i 0 within) (text-push (take i words) (get_or words i 0))

-- A line that is written from its end, or composed.
use Rattle.std.proofs.Common.{◌≡◌, ◌∙◌, ℕ, ◌+◌, ◌-◌, ◌≤◌, List, [], ◌∷◌, ◌++◌, length, drop, set, ap, arith}
use Rattle.std.proofs.Common.{Option, Some, subst}
use Rattle.std.specs.Io.KnownBytes.{Appends}
use Rattle.std.proofs.lemmas.List.{drop-set}

-- a byte is put before the text that stands at the end of the line
pub put_before : (line : List ℕ) (start byte : ℕ) (text : List ℕ) → 1 ≤ start → start ≤ length line →
    drop start line ≡ text → drop (start - 1) (set line (start - 1) byte) ≡ byte ∷ text
put_before line start byte text some inside is =
    let next : start - 1 + 1 ≡ start = omega arith in
    drop-set line (start - 1) byte (omega arith) ∙ ap (λ n. byte ∷ drop n line) next ∙ ap (λ l. byte ∷ l) is

-- what is composed in an empty room and then written is a text behind what the output held
pub written : (before after : Option (List ℕ)) (start shown seen text : List ℕ) → start ≡ [] →
    Appends (Some start) (Some shown) text → seen ≡ shown → Appends before after seen → Appends before after text
written before after start shown seen text none composed same appended =
    subst (Appends before after) (same ∙ composed ∙ ap (λ l. l ++ text) none) appended

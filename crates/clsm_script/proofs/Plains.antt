-- The calls that plain lines say.
use Rattle.std.proofs.Common.{◌≡◌, ℕ, ◌<◌, ◌==◌, false, List, [], ◌∷◌, ◌++◌, ◌+◌, ◌-◌, length, take, drop, get_or, codes}
use Rattle.std.proofs.Common.{◌∙◌, ap, refl, sym, subst, arith, lit<}
use Rattle.std.proofs.lemmas.List.{drop_more, length-drop, take-append-drop, take_all}
use Rattle.std.proofs.lemmas.List.Elements.{All-cons, All-nil}
use Rattle.std.proofs.lemmas.Str.Ascii.{IsAscii-from_all}
use Rattle.std.specs.Str.{IsAscii}
use Rattle.clsm_text.proofs.Digits.{value_of_number}
use Rattle.clsm_text.proofs.PlainLines.{HasNoSpace, one_number, two_numbers}
use Rattle.clsm_text.specs.Line.{IsComment, IsText, words_of}
use Rattle.clsm_text.specs.Member.{WritesNumber}
use Rattle.clsm_script.specs.Command.{SaysCall}
use Rattle.clsm_store.specs.declared.play.call.Call.TheVariants.{Put, Get}

-- a name of three bytes
module _ (a b c : ℕ) where
  no_space : (a == 32) ≡ false → (b == 32) ≡ false → (c == 32) ≡ false → HasNoSpace (a ∷ b ∷ c ∷ [])
  no_space first second third =
      All-cons (λ x. (x == 32) ≡ false) a (b ∷ c ∷ []) first
      (All-cons (λ x. (x == 32) ≡ false) b (c ∷ []) second
      (All-cons (λ x. (x == 32) ≡ false) c [] third (All-nil (λ x. (x == 32) ≡ false))))

  all_ascii : a < 128 → b < 128 → c < 128 → IsAscii (a ∷ b ∷ c ∷ [])
  all_ascii first second third =
      IsAscii-from_all (a ∷ b ∷ c ∷ [])
      (All-cons (λ x. x < 128) a (b ∷ c ∷ []) first
      (All-cons (λ x. x < 128) b (c ∷ []) second (All-cons (λ x. x < 128) c [] third (All-nil (λ x. x < 128)))))

-- the line `get K`
pub says_get : (key : List ℕ) (number : ℕ) → WritesNumber key number →
    (¬ IsComment (words_of (codes "get" ++ 32 ∷ key))) × IsText (codes "get" ++ 32 ∷ key)
    × SaysCall (Get number) (words_of (codes "get" ++ 32 ∷ key))
says_get key number written =
    let (text, words) =
    one_number (codes "get") (omega arith) (omega arith) (no_space 103 101 116 refl refl refl)
    (all_ascii 103 101 116 (lit< tt) (lit< tt) (lit< tt)) key written.0 in (
      (λ comment. let sign : ◌≡◌ {A = ℕ} 103 35 = subst IsComment words comment in absurd (omega arith)),
      text,
      subst (SaysCall (Get number)) (sym words) (refl, written),
    )

-- the line `put K V`, of one word
pub says_put : (row key text : List ℕ) (number word : ℕ) (value : List ℕ) → row ≡ key ++ 32 ∷ text →
    WritesNumber key number → WritesNumber text word → value ≡ word ∷ [] →
    (¬ IsComment (words_of (codes "put" ++ 32 ∷ row))) × IsText (codes "put" ++ 32 ∷ row)
    × SaysCall (Put number value) (words_of (codes "put" ++ 32 ∷ row))
says_put row key text number word value parts written other only =
    let (is_text, words) =
    two_numbers (codes "put") (omega arith) (omega arith) (no_space 112 117 116 refl refl refl)
    (all_ascii 112 117 116 (lit< tt) (lit< tt) (lit< tt)) key text written.0 other.0 in
    let (is_value, same) = value_of_number text other.0 in
    rw parts (
      (λ comment. let sign : ◌≡◌ {A = ℕ} 112 35 = subst IsComment words comment in absurd (omega arith)),
      is_text,
      subst (SaysCall (Put number value)) (sym words)
          (refl, written, (is_value, only ∙ ap (λ w. w ∷ []) other.1 ∙ sym same)),
    )

-- bytes are those before a place, the one there, and the rest
pub parted : (bytes : List ℕ) (i byte : ℕ) → i < length bytes → get_or bytes i 0 ≡ byte →
    bytes ≡ take i bytes ++ byte ∷ take (length bytes - (i + 1)) (drop (i + 1) bytes)
parted bytes i byte inside there =
    let rest : take (length bytes - (i + 1)) (drop (i + 1) bytes) ≡ drop (i + 1) bytes =
    take_all (length bytes - (i + 1)) (drop (i + 1) bytes) (omega (arith, length-drop (i + 1) bytes)) in
    let more : drop i bytes ≡ byte ∷ drop (i + 1) bytes = drop_more bytes i 0 inside ∙ ap (λ b. b ∷ drop (i + 1) bytes) there in
    rw rest (sym (take-append-drop i bytes) ∙ ap (λ l. take i bytes ++ l) more)

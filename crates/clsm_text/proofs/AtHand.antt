-- A line that is at hand, and is taken.
use Rattle.std.proofs.Common.{◌≡◌, ◌≢◌, ◌∙◌, ℕ, ◌+◌, ◌<◌, ◌≤◌, Bool, false, true, List, [], ◌∷◌, ◌++◌, length, take, drop, get_or}
use Rattle.std.proofs.Common.{Option, Some, None, IfSome, ap, sym, subst, arith}
use Rattle.std.proofs.Math.Seq.{take-append_seam}
use Rattle.std.proofs.lemmas.Bool.{eq-eqb, eqb-true}
use Rattle.std.proofs.lemmas.List.{get_or-take, length-append, length-take, take_more, take-append-drop, take-take}
use Rattle.std.proofs.lemmas.List.Elements.{All-from_get_or}
use Rattle.std.specs.Io.{StartsWith}
use Rattle.std.specs.Io.KnownBytes.{Consumes, prepend_known}
use Rattle.std.specs.Prelude.{if◌then◌else◌}
use Rattle.std.specs.Io.BufRead.{DropsConsumable}
use Rattle.memchr.specs.Find.{IsFirstByte, is_byte}
use Rattle.clsm_text.proofs.Taken.{line_to_feed}
use Rattle.clsm_text.specs.Input.{BeginsWithLine}
use Rattle.clsm_text.specs.Taken.{TakesLine}

-- what stands before the first line feed of the first bytes is a line
pub begins_with : (bytes : List ℕ) (most end : ℕ) → most ≤ 4097 →
    IsFirstByte (is_byte 10) (take most bytes) (Some end) →
    BeginsWithLine bytes (take end (take most bytes))
begins_with bytes most end few first =
    let near = take most bytes in
    let inside : end < length near = first.0.high in
    let size : length (take end near) ≡ end = omega (arith, length-take end near) in
    let fits = length-take most bytes in
    let feed : get_or near end 0 ≡ 10 = eqb-true _ _ first.1 in
    let all : take (end + 1) near ≡ take (end + 1) bytes = take-take (end + 1) most bytes (omega arith) in
    record {
      begins = rw size (sym all ∙ take_more near end 0 inside ∙ ap (λ b. take end near ++ b ∷ []) feed);
      no_feed = All-from_get_or (λ b. b ≢ 10) (take end near) 0 (λ i below is.
          first.0.before i (omega arith) (omega arith)
          (eq-eqb _ _ (sym (get_or-take end near i 0 (omega arith)) ∙ is)));
      short = omega arith;
    }

-- a line that stands at the beginning of what is at hand of an input is taken
pub taken_at_hand : (old new : Option (List ℕ)) (shown line : List ℕ) →
    IfSome old (λ bytes. StartsWith bytes shown) → BeginsWithLine shown line →
    DropsConsumable old new (Some (length shown)) (length line + 1) →
    IfSome old (λ bytes. TakesLine bytes line new)
taken_at_hand None new shown line starts begins drops = tt
taken_at_hand (Some bytes) new shown line starts begins drops =
    let count = length line + 1 in
    let sizes = ap length begins.begins in
    let fits : count ≤ length shown =
    omega (arith, sizes, length-take count shown, length-append line (10 ∷ [])) in
    let front : take count bytes ≡ line ++ 10 ∷ [] =
    sym (take-take count (length shown) bytes fits) ∙ ap (take count) starts ∙ begins.begins in
    let taken : Consumes (Some bytes) (Some (drop count bytes)) (line ++ 10 ∷ []) =
    sym (take-append-drop count bytes) ∙ ap (λ l. l ++ drop count bytes) front in
    subst (TakesLine bytes line) (sym (drops fits))
    (line_to_feed (Some bytes) (Some (drop count bytes)) line taken begins.no_feed begins.short)

-- what a reader has at hand is next in its input
pub at_hand : (none : Bool) (shown : List ℕ) (inner : Option (List ℕ)) →
    IfSome (if none then None else prepend_known shown inner) (λ bytes. StartsWith bytes shown)
at_hand true shown inner = tt
at_hand false shown None = tt
at_hand false shown (Some bytes) = take-append_seam shown bytes

-- some bytes are left where a line is at hand
pub some_at_hand : (bytes shown line : List ℕ) → StartsWith bytes shown → BeginsWithLine shown line →
    bytes ≢ []
some_at_hand bytes shown line starts begins none =
    let count = length line + 1 in
    absurd (omega (
      arith,
      ap length begins.begins,
      length-append line (10 ∷ []),
      length-take count shown,
      ap length starts,
      length-take (length shown) bytes,
      ap length none,
    ))

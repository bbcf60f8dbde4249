-- What words write, a thing for each, and what no text writes.
use Rattle.std.proofs.Common.{◌≡◌, ℕ, ◌+◌, ◌<◌, List, [], ◌∷◌, ◌++◌, length, take, get_or}
use Rattle.std.proofs.Common.{drop_of_length-le, arith, subst, sym}
use Rattle.std.proofs.lemmas.List.{map_more, get_or-map, length-map}
use Rattle.std.specs.Borrow.{Bor}
use Rattle.std.specs.List.{AllZip, position_or_len, after_first}
use Rattle.clsm_model.specs.declared.slot.Change.{Change}
use Rattle.clsm_model.specs.declared.slot.Change.TheVariants.{Keep, Set, Remove}
use Rattle.clsm_text.specs.Line.{texts_of}
use Rattle.clsm_text.specs.Member.{is_equals, WritesChange, WritesMember}
use Rattle.clsm_text.specs.Number.{IsNumber, IsValue}
use Rattle.clsm_text.proofs.Zips.{zip_push, zip_at}

-- ---- words that write a thing each
module _ {A : Type 0} (Writes : List ℕ → A → Type 0) (words : List (Bor (List ℕ))) (i : ℕ)
    (d : Bor (List ℕ)) (inside : i < length words) where
  -- one more is read
  pub written_more : (xs : List A) (x : A) → AllZip Writes (texts_of (take i words)) xs →
      Writes (get_or words i d).now x → AllZip Writes (texts_of (take (i + 1) words)) (xs ++ x ∷ [])
  written_more xs x before writes =
      subst (λ (ws : List (List ℕ)). AllZip Writes ws (xs ++ x ∷ []))
      (sym (map_more (λ (w : Bor (List ℕ)). w.now) words i d inside))
      (zip_push Writes (texts_of (take i words)) xs (get_or words i d).now x before writes)

  -- where one word writes none, the words don't
  pub none_written : ((x : A) → ¬ Writes (get_or words i d).now x) → (xs : List A) →
      ¬ AllZip Writes (texts_of words) xs
  none_written refused xs write =
      let long : length (texts_of words) ≡ length words =
      length-map words (λ (w : Bor (List ℕ)). w.now) in
      let (x, writes) = zip_at Writes (texts_of words) xs i d.now write (omega arith) in
      refused x
      (subst (λ (w : List ℕ). Writes w x)
      (get_or-map (λ (w : Bor (List ℕ)). w.now) words i d d.now inside) writes)

-- ---- texts

-- the empty text is no value
pub nil_no_value : ¬ IsValue []
nil_no_value value =
    let number : IsNumber [] = value.numbers 0 [] (omega arith) in
    omega (arith, number.numeral.0)

-- nothing stands behind a `=` that is not there
pub no_equals : (word : List ℕ) → position_or_len is_equals word ≡ length word →
    after_first is_equals word ≡ []
no_equals word far = drop_of_length-le word (omega arith)

-- the empty text is no change
nil_no_change : (change : Change) → ¬ WritesChange [] change
nil_no_change Keep writes = absurd (cc)
nil_no_change (Set value) writes = nil_no_value writes.0
nil_no_change Remove writes = absurd (cc)

-- a text with no `=` is no member
pub no_member : (word : List ℕ) → position_or_len is_equals word ≡ length word →
    (member : ℕ × Change) → ¬ WritesMember word member
no_member word far member writes =
    nil_no_change member.1
    (subst (λ (t : List ℕ). WritesChange t member.1) (no_equals word far) writes.1)

-- An entry's words, written one after another, spell it.
use Rattle.std.proofs.Common.{◌≡◌, ℕ, ◌+◌, ◌<◌, ◌≤◌, length, get_or, sym, ◌∙◌, arith}
use Rattle.clsm_levels.specs.declared.entry.Entry.{Entry}
use Rattle.clsm_law.specs.declared.word.Word.TheVariants.{Entry as EntryWord}
use Rattle.clsm_words.specs.declared.known.Known.{Known}
use Rattle.clsm_words.specs.Knowing.{row_of}
use Rattle.clsm_words.specs.Changing.{Changes}
use Rattle.clsm_runs.specs.Placing.{IsPart, spelling, value_list}
use Rattle.clsm_runs.proofs.Spelled.{Spells}

other_part : (p i a b : ℕ) → (a ≡ b → ⊥) → IsPart p i a (EntryWord p i b) → ⊥
other_part p i a b ne same = let e : b ≡ a = cc same in ne (sym e)

-- a part stays over a write of another
part_stays : (k k' : Known) (p i a b : ℕ) → (a ≡ b → ⊥) → Changes (IsPart p i a) k k' → row_of k' (EntryWord p i b) ≡ row_of k (EntryWord p i b)
part_stays k k' p i a b ne changes = changes.stays (EntryWord p i b) tt (other_part p i a b ne)

-- the words of the value, then its length, the time and the key
module _ (valued sized timed keyed : Known) (p i : ℕ) (e : Entry)
    (words : (j : ℕ) → j < 8 → row_of valued (EntryWord p i (3 + j)) ≡ get_or (value_list e.value) j 0) (few : length (value_list e.value) ≤ 8)
    (size : Changes (IsPart p i 2) valued sized) (length_made : row_of sized (EntryWord p i 2) ≡ length (value_list e.value))
    (time : Changes (IsPart p i 1) sized timed) (time_made : row_of timed (EntryWord p i 1) ≡ spelling e)
    (key : Changes (IsPart p i 0) timed keyed) (key_made : row_of keyed (EntryWord p i 0) ≡ e.key) where
  pub all_spell : Spells (row_of keyed) p i e
  all_spell = record {
    key = key_made;
    time = part_stays timed keyed p i 0 1 (λ e. omega arith) key ∙ time_made;
    counted = part_stays timed keyed p i 0 2 (λ e. omega arith) key ∙ part_stays sized timed p i 1 2 (λ e. omega arith) time ∙ length_made;
    words = λ j lt. part_stays timed keyed p i 0 (3 + j) (λ e. omega arith) key ∙ part_stays sized timed p i 1 (3 + j) (λ e. omega arith) time
        ∙ part_stays valued sized p i 2 (3 + j) (λ e. omega arith) size ∙ words j lt;
    few = few;
  }

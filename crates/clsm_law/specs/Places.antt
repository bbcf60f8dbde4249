-- The places of the runs by their numbers: 0 to 2 of level 0, 3 and 4 of level 1; and the entries
-- that their words spell.
use Rattle.std.specs.Prelude.{ℕ, zero, suc, ◌+◌, ◌/◌, ◌%◌, ◌==◌, Bool, cond, nat_lt, List, [], ◌∷◌, take, Some, None}
use Rattle.clsm_levels.specs.declared.entry.Entry.{Entry}
use Rattle.clsm_levels.specs.declared.place.Place.{Place}
use Rattle.clsm_levels.specs.declared.place.Place.TheVariants.{LevelZero, LevelOne}
use Rattle.clsm_law.specs.declared.word.Word.TheVariants.{Count, Entry as EntryWord}
use Rattle.clsm_law.specs.Memory.{Memory}

-- the number of a place
abbrev pub number_of : Place → ℕ
number_of (LevelZero i) = i
number_of (LevelOne i) = 3 + i

-- the readers of component m search the place
abbrev pub is_named : ℕ → ℕ → Bool
is_named m p = cond (nat_lt p 3) (nat_lt p (m % 4)) (p == 3 + m / 4 % 2)

-- the words of an entry's value
abbrev pub value_words : Memory → ℕ → ℕ → List ℕ
value_words memory p i = memory (EntryWord p i 3) ∷ memory (EntryWord p i 4) ∷ memory (EntryWord p i 5) ∷ memory (EntryWord p i 6) ∷ memory
    (EntryWord p i 7) ∷ memory (EntryWord p i 8) ∷ memory (EntryWord p i 9) ∷ memory (EntryWord p i 10) ∷ []

-- the entry i of the place p: its time word is twice the time, plus 1 for a removal
abbrev pub entry_in : Memory → ℕ → ℕ → Entry
entry_in memory p i = record {
  key = memory (EntryWord p i 0);
  time = memory (EntryWord p i 1) / 2;
  value = cond (memory (EntryWord p i 1) % 2 == 1) None (Some (take (memory (EntryWord p i 2)) (value_words memory p i)));
}

-- n entries, from the entry i on
abbrev pub entries_from : Memory → ℕ → ℕ → ℕ → List Entry
entries_from memory p i zero = []
entries_from memory p i (suc n) = entry_in memory p i ∷ entries_from memory p (i + 1) n

-- what a place holds
abbrev pub entries_in : Memory → ℕ → List Entry
entries_in memory p = entries_from memory p 0 (memory (Count p))

-- the same, of a place by its name
abbrev pub held_at : Memory → Place → List Entry
held_at memory place = entries_in memory (number_of place)

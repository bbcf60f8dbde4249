-- The merger's seat while it takes its floor.
use Rattle.std.specs.Prelude.{◌≡◌, ℕ, ◌==◌, cond, max, Option, Some, None}
use mathlib.Core.List.{IsPrefix}
use Rattle.clsm_law.specs.declared.merger.MergerView.{MergerView}
use Rattle.clsm_law.specs.declared.merger.Round.{Round}
use Rattle.clsm_law.specs.declared.word.Word.{Word}
use Rattle.clsm_law.specs.Merging.{IsRunWord, least_or}
use Rattle.clsm_law.specs.Views.{next_word}
use Rattle.clsm_words.specs.declared.known.Known.{Known}
use Rattle.clsm_words.specs.Knowing.{row_of}

-- the merger's view m, but with the floor of n, its rounds of looks, and what these found
abbrev pub with_floor : MergerView → MergerView → MergerView
with_floor m n = record m { floor = n.floor; round = n.round; rounds = n.rounds; noted = n.noted }

-- its view is as it was, but for its floor and its rounds of looks, its past goes on, and the words
-- of runs stay
pub record KeepsFrozen (old new : Known) : Type 0 where
  pub layout : new.layout ≡ old.layout
  pub view : new.merger ≡ with_floor old.merger new.merger
  pub past : IsPrefix old.past new.past
  pub runs : (word : Word) → IsRunWord word → row_of new word ≡ row_of old word

-- after looks at the first seats, with the least time noted: the round stands there, or is whole,
-- has given the floor and is counted
abbrev pub round_at : ℕ → ℕ → Option ℕ → Option Round → Option Round
round_at seats seat found before = cond (seat == 0) before (cond (seat == seats) None (Some (record { next = seat; least = found })))

-- the floor then: the whole round takes it up to the least time noted, or to the end of the epoch
-- where that is less
abbrev pub floor_at : ℕ → ℕ → ℕ → ℕ → Option ℕ → ℕ
floor_at seats seat before end found =
    cond (seat == 0) before (cond (seat == seats) (max before (least_or end (Some (record { next = seat; least = found })))) before)

-- and the number of rounds, modulo 2^64
abbrev pub rounds_at : ℕ → ℕ → ℕ → ℕ
rounds_at seats seat before = cond (seat == 0) before (cond (seat == seats) (next_word before) before)

-- and what the last whole round found noted
abbrev pub noted_at : ℕ → ℕ → Option ℕ → Option ℕ → Option ℕ
noted_at seats seat found before = cond (seat == 0) before (cond (seat == seats) found before)

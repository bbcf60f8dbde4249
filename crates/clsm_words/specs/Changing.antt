-- What several steps of the merger's seat change of the words of runs.
use Rattle.std.specs.Prelude.{◌≡◌, true}
use mathlib.Core.List.{IsPrefix}
use Rattle.clsm_law.specs.declared.word.Word.{Word}
use Rattle.clsm_law.specs.Merging.{is_frozen, IsRunWord}
use Rattle.clsm_words.specs.declared.known.Known.{Known}
use Rattle.clsm_words.specs.Knowing.{row_of}

-- the merger's view is as it was, and its trail while an epoch is frozen; its past goes on, and of
-- the words of runs only such change
pub record Changes (Those : Word → Type 0) (k k' : Known) : Type 0 where
  pub layout : k'.layout ≡ k.layout
  pub view : k'.merger ≡ k.merger
  pub trail : is_frozen k.merger.phase ≡ true → k'.trail ≡ k.trail
  pub past : IsPrefix k.past k'.past
  pub stays : (word : Word) → IsRunWord word → (Those word → ⊥) → row_of k' word ≡ row_of k word

-- none of them changes
abbrev pub NoWord : Word → Type 0
NoWord word = ⊥

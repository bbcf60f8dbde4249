-- Where the places of the runs begin.
use Rattle.std.specs.Prelude.{ℕ, List, [], ◌∷◌}
use Rattle.clsm_law.specs.declared.layout.Layout.{Layout}
use Rattle.clsm_law.specs.declared.word.Word.TheVariants.{Count}
use Rattle.clsm_law.specs.Layout.{index_of}

-- where each of the five places begins, with its count
abbrev pub starts_of : Layout → List ℕ
starts_of z = index_of z (Count 0) ∷ index_of z (Count 1) ∷ index_of z (Count 2) ∷ index_of z (Count 3) ∷ index_of z (Count 4) ∷ []

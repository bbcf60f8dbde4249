-- Where a place begins, with its count.
use Rattle.std.proofs.Common.{◌≡◌, ℕ, ◌<◌, refl}
use Rattle.std.proofs.lemmas.Bool.{lt-ltb}
use Rattle.std.specs.Prelude.{slice_index}
use Rattle.clsm_law.specs.declared.layout.Layout.{Layout}
use Rattle.clsm_law.specs.declared.word.Word.TheVariants.{Count}
use Rattle.clsm_law.specs.Layout.{index_of, size_of}
use Rattle.clsm_law.proofs.Rows.Index.{index_inside}
use Rattle.clsm_law.proofs.Cases.{below}
use Rattle.clsm_words.specs.Starts.{starts_of}

pub start_at : (z : Layout) (p : ℕ) → p < 5 → slice_index (starts_of z) p ≡ index_of z (Count p)
start_at z = below (λ p. slice_index (starts_of z) p ≡ index_of z (Count p)) 5 (refl, (refl, (refl, (refl, (refl, tt)))))

pub start_inside : (z : Layout) (p : ℕ) → p < 5 → index_of z (Count p) < size_of z
start_inside z p lt = index_inside z (Count p) (lt-ltb p 5 lt)

-- What memory of C's holds: the handle that lies there.
use Rattle.std.specs.Prelude.{ℕ}
use base.Fraction.{full_share}
use base.Fml.{Fml, fex, fsep, ftrue}
use prog.Memory.{size}
use denote.Memory.{lone}
use denote.RattleType.{RattleType}
use denote.RawPtr.{Ptr, lies_at}

-- the bytes that a handle of this type takes
abbrev pub bytes_of : RattleType → ℕ
bytes_of R = size (lone R.mir)

-- the handle lies there
abbrev pub lies : (R : RattleType) → Ptr → R.Denot → Fml
lies R p x = lies_at R full_share p x

-- a handle lies there of which this is so
abbrev pub left : (R : RattleType) → Ptr → (R.Denot → Type 0) → Fml
left R p P = fex R.Denot (λ x. fsep (lies_at R full_share p x) (fex (P x) (λ _. ftrue)))

-- two lie there, of which this is so
abbrev pub both : (R S : RattleType) → Ptr → Ptr → (R.Denot → S.Denot → Type 0) → Fml
both R S p q P = fex R.Denot (λ x. fex S.Denot (λ y. fsep (lies_at R full_share p x) (fsep (lies_at S full_share q y) (fex (P x y) (λ _. ftrue)))))

-- The three phases of the merger exclude one another.
use Rattle.std.proofs.Common.{◌≡◌, true, false, refl}
use Rattle.clsm_law.specs.declared.merger.Phase.{Phase}
use Rattle.clsm_law.specs.declared.merger.Phase.TheVariants.{Clean, Frozen, Retired}
use Rattle.clsm_law.specs.Merging.{is_clean, is_frozen, is_retired}

pub clean_frozen : (p : Phase) → is_clean p ≡ true → is_frozen p ≡ false
clean_frozen Clean e = refl
clean_frozen Frozen e = absurd cc
clean_frozen Retired e = absurd cc

pub clean_retired : (p : Phase) → is_clean p ≡ true → is_retired p ≡ false
clean_retired Clean e = refl
clean_retired Frozen e = absurd cc
clean_retired Retired e = absurd cc

pub frozen_retired : (p : Phase) → is_frozen p ≡ true → is_retired p ≡ false
frozen_retired Clean e = absurd cc
frozen_retired Frozen e = refl
frozen_retired Retired e = absurd cc

pub retired_clean : (p : Phase) → is_retired p ≡ true → is_clean p ≡ false
retired_clean Clean e = absurd cc
retired_clean Frozen e = absurd cc
retired_clean Retired e = refl

pub retired_frozen : (p : Phase) → is_retired p ≡ true → is_frozen p ≡ false
retired_frozen Clean e = absurd cc
retired_frozen Frozen e = absurd cc
retired_frozen Retired e = refl

pub retired_not_clean : (p : Phase) → is_retired p ≡ true → is_clean p ≡ true → ⊥
retired_not_clean p e f = let no = retired_clean p e in cc (no, f)

pub frozen_not_clean : (p : Phase) → is_frozen p ≡ true → is_clean p ≡ true → ⊥
frozen_not_clean p e f = let no = clean_frozen p f in cc (no, e)

pub frozen_not_retired : (p : Phase) → is_frozen p ≡ true → is_retired p ≡ true → ⊥
frozen_not_retired p e f = let no = frozen_retired p e in cc (no, f)

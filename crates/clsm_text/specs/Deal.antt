-- The calls that words ask for.
use Rattle.std.specs.Prelude.{◌≡◌, ℕ, List, [], ◌∷◌, codes}
use Rattle.clsm_model.specs.declared.deal.Deal.{Deal}
use Rattle.clsm_model.specs.declared.deal.Deal.TheVariants.{Put, Remove, Get, Add, Claim}
use Rattle.clsm_model.specs.declared.deal.Deal.TheVariants.{Snap, Close, GetAt, Scan}
use Rattle.clsm_text.specs.Member.{WritesNumber, WritesValue}

-- the words ask for the call
abbrev pub SaysDeal : Deal → List (List ℕ) → Type 0
SaysDeal (Put key value) (name ∷ k ∷ v ∷ []) =
    (name ≡ codes "put") × WritesNumber k key × WritesValue v value
SaysDeal (Remove key) (name ∷ k ∷ []) = (name ≡ codes "remove") × WritesNumber k key
SaysDeal (Get key) (name ∷ k ∷ []) = (name ≡ codes "get") × WritesNumber k key
SaysDeal (Add key by) (name ∷ k ∷ d ∷ []) =
    (name ≡ codes "add") × WritesNumber k key × WritesNumber d by
SaysDeal (Claim key value) (name ∷ k ∷ v ∷ []) =
    (name ≡ codes "claim") × WritesNumber k key × WritesValue v value
SaysDeal Snap (name ∷ []) = name ≡ codes "snap"
SaysDeal Close (name ∷ []) = name ≡ codes "close"
SaysDeal (GetAt key) (name ∷ k ∷ []) = (name ≡ codes "getat") × WritesNumber k key
SaysDeal (Scan lo hi) (name ∷ l ∷ h ∷ []) =
    (name ≡ codes "scan") × WritesNumber l lo × WritesNumber h hi
SaysDeal _ _ = ⊥

-- The commands of a script, as their words say them.
use Rattle.std.specs.Prelude.{◌≡◌, ℕ, ⊤, List, [], ◌∷◌, codes}
use Rattle.clsm_model.specs.declared.deal.Deal.TheVariants as deals
use Rattle.clsm_text.specs.Deal.{SaysDeal}
use Rattle.clsm_text.specs.Member.{WritesNumber, WritesValue, WriteMembers}
use Rattle.clsm_store.specs.declared.play.call.Call.{Call}
use Rattle.clsm_store.specs.declared.play.call.Call.TheVariants.{Put, Remove, Try, Add, Claim}
use Rattle.clsm_store.specs.declared.play.call.Call.TheVariants.{Get, Snap, Close, GetAt, Scan, Page, Batch}
use Rattle.clsm_script.specs.declared.command.Command.{Command}
use Rattle.clsm_script.specs.declared.command.Command.TheVariants.{Call as Makes, Seat, Meet, Audit}
use Rattle.clsm_script.specs.declared.command.Command.TheVariants.{Freeze, Merge, Reclaim}

-- the words ask for the call of a seat
abbrev pub SaysCall : Call → List (List ℕ) → Type 0
SaysCall (Put key value) words = SaysDeal (deals.Put key value) words
SaysCall (Remove key) words = SaysDeal (deals.Remove key) words
SaysCall (Try key value) (name ∷ k ∷ v ∷ []) =
    (name ≡ codes "try") × WritesNumber k key × WritesValue v value
SaysCall (Add key by) words = SaysDeal (deals.Add key by) words
SaysCall (Claim key value) words = SaysDeal (deals.Claim key value) words
SaysCall (Get key) words = SaysDeal (deals.Get key) words
SaysCall Snap words = SaysDeal deals.Snap words
SaysCall Close words = SaysDeal deals.Close words
SaysCall (GetAt key) words = SaysDeal (deals.GetAt key) words
SaysCall (Scan lo hi) words = SaysDeal (deals.Scan lo hi) words
SaysCall (Page from hi max) (name ∷ f ∷ h ∷ m ∷ []) =
    (name ≡ codes "page") × WritesNumber f from × WritesNumber h hi × WritesNumber m max
SaysCall (Batch members) (name ∷ words) = (name ≡ codes "batch") × WriteMembers words members
SaysCall _ _ = ⊥

-- the words say the command
abbrev pub Says : Command → List (List ℕ) → Type 0
Says (Makes call) words = SaysCall call words
Says (Seat number) (name ∷ n ∷ []) = (name ≡ codes "seat") × WritesNumber n number
Says (Meet number) (name ∷ n ∷ []) = (name ≡ codes "meet") × WritesNumber n number
Says Audit (name ∷ []) = name ≡ codes "audit"
Says Freeze (name ∷ []) = name ≡ codes "freeze"
Says Merge (name ∷ []) = name ≡ codes "merge"
Says Reclaim (name ∷ []) = name ≡ codes "reclaim"
Says _ _ = ⊥

-- the command is the call of a seat
abbrev pub IsCall : Command → Type 0
IsCall (Makes call) = ⊤
IsCall _ = ⊥

-- the words say a command
abbrev pub IsCommand : List (List ℕ) → Type 0
IsCommand words = (command : Command) × Says command words

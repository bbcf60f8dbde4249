-- The calls that words ask for.
use Rattle.std.proofs.Common.{◌≡◌, ◌≢◌, ℕ, List, [], ◌∷◌, codes}
use Rattle.clsm_model.specs.declared.deal.Deal.{Deal}
use Rattle.clsm_model.specs.declared.deal.Deal.TheVariants as deals
use Rattle.clsm_store.specs.Play.{call_for}
use Rattle.clsm_store.specs.declared.play.call.Call.{Call}
use Rattle.clsm_store.specs.declared.play.call.Call.TheVariants.{Put, Remove, Try, Add, Claim}
use Rattle.clsm_store.specs.declared.play.call.Call.TheVariants.{Get, Snap, Close, GetAt, Scan, Page, Batch}
use Rattle.clsm_text.specs.Deal.{SaysDeal}
use Rattle.clsm_script.specs.Command.{SaysCall}

-- words that ask for a deal ask for its call
pub says_deal : (words : List (List ℕ)) (deal : Deal) → SaysDeal deal words →
    SaysCall (call_for deal) words
says_deal words (deals.Put key value) says = says
says_deal words (deals.Remove key) says = says
says_deal words (deals.Get key) says = says
says_deal words (deals.Add key by) says = says
says_deal words (deals.Claim key value) says = says
says_deal words deals.Snap says = says
says_deal words deals.Close says = says
says_deal words (deals.GetAt key) says = says
says_deal words (deals.Scan lo hi) says = says
says_deal words (deals.Batch members) says = absurd says

-- words that ask for a try begin with its name
try_named : (name : List ℕ) (rest : List (List ℕ)) (key : ℕ) (value : List ℕ) →
    SaysCall (Try key value) (name ∷ rest) → name ≡ codes "try"
try_named name [] key value says = absurd says
try_named name (k ∷ []) key value says = absurd says
try_named name (k ∷ v ∷ []) key value says = says.0
try_named name (k ∷ v ∷ w ∷ rest) key value says = absurd says

-- and so those of a page
page_named : (name : List ℕ) (rest : List (List ℕ)) (from hi max : ℕ) →
    SaysCall (Page from hi max) (name ∷ rest) → name ≡ codes "page"
page_named name [] from hi max says = absurd says
page_named name (f ∷ []) from hi max says = absurd says
page_named name (f ∷ h ∷ []) from hi max says = absurd says
page_named name (f ∷ h ∷ m ∷ []) from hi max says = says.0
page_named name (f ∷ h ∷ m ∷ w ∷ rest) from hi max says = absurd says

-- words that ask for no deal, and begin with no other name, ask for no call
pub no_call : (name : List ℕ) (rest : List (List ℕ)) →
    ((deal : Deal) → ¬ SaysDeal deal (name ∷ rest)) →
    name ≢ codes "try" → name ≢ codes "page" → name ≢ codes "batch" →
    (call : Call) → ¬ SaysCall call (name ∷ rest)
no_call name rest none t p b (Put key value) says = none (deals.Put key value) says
no_call name rest none t p b (Remove key) says = none (deals.Remove key) says
no_call name rest none t p b (Try key value) says = t (try_named name rest key value says)
no_call name rest none t p b (Add key by) says = none (deals.Add key by) says
no_call name rest none t p b (Claim key value) says = none (deals.Claim key value) says
no_call name rest none t p b (Get key) says = none (deals.Get key) says
no_call name rest none t p b Snap says = none deals.Snap says
no_call name rest none t p b Close says = none deals.Close says
no_call name rest none t p b (GetAt key) says = none (deals.GetAt key) says
no_call name rest none t p b (Scan lo hi) says = none (deals.Scan lo hi) says
no_call name rest none t p b (Page from hi max) says = p (page_named name rest from hi max says)
no_call name rest none t p b (Batch members) says = b says.0

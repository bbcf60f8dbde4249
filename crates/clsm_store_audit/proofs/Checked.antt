-- What the plain map gives after the put is applied or left out, and what the comparison says.
use Rattle.std.proofs.Common.{◌≡◌, ◌↔◌, IsTrue, ℕ, ◌<◌, ◌≤◌, Bool, cond, List, [], Option, Some, None, refl, sym, ap, ◌∙◌, lt-ltb, le-ltb}
use Rattle.std.proofs.lemmas.Bool.{eq-eqb}
use Rattle.std.specs.Bool.{Decides}
use Rattle.clsm_model.specs.declared.slot.Slot.TheVariants.{Wrote}
use Rattle.clsm_model.specs.Map.{Applies, Pair, value_at}
use Rattle.clsm_store_audit.specs.Race.{left_by_put}

-- a test that the found value is the reply
pub tells : (b test : Bool) (found reply left : Option (List ℕ)) → b ≡ test → Decides test (found ≡ reply) → found ≡ left → IsTrue b ↔ (reply ≡ left)
tells b test found reply left is says e =
    ((λ t. sym (says.0 (sym is ∙ t)) ∙ e), (λ same. is ∙ says.1 (e ∙ sym same)))

-- the put is applied
pub applied : (old new : List Pair) (key put at : ℕ) (v : List ℕ) → put < at → Applies (Wrote 0 key (Some v)) old new → value_at new key ≡ left_by_put v put at
applied old new key put at v lt plays =
    plays key ∙ ap (λ (b : Bool). cond b (Some v) (value_at old key)) (eq-eqb key key refl) ∙ sym (ap (λ (b : Bool). cond b (Some v) None) (lt-ltb put at lt))

-- the put is left out
pub left_out : (map : List Pair) (key put at : ℕ) (v : List ℕ) → at ≤ put → map ≡ [] → value_at map key ≡ left_by_put v put at
left_out map key put at v le is =
    ap (λ (m : List Pair). value_at m key) is ∙ sym (ap (λ (b : Bool). cond b (Some v) None) (le-ltb put at le))

-- Conditions, tested one after another.
use Rattle.std.proofs.Common.{◌≡◌, ℕ, zero, suc, ◌+◌, ◌<◌, ◌≤◌, ◌∷◌, [], List, length, take, get_or, ap, sym, subst, ◌∙◌, arith}
use Rattle.std.proofs.Common.{Option, None, Some}
use Rattle.std.proofs.lemmas.List.{get_or_append_left, take_more}
use Rattle.std.specs.Prelude.{IsSomeAnd, slice_get}
use Rattle.clsm_levels.proofs.Every.{every-append}
use mathlib.Core.List.{IsPrefix}
use Rattle.clsm_model.specs.History.{History, plain}
use Rattle.clsm_model.specs.Map.{Pair}
use Rattle.clsm_model.specs.declared.slot.Slot.{Slot}
use Rattle.clsm_model.specs.declared.slot.Slot.TheVariants.{Nothing}
use Rattle.clsm_model.proofs.Histories.{AreSameBelow, IsRange-same, value-same}
use Rattle.clsm_store_calls.specs.declared.conditions.Condition.{Condition}
use Rattle.clsm_store_calls.specs.declared.conditions.Condition.TheVariants.{Counts, Has}
use Rattle.clsm_store_calls.specs.Conditions.{AllHold, Holds, IsFirstUnmet}
use Rattle.clsm_store_calls.specs.Scanning.{IsKeyCount}
use Rattle.clsm_store_calls.proofs.SameRange.{same_range}

-- the number of keys of a range is one
pub one_count : (h : History) (t lo hi m n : ℕ) → IsKeyCount h t lo hi m → IsKeyCount h t lo hi n → m ≡ n
one_count h t lo hi m n a b =
    a.counted ∙ ap (λ (l : List Pair). length l) (same_range h t lo hi a.rows b.rows a.all b.all) ∙ sym b.counted

-- one more holds
pub one_more : (h : History) (t : ℕ) (conditions : List Condition) (i : ℕ) (d : Condition) → i < length conditions → AllHold h t (take i conditions)
    → Holds h t (get_or conditions i d) → AllHold h t (take (i + 1) conditions)
one_more h t conditions i d within all next =
    subst (AllHold h t) (sym (take_more conditions i d within))
    (every-append (Holds h t) (take i conditions) (get_or conditions i d ∷ []) all (next, tt))

-- the condition there does not
there : (P : Condition → Type 0) (conditions : List Condition) (i : ℕ) (d : Condition) → i < length conditions → P (get_or conditions i d)
    → IsSomeAnd (slice_get conditions i) P
there P [] i d within is = absurd (omega arith)
there P (c ∷ cs) zero d within is = is
there P (c ∷ cs) (suc i) d within is = there P cs i d (omega arith) is

pub first_found : (h : History) (t : ℕ) (conditions : List Condition) (i : ℕ) (d : Condition) → i < length conditions → AllHold h t (take i conditions)
    → ¬ Holds h t (get_or conditions i d) → IsFirstUnmet h t conditions i
first_found h t conditions i d within all fails =
    record { before = all; unmet = there (λ condition. ¬ Holds h t condition) conditions i d within fails }

-- ---- as the history goes on

-- the slots begin the history's
pub same_below : (a : List Slot) (h : History) (t : ℕ) → IsPrefix a h.slots → t ≤ length a → AreSameBelow (plain a) h t
same_below a h t begins le = λ u lt.
    ap (λ (l : List Slot). get_or l u Nothing) (sym begins.1) ∙ get_or_append_left a begins.0 Nothing u (omega arith)

-- what a condition says depends on the slots below its time
holds_same : (h h' : History) (t : ℕ) → AreSameBelow h h' t → (condition : Condition) → Holds h t condition → Holds h' t condition
holds_same h h' t same (Has key expected) holds = value-same h h' key t same ∙ holds
holds_same h h' t same (Counts lo hi keys) holds = record {
  rows = holds.rows;
  all = IsRange-same h h' t lo hi holds.rows same holds.all;
  counted = holds.counted;
}

pub all_same : (h h' : History) (t : ℕ) → AreSameBelow h h' t → (conditions : List Condition) → AllHold h t conditions → AllHold h' t conditions
all_same h h' t same [] all = tt
all_same h h' t same (c ∷ cs) all = (holds_same h h' t same c all.0, all_same h h' t same cs all.1)

some_and : {P Q : Condition → Type 0} (o : Option Condition) → ((c : Condition) → P c → Q c) → IsSomeAnd o P → IsSomeAnd o Q
some_and None f is = absurd is
some_and (Some c) f is = f c is

pub first_same : (h h' : History) (t : ℕ) → AreSameBelow h h' t → (conditions : List Condition) (i : ℕ) → IsFirstUnmet h t conditions i
    → IsFirstUnmet h' t conditions i
first_same h h' t same conditions i first = record {
  before = all_same h h' t same (take i conditions) first.before;
  unmet = some_and (slice_get conditions i) (λ c fails holds. fails (holds_same h' h t (λ u lt. sym (same u lt)) c holds)) first.unmet;
}

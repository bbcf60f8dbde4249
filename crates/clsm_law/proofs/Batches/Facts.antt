-- Lists of batches by themselves.
use Rattle.std.proofs.Common.{ℕ, ◌+◌, ◌<◌, ◌≤◌, List, [], ◌∷◌, ◌++◌, refl, arith, inl, inr}
use Rattle.clsm_model.specs.declared.batch.Batch.{Batch}
use Rattle.clsm_model.specs.History.{IsUncut, IsListed, AreInTurn}

-- the bound may rise
pub in_turn_more : (from : ℕ) (bs : List Batch) (n n' : ℕ) → n ≤ n' → AreInTurn from bs n → AreInTurn from bs n'
in_turn_more from [] n n' le h = omega arith
in_turn_more from (b ∷ bs) n n' le h = (h.0, h.1, in_turn_more (b.first + b.size) bs n n' le h.2)

-- a batch at the bound comes next
pub in_turn_next : (from : ℕ) (bs : List Batch) (n size : ℕ) → 0 < size → AreInTurn from bs n
    → AreInTurn from (bs ++ record { first = n; size = size } ∷ []) (n + size)
in_turn_next from [] n size some h = (h, some, omega arith)
in_turn_next from (b ∷ bs) n size some h = (h.0, h.1, in_turn_next (b.first + b.size) bs n size some h.2)

-- the first time is not behind the bound
turn_within : (from : ℕ) (bs : List Batch) (n : ℕ) → AreInTurn from bs n → from ≤ n
turn_within from [] n h = h
turn_within from (b ∷ bs) n h = let a = h.0 in let c = turn_within (b.first + b.size) bs n h.2 in omega arith

-- so no time from the bound on is inside
pub in_turn_uncut : (from : ℕ) (bs : List Batch) (n s : ℕ) → AreInTurn from bs n → n ≤ s → IsUncut bs s
in_turn_uncut from [] n s h le = tt
in_turn_uncut from (b ∷ bs) n s h le = let c = turn_within (b.first + b.size) bs n h.2 in
    ((λ i. let a = i.1 in absurd (omega arith)), in_turn_uncut (b.first + b.size) bs n s h.2 le)

-- nor is one up to the bound in the next batch
pub uncut_next : (bs : List Batch) (n size s : ℕ) → s ≤ n → IsUncut bs s → IsUncut (bs ++ record { first = n; size = size } ∷ []) s
uncut_next [] n size s le h = ((λ i. let a = i.0 in absurd (omega arith)), tt)
uncut_next (b ∷ bs) n size s le h = (h.0, uncut_next bs n size s le h.1)

-- a listed batch stays listed, and the last one is
pub listed_before : (bs more : List Batch) (b : Batch) → IsListed bs b → IsListed (bs ++ more) b
listed_before [] more b h = absurd h
listed_before (a ∷ bs) more b (inl here) = inl here
listed_before (a ∷ bs) more b (inr there) = inr (listed_before bs more b there)

pub listed_last : (bs : List Batch) (b : Batch) → IsListed (bs ++ b ∷ []) b
listed_last [] b = inl refl
listed_last (a ∷ bs) b = inr (listed_last bs b)

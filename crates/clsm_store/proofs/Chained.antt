-- How the loops of settle go on, and what they come to.
use Rattle.std.proofs.Common.{◌≡◌, ◌≢◌, ℕ, ◌+◌, ◌<◌, ◌≤◌, List, length, get_or, set, ap, ◌∙◌, sym, subst, ⊎_elim, arith, length-set}
use mathlib.Core.Logic.{dite}
use native.Mathlib.Decide.{ℕ_discrete}
use Rattle.clsm_model.specs.History.{History, IsBeginning}
use Rattle.clsm_model.proofs.Batches.{begins_self, begins_trans}
use Rattle.clsm_words.specs.Seats.{MessageState}
use Rattle.clsm_store.specs.Headline.{IsAt}
use Rattle.clsm_store.specs.Meetings.{AreChained, AreMetAt, Follows, IsConfirmedBy, Meets, told_by}
use Rattle.clsm_store_calls.specs.Seats.{SeatState, StoreId, known_by}
use Rattle.clsm_store.specs.Settling.{HaveConfirmed, HaveFollowed, IsToldBy}
use Rattle.clsm_store.proofs.SeatPlaces.{at_get, at_one, at_set, set_back}

-- one seat knows what the other does, and its due is not below the other's
abbrev IsBefore : SeatState → SeatState → Type 0
IsBefore s s' = (s.due ≤ s'.due) × IsBeginning (known_by s) (known_by s')

self_before : (s : SeatState) → IsBefore s s
self_before s = (omega arith, begins_self (known_by s))

module _ (store : StoreId) (first : MessageState) (old l : List SeatState) (newest : MessageState) (done : ℕ)
    (h : HaveFollowed store first old l newest done) where
  module _ (s s' : SeatState) (t : ℕ) (f : Follows newest t s s') where
    -- a seat that the message carries comes before the one that followed it
    told_before : (a : SeatState) → IsToldBy newest a → IsBefore a s'
    told_before a is = (
      let x = is.due in let y = f.above_told in let z = f.due in
          omega arith,
      begins_trans (known_by a) (told_by newest) (known_by s') is.begins f.has_told,
    )

    followed_before : (i : ℕ) (a : SeatState) → i < done → IsAt l i a → IsBefore a s'
    followed_before i a lt at = told_before a (h.met i (get_or old i a) a lt (at_get old i a (let x = at.0 in let c = h.count in omega arith)) at).1

    module _ (message : MessageState) (told : told_by message ≡ known_by s') (heard : message.heard ≡ s'.due) where
      -- and the next message carries it
      told_next : (a : SeatState) → IsBefore a s' → IsToldBy message a
      told_next a before = record { due = let b = before.0 in omega arith; begins = subst (IsBeginning (known_by a)) (sym told) before.1 }

      pub followed_next : IsAt l done s → message.table ≡ store.table → HaveFollowed store first old (set l done s') message (done + 1)
      followed_next at table = record {
        table = table;
        count = length-set l done s' ∙ h.count;
        above = let a = h.above in let b = f.above_told in let c = f.due in omega arith;
        met = λ i a a' lt was is. ⊎_elim
            (λ (x : (i ≡ done) × (a' ≡ s')). subst (λ (z : SeatState × SeatState). Meets first.heard z.0 z.1 × IsToldBy message z.1)
            (λ k. (at_one old done s a (h.rest done s (omega arith) at) (subst (λ (j : ℕ). IsAt old j a) x.0 was) k, sym x.1 k))
            (record { read = f.read; due = let p = h.above in let q = f.above_told in let c = f.due in omega arith }, told_next s' (self_before s')))
            (λ (x : (i ≢ done) × IsAt l i a'). let m = h.met i a a' (let ne = x.0 in omega arith) was x.1 in (m.0, told_next a' (told_before a' m.1)))
            (at_set l done s' i a' is);
        chained = λ i j a b le lt is is'. ⊎_elim
            (λ (y : (j ≡ done) × (b ≡ s')). ⊎_elim
            (λ (x : (i ≡ done) × (a ≡ s')). subst (λ (z : SeatState × SeatState). IsBefore z.0 z.1) (λ k. (sym x.1 k, sym y.1 k)) (self_before s'))
            (λ (x : (i ≢ done) × IsAt l i a). subst (IsBefore a) (sym y.1) (followed_before i a (let ne = x.0 in let e = y.0 in omega arith) x.1))
            (at_set l done s' i a is))
            (λ (y : (j ≢ done) × IsAt l j b). ⊎_elim
            (λ (x : (i ≡ done) × (a ≡ s')). absurd (let ne = y.0 in let e = x.0 in omega arith))
            (λ (x : (i ≢ done) × IsAt l i a). h.chained i j a b le (let ne = y.0 in omega arith) x.1 y.1)
            (at_set l done s' i a is))
            (at_set l done s' j b is');
        rest = λ i a le is. ⊎_elim
            (λ (x : (i ≡ done) × (a ≡ s')). absurd (let e = x.0 in omega arith))
            (λ (x : (i ≢ done) × IsAt l i a). h.rest i a (omega arith) x.1)
            (at_set l done s' i a is);
      }

  pub followed_met : done ≡ length old → AreMetAt first.heard old l
  followed_met all = record { count = h.count; each = λ i s s' was is. (h.met i s s' (let lt = was.0 in omega arith) was is).0 }

  pub followed_chain : done ≡ length old → AreChained l
  followed_chain all i j s s' le is is' = h.chained i j s s' le (let lt = is'.0 in let c = h.count in omega arith) is is'

-- the seat next in turn is of the store, as it was before
pub next_of_store : (store : StoreId) (first : MessageState) (old l : List SeatState) (newest : MessageState) (done : ℕ) (s : SeatState)
    → HaveFollowed store first old l newest done → ((i : ℕ) (x : SeatState) → IsAt old i x → x.store ≡ store) → IsAt l done s → s.store ≡ store
next_of_store store first old l newest done s h all at = all done s (h.rest done s (omega arith) at)

module _ (seats l : List SeatState) (same : l ≡ seats) (n : ℕ) (end : n + 1 ≡ length seats) (x x' : SeatState) (here : x ≡ get_or l n x) (told : x' ≡ x) where
  pub back : set l n x' ≡ seats
  back = ap (λ (z : SeatState). set l n z) told ∙ set_back l n x ((let e = ap length same in omega arith), sym here) ∙ same

  module _ (i : ℕ) (inside : i < length seats) (s : SeatState) (there : s ≡ get_or (set l n x') i s) where
    pub sits : IsAt seats i s
    sits = (inside, subst (λ (z : List SeatState). get_or z i s ≡ s) back (sym there))

    pub confirm_same : (s' : SeatState) → s' ≡ s → set (set l n x') i s' ≡ seats
    confirm_same s' e = ap (λ (z : List SeatState). set z i s') back ∙ ap (λ (z : SeatState). set seats i z) e ∙ set_back seats i s sits

    pub confirm_next : (h : History) → h ≡ known_by x → IsConfirmedBy h s → HaveConfirmed seats i → HaveConfirmed seats (i + 1)
    confirm_next h e a c j t last lt at is_last = dite (ℕ_discrete j i)
        (λ (q : j ≡ i). subst (λ (z : SeatState × History). IsConfirmedBy z.1 z.0)
        (λ k. (
          at_one seats i s t sits (subst (λ (m : ℕ). IsAt seats m t) q at) k,
          (e ∙ ap (λ (z : SeatState). known_by z) (at_one seats n x last
              ((let w = end in omega arith), subst (λ (z : List SeatState). get_or z n x ≡ x) same (sym here))
              (subst (λ (m : ℕ). IsAt seats m last) (let b = is_last.1 in omega arith) is_last.2))) k,
        )) a)
        (λ ne. c j t last (omega arith) at is_last)

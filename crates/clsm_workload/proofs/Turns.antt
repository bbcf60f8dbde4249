-- What keys still have, and what was read of them.
use Rattle.std.proofs.Common.{◌≡◌, ◌∙◌, ℕ, zero, suc, ◌+◌, ◌<◌, List, [], ◌∷◌, ◌++◌, append_assoc, get_or, length, take, Option, Some, None}
use Rattle.std.proofs.Common.{ap, arith, refl, sym, subst}
use Rattle.std.proofs.lemmas.List.{map-append, take_more}
use Rattle.clsm_model.specs.declared.record.CallRecord.{CallRecord}
use Rattle.clsm_model.specs.declared.record.Deed.TheVariants.{Get}
use Rattle.clsm_law.specs.Relation.{call_of}
use Rattle.clsm_model.specs.History.{History, value}
use Rattle.clsm_model.specs.Map.{IsRange, Pair}
use Rattle.clsm_model.specs.Right.{Member}
use Rattle.clsm_store_calls.specs.declared.conditions.Condition.{Condition}
use Rattle.clsm_store_calls.specs.declared.refusal.BatchIfError.{BatchIfError}
use Rattle.clsm_store_calls.specs.declared.refusal.BatchIfError.TheVariants as errors
use Rattle.clsm_store_calls.specs.Conditional.{IsRefusedBatchIf}
use Rattle.clsm_store_calls.specs.Conditions.{AllHold, Holds, IsFirstUnmet}
use Rattle.clsm_store_calls.specs.Many.{HoldValues}
use Rattle.clsm_store_calls.specs.Seats.{IsSameSeat, SeatState, known_by}
use Rattle.clsm_store.specs.Promises.{GetsMany}
use Rattle.clsm_session.specs.Conditional.{IsRefusedIfAtLast}
use Rattle.clsm_session.specs.declared.refusal.BatchIfRefused.{BatchIfRefused}
use Rattle.clsm_session.specs.declared.refusal.BatchIfRefused.TheVariants as refusals
use Rattle.clsm_workload.specs.Turns.{ReadsKeys, RefusesIf, both_keys, conditions_of, get_of, gets_met, gets_of, met_before, still, unmet_of}
use Rattle.clsm_workload.specs.declared.exchange.Exchange.{Exchange}
use Rattle.clsm_workload.specs.declared.unwritten.Unwritten.{Unwritten}
use Rattle.clsm_workload.specs.declared.unwritten.Unwritten.TheVariants.{AtLast, AtOnce}
use Rattle.clsm_workload.proofs.Calls.{same_self}

-- ---- conditions

-- no key of the range of one has a value
none_there : (h : History) (t key : ℕ) (rows : List Pair) → IsRange h t key key rows → 0 ≡ length rows → value h key t ≡ None
none_there h t key [] range counted = sym (range.inside key (omega arith) (omega arith))
none_there h t key (pair ∷ pairs) range counted = absurd (omega (arith, counted))

-- the key still has what it had
still_has : (h : History) (t key : ℕ) (had : Option (List ℕ)) → Holds h t (still key had) → had ≡ value h key t
still_has h t key (Some words) holds = sym holds
still_has h t key None holds = sym (none_there h t key holds.rows holds.all holds.counted)

pub both_have : (h : History) (t : ℕ) (e : Exchange) → AllHold h t (conditions_of e)
    → HoldValues (λ (place value : Option (List ℕ)). place ≡ value) h t (both_keys e) (e.one_had ∷ e.other_had ∷ [])
both_have h t e hold = (still_has h t e.one e.one_had hold.0, (still_has h t e.other e.other_had hold.1.0, tt))

-- what its caller tells of what was met is what the keys have
module _ (e : Exchange) (new : SeatState) where
  met_by : (index t : ℕ) → IsFirstUnmet (known_by new) t (conditions_of e) index
      → met_before new.number e (Some (index, t)) ≡ gets_met new (both_keys e) (Some (index, t))
  met_by zero t first = refl
  met_by (suc zero) t first =
      let has = still_has (known_by new) t e.one e.one_had first.before.0 in
      subst (λ (had : Option (List ℕ)). met_before new.number (record e { one_had = had }) (Some (1, t)) ≡ gets_met new (both_keys e) (Some (1, t))) (sym has) refl
  met_by (suc (suc n)) t first = absurd first.unmet

  pub met_is : (old : SeatState) (members : List Member) (unwritten : Unwritten) → RefusesIf old new (conditions_of e) members unwritten
      → met_before new.number e (unmet_of unwritten) ≡ gets_met new (both_keys e) (unmet_of unwritten)
  met_is old members (AtOnce (errors.Unmet index t)) refuses = met_by index t refuses.1.first
  met_is old members (AtOnce (errors.Full t)) refuses = refl
  met_is old members (AtOnce errors.TooLong) refuses = refl
  met_is old members (AtOnce errors.Keep) refuses = refl
  met_is old members (AtLast (refusals.Unmet index t)) refuses = met_by index t refuses.1.first
  met_is old members (AtLast (refusals.NoRoom reason)) refuses = refl
  met_is old members (AtLast refusals.TooLong) refuses = refl
  met_is old members (AtLast refusals.Keep) refuses = refl

-- ---- what is kept of a read

abbrev Told : Option (List ℕ) → Option (List ℕ) → Type 0
Told place told = place ≡ told

module _ (h : History) (seat time : ℕ) where
  told_at : (keys : List ℕ) (values : List (Option (List ℕ))) (at other : ℕ) (reply : Option (List ℕ)) → HoldValues Told h time keys values
      → at < length keys → reply ≡ get_or values at reply → reply ≡ value h (get_or keys at other) time
  told_at [] [] at other reply hold inside is = absurd (omega (arith, inside))
  told_at [] (v ∷ vs) at other reply hold inside is = absurd hold
  told_at (k ∷ ks) [] at other reply hold inside is = absurd hold
  told_at (k ∷ ks) (v ∷ vs) zero other reply hold inside is = is ∙ hold.0
  told_at (k ∷ ks) (v ∷ vs) (suc at) other reply hold inside is = told_at ks vs at other reply hold.1 (omega (arith, inside)) is

  -- one get more is kept
  pub gets_more : (keys : List ℕ) (values : List (Option (List ℕ))) (had has more : List CallRecord) (at other : ℕ) (reply : Option (List ℕ))
      → HoldValues Told h time keys values → at < length keys → reply ≡ get_or values at reply
      → has ≡ had ++ gets_of h seat time (take at keys) → more ≡ has ++ call_of seat time (Get (get_or keys at other) reply) ∷ []
      → more ≡ had ++ gets_of h seat time (take (at + 1) keys)
  gets_more keys values had has more at other reply hold inside is before pushed =
      let key = get_or keys at other in
      let told = told_at keys values at other reply hold inside is in
      let last : call_of seat time (Get key reply) ≡ get_of h seat time key = ap (λ (r : Option (List ℕ)). call_of seat time (Get key r)) told in
      pushed
      ∙ (ap (λ (rs : List CallRecord). rs ++ call_of seat time (Get key reply) ∷ []) before
      ∙ (append_assoc had (gets_of h seat time (take at keys)) (call_of seat time (Get key reply) ∷ [])
      ∙ ap (λ (rs : List CallRecord). had ++ rs)
      (ap (λ (r : CallRecord). gets_of h seat time (take at keys) ++ r ∷ []) last
      ∙ (sym (map-append (get_of h seat time) (take at keys) (key ∷ []))
      ∙ ap (gets_of h seat time) (sym (take_more keys at other inside))))))

-- both values that were read are those in their places
two_told : (h : History) (t one other : ℕ) (values : List (Option (List ℕ))) (a b : Option (List ℕ)) → HoldValues Told h t (one ∷ other ∷ []) values
    → values ≡ get_or values 0 a ∷ get_or values 1 b ∷ []
two_told h t one other [] a b hold = absurd hold
two_told h t one other (v ∷ []) a b hold = absurd hold.1
two_told h t one other (v ∷ w ∷ []) a b hold = refl
two_told h t one other (v ∷ w ∷ x ∷ xs) a b hold = absurd hold.1.1

pub two_read : (one other : ℕ) (old new : SeatState) (values : List (Option (List ℕ))) (a b : Option (List ℕ)) (had has : List CallRecord)
    → ReadsKeys (one ∷ other ∷ []) old new values had has → ReadsKeys (one ∷ other ∷ []) old new (get_or values 0 a ∷ get_or values 1 b ∷ []) had has
two_read one other old new values a b had has reads =
    subst (λ (vs : List (Option (List ℕ))). ReadsKeys (one ∷ other ∷ []) old new vs had has)
    (two_told (known_by new) reads.time one other values a b reads.reads.values) reads

-- ---- the seat is the same

module _ (old new : SeatState) where
  pub same_many : (keys : List ℕ) (values : List (Option (List ℕ))) (time : ℕ)
      → GetsMany (λ (place value : Option (List ℕ)). place ≡ value) old new keys values time → IsSameSeat old new
  same_many [] values time reads = reads.recorded.0.same
  same_many (key ∷ keys) values time reads = reads.recorded.same

  as_it_was : new ≡ old → IsSameSeat old new
  as_it_was is = subst (λ (s : SeatState). IsSameSeat old s) (sym is) (same_self old)

  module _ (conditions : List Condition) (members : List Member) where
    refused_at_once : (error : BatchIfError) → IsRefusedBatchIf old new conditions members error → IsSameSeat old new
    refused_at_once (errors.Unmet index t) refused = refused.1.meets.reads.same
    refused_at_once (errors.Full t) refused = refused.1.meets.reads.same
    refused_at_once errors.TooLong refused = as_it_was refused.0
    refused_at_once errors.Keep refused = as_it_was refused.0

    refused_at_last : (refusal : BatchIfRefused) → IsRefusedIfAtLast old new conditions members refusal → IsSameSeat old new
    refused_at_last (refusals.Unmet index t) refused = refused.1.meets.reads.same
    refused_at_last (refusals.NoRoom reason) refused = refused.1.meets.reads.same
    refused_at_last refusals.TooLong refused = as_it_was refused.0
    refused_at_last refusals.Keep refused = as_it_was refused.0

    pub same_if : (unwritten : Unwritten) → RefusesIf old new conditions members unwritten → IsSameSeat old new
    same_if (AtOnce error) refuses = refused_at_once error refuses
    same_if (AtLast refusal) refuses = refused_at_last refusal refuses

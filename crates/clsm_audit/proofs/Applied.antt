-- The writes of a call, applied to a map.
use Rattle.std.proofs.Common.{◌≡◌, ℕ, ◌+◌, ◌-◌, ◌<◌, true, Bool, cond, List, length, Some, None, is_some, refl, sym, ap, ◌∙◌, subst, arith, add-zero}
use Rattle.std.proofs.lemmas.Bool.{eq-eqb, le-leb}
use Rattle.clsm_model.specs.declared.record.CallRecord.{CallRecord}
use Rattle.clsm_model.specs.declared.record.Deed.{Deed}
use Rattle.clsm_model.specs.declared.record.Deed.TheVariants.{Batch as Group}
use Rattle.clsm_model.specs.declared.slot.Slot.{Slot}
use Rattle.clsm_model.specs.History.{History, slot_at}
use Rattle.clsm_model.specs.Map.{IsMap, Pair}
use Rattle.clsm_model.specs.Right.{Member, member_write, write_at, write_by}
use Rattle.clsm_audit.specs.Replayed.{StandFrom, StandsIn}
use Rattle.clsm_audit.specs.Written.{is_write, span_of, time_past, write_of}
use Rattle.clsm_audit.proofs.Times.{writes_within}

-- ---- a batch

member_time : (seat s : ℕ) (members : List Member) (n : ℕ) → write_at seat s (Group members) (s + n) ≡ member_write seat members n
member_time seat s members n =
    ap (λ (b : Bool). cond b (member_write seat members (s + n - s)) None) (le-leb s (s + n) (omega arith))
    ∙ ap (member_write seat members) (let e : s + n - s ≡ n = omega arith in e)

stand_from : (h : History) (seat s : ℕ) (members : List Member) (deed : Deed) → deed ≡ Group members
    → ((n : ℕ) → n < span_of deed → write_at seat s deed (s + n) ≡ Some (slot_at h (s + n))) → StandFrom h seat s members
stand_from h seat s members deed is stands n lt =
    sym (member_time seat s members n) ∙ ap (λ (d : Deed). write_at seat s d (s + n)) (sym is)
    ∙ stands n (let long : span_of deed ≡ length members = ap span_of is in omega arith)

pub batch_applied : (h : History) (r : CallRecord) (members : List Member) (old new : List Pair) → r.deed ≡ Group members
    → (StandFrom h r.seat r.time members → IsMap h r.time old → IsMap h (r.time + length members) new) → StandsIn h r → IsMap h r.time old
    → IsMap h (time_past r) new
batch_applied h r members old new is applies stands map =
    let long : length members ≡ span_of r.deed = ap span_of (sym is) in
    subst (λ (n : ℕ). IsMap h (r.time + n) new) long (applies (stand_from h r.seat r.time members r.deed is stands) map)

-- ---- one write

one_time : (seat s : ℕ) (slot : Slot) (deed : Deed) → write_by seat deed ≡ Some slot → (span_of deed ≡ 1) × (write_at seat s deed s ≡ Some slot)
one_time seat s slot (Group members) is = absurd cc
one_time seat s slot deed is = (refl, ap (λ (b : Bool). cond b (write_by seat deed) None) (eq-eqb s s refl) ∙ is)

pub write_applied : (r : CallRecord) (slot : Slot) (old new : List Pair) → write_by r.seat r.deed ≡ Some slot
    → ((h : History) (s : ℕ) → slot_at h s ≡ slot → IsMap h s old → IsMap h (s + 1) new) → (h : History) → StandsIn h r → IsMap h r.time old
    → IsMap h (time_past r) new
write_applied r slot old new is follows h stands map =
    let one = one_time r.seat r.time slot r.deed is in
    let first : write_of r (r.time + 0) ≡ Some (slot_at h (r.time + 0)) = stands 0 (let e = one.0 in omega arith) in
    let here : r.time + 0 ≡ r.time = add-zero r.time in
    let came : Some (slot_at h r.time) ≡ Some slot = sym (ap (λ (t : ℕ). Some (slot_at h t)) here) ∙ sym first ∙ ap (write_of r) here ∙ one.1 in
    subst (λ (n : ℕ). IsMap h (r.time + n) new) (sym one.0) (follows h r.time (let e : slot_at h r.time ≡ slot = cc came in e) map)

-- a call with a write is no read
pub write_is : (r : CallRecord) (slot : Slot) → write_by r.seat r.deed ≡ Some slot → is_write r.deed ≡ true
write_is r slot is = let one = one_time r.seat r.time slot r.deed is in (writes_within r r.time (ap is_some one.1)).0

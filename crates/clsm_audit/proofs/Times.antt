-- The times at which a record writes: a write writes at each of its times, and nothing else does.
use Rattle.std.proofs.Common.{◌≡◌, ℕ, ◌+◌, ◌-◌, ◌<◌, ◌≤◌, ◌==◌, ◌^◌, zero, suc, Bool, true, false, cond, List, [], ◌∷◌, length, Option, Some, None, is_some}
use Rattle.std.proofs.Common.{MatchBool, refl, sym, ap, ◌∙◌, arith}
use Rattle.std.specs.Prelude.{nat_le}
use Rattle.std.proofs.lemmas.Bool.{eq-eqb, eqb-true, le-leb, leb-true, true≢false}
use Rattle.clsm_model.specs.declared.record.CallRecord.{CallRecord}
use Rattle.clsm_model.specs.declared.record.Deed.{Deed}
use Rattle.clsm_model.specs.declared.record.Deed.TheVariants.{Put, Remove, Rmw, Batch as Group}
use Rattle.clsm_model.specs.declared.slot.Change.{Change}
use Rattle.clsm_model.specs.declared.slot.Change.TheVariants.{Keep, Set, Remove as Erase}
use Rattle.clsm_model.specs.declared.slot.Slot.{Slot}
use Rattle.clsm_model.specs.declared.slot.Slot.TheVariants.{Wrote}
use Rattle.clsm_model.specs.History.{History, slot_at}
use Rattle.clsm_model.specs.Right.{AreWrites, Member, change_by, member_write, write_at, write_by}
use Rattle.clsm_model.proofs.Written.{member_inside}
use Rattle.clsm_audit.specs.Lawful.{HasTimes, HasWrites}
use Rattle.clsm_audit.specs.Replayed.{StandsIn}
use Rattle.clsm_audit.specs.Written.{WritesAt, is_write, span_of, time_past, write_of}

-- ---- what writes is a write, at a time of its own

-- a test that passes, and what is asked of it then
tested : (b : Bool) (o : Option Slot) → is_some (cond b o None) ≡ true → (b ≡ true) × (is_some o ≡ true)
tested true o is = (refl, is)
tested false o is = absurd (true≢false (sym is))

-- a deed with one write makes it at its time
once : (s t : ℕ) (o : Option Slot) → is_some (cond (s == t) o None) ≡ true → (s ≡ t) × (is_some o ≡ true)
once s t o is = let both = tested (s == t) o is in (eqb-true s t both.0, both.1)

-- a deed with none makes none
never : {Q : Type 0} (s t : ℕ) → is_some {T = Slot} (cond (s == t) None None) ≡ true → Q
never s t is = absurd (true≢false (sym (once s t None is).1))

within : (seat s t : ℕ) (deed : Deed) → is_some (write_at seat s deed t) ≡ true → (is_write deed ≡ true) × (s ≤ t) × (t < s + span_of deed)
within seat s t (Put key written) is = let e = (once s t (write_by seat (Put key written)) is).0 in (refl, omega arith, omega arith)
within seat s t (Remove key) is = let e = (once s t (write_by seat (Remove key)) is).0 in (refl, omega arith, omega arith)
within seat s t (Rmw key old Keep) is = never s t is
within seat s t (Rmw key old (Set written)) is = let e = (once s t (write_by seat (Rmw key old (Set written))) is).0 in (refl, omega arith, omega arith)
within seat s t (Rmw key old Erase) is = let e = (once s t (write_by seat (Rmw key old Erase)) is).0 in (refl, omega arith, omega arith)
within seat s t (Group members) is =
    let both = tested (nat_le s t) (member_write seat members (t - s)) is in
    let low = leb-true s t both.0 in
    let high = member_inside seat members (t - s) both.1 in
    (refl, low, omega arith)
within seat s t deed is = never s t is

pub writes_within : (r : CallRecord) (t : ℕ) → WritesAt t r → (is_write r.deed ≡ true) × (r.time ≤ t) × (t < time_past r)
writes_within r t writes = within r.seat r.time t r.deed writes

-- a record that is no write writes nothing
pub read_writes : (r : CallRecord) (t : ℕ) → is_write r.deed ≡ false → WritesAt t r → ⊥
read_writes r t reads writes = true≢false (sym (writes_within r t writes).0 ∙ reads)

-- ---- a write writes at each of its times

change_is_some : (seat key : ℕ) (change : Change) → (change ≡ Keep → ⊥) → is_some (change_by seat key change) ≡ true
change_is_some seat key Keep writes = absurd (writes refl)
change_is_some seat key (Set written) writes = refl
change_is_some seat key Erase writes = refl

member_is_some : (seat : ℕ) (members : List Member) (n : ℕ) → AreWrites members → n < length members → is_some (member_write seat members n) ≡ true
member_is_some seat [] n writes lt = absurd (omega arith)
member_is_some seat (m ∷ ms) zero writes lt = change_is_some seat m.0 m.1 writes.0
member_is_some seat (m ∷ ms) (suc n) writes lt = member_is_some seat ms n writes.1 (omega arith)

at_time : (s t : ℕ) (o : Option Slot) → is_some o ≡ true → s ≡ t → is_some (cond (s == t) o None) ≡ true
at_time s t o is e = ap (λ (b : Bool). is_some (cond b o None)) (eq-eqb s t e) ∙ is

each_time : (seat s t : ℕ) (deed : Deed) → HasWrites deed → is_write deed ≡ true → s ≤ t → t < s + span_of deed → is_some (write_at seat s deed t) ≡ true
each_time seat s t (Put key written) has is low high = at_time s t (write_by seat (Put key written)) refl (omega arith)
each_time seat s t (Remove key) has is low high = at_time s t (write_by seat (Remove key)) refl (omega arith)
each_time seat s t (Rmw key old Keep) has is low high = absurd (true≢false (sym is))
each_time seat s t (Rmw key old (Set written)) has is low high = at_time s t (write_by seat (Rmw key old (Set written))) refl (omega arith)
each_time seat s t (Rmw key old Erase) has is low high = at_time s t (write_by seat (Rmw key old Erase)) refl (omega arith)
each_time seat s t (Group members) has is low high =
    ap (λ (b : Bool). is_some (cond b (member_write seat members (t - s)) None)) (le-leb s t low)
    ∙ member_is_some seat members (t - s) has.1 (omega arith)
each_time seat s t deed has is low high = absurd (true≢false (sym is))

pub writes_each : (r : CallRecord) (t : ℕ) → HasWrites r.deed → is_write r.deed ≡ true → r.time ≤ t → t < time_past r → WritesAt t r
writes_each r t has is low high = each_time r.seat r.time t r.deed has is low high

-- it has one time at least
some_span : (deed : Deed) → HasWrites deed → 1 ≤ span_of deed
some_span (Group members) has = has.0
some_span deed has = omega arith

pub past_time : (r : CallRecord) → HasWrites r.deed → r.time < time_past r
past_time r has = let some = some_span r.deed has in omega arith

-- a record's times end below 2^64
past_of : (t : ℕ) (deed : Deed) → MatchBool (is_write deed) (t + span_of deed ≤ 2 ^ 62) (t ≤ 2 ^ 62) → t + span_of deed < 2 ^ 64
past_of t (Rmw key old Keep) is = omega arith
past_of t (Rmw key old (Set written)) is = omega arith
past_of t (Rmw key old Erase) is = omega arith
past_of t (Group members) is = omega arith
past_of t deed is = omega arith

pub past_within : (r : CallRecord) → HasTimes r → time_past r < 2 ^ 64
past_within r times = past_of r.time r.deed times.time

-- ---- what is written

is_wrote : (seat key : ℕ) (change : Change) (w : Slot) → change_by seat key change ≡ Some w → (k : ℕ) × (written : Option (List ℕ)) × (w ≡ Wrote seat k written)
is_wrote seat key Keep w e = absurd cc
is_wrote seat key (Set written) w e = (key, Some written, cc e)
is_wrote seat key Erase w e = (key, None, cc e)

member_wrote : (seat : ℕ) (members : List Member) (n : ℕ) (w : Slot) → member_write seat members n ≡ Some w → (k : ℕ) × (written : Option (List ℕ))
    × (w ≡ Wrote seat k written)
member_wrote seat [] n w e = absurd cc
member_wrote seat (m ∷ ms) zero w e = is_wrote seat m.0 m.1 w e
member_wrote seat (m ∷ ms) (suc n) w e = member_wrote seat ms n w e

from_test : (b : Bool) (o : Option Slot) (w : Slot) → cond b o None ≡ Some w → o ≡ Some w
from_test true o w e = e
from_test false o w e = absurd cc

wrote : (seat s t : ℕ) (deed : Deed) (w : Slot) → write_at seat s deed t ≡ Some w → (k : ℕ) × (written : Option (List ℕ)) × (w ≡ Wrote seat k written)
wrote seat s t (Put key written) w e = let is = from_test (s == t) (write_by seat (Put key written)) w e in (key, Some written, cc is)
wrote seat s t (Remove key) w e = let is = from_test (s == t) (write_by seat (Remove key)) w e in (key, None, cc is)
wrote seat s t (Rmw key old change) w e = is_wrote seat key change w (from_test (s == t) (change_by seat key change) w e)
wrote seat s t (Group members) w e = member_wrote seat members (t - s) w (from_test (nat_le s t) (member_write seat members (t - s)) w e)
wrote seat s t deed w e = let is = from_test (s == t) None w e in absurd (cc is)

-- what a record writes bears the number of its seat
pub is_by_seat : (r : CallRecord) (t : ℕ) (w : Slot) → write_of r t ≡ Some w → (key : ℕ) × (written : Option (List ℕ)) × (w ≡ Wrote r.seat key written)
is_by_seat r t w e = wrote r.seat r.time t r.deed w e

pub some_is : (o : Option Slot) → is_some o ≡ true → (w : Slot) × (o ≡ Some w)
some_is None some = absurd cc
some_is (Some w) some = (w, refl)

-- a write whose times came to its writes stands there
pub stands_in : (h : History) (r : CallRecord) → HasWrites r.deed → is_write r.deed ≡ true → ((t : ℕ) (w : Slot) → write_of r t ≡ Some w → slot_at h t ≡ w)
    → StandsIn h r
stands_in h r has is came n lt =
    let w = some_is (write_of r (r.time + n)) (writes_each r (r.time + n) has is (omega arith) (omega arith)) in
    w.1 ∙ ap Some (sym (came (r.time + n) w.0 w.1))

-- Each write of a seat is the write of exactly one of its records, since their times rise.
use Rattle.std.proofs.Common.{◌≡◌, ℕ, zero, suc, ◌-◌, ◌<◌, ◌≤◌, ◌==◌, inl, inr, Bool, true, false, true≢false, cond, List, [], ◌∷◌, length, Option, Some}
use Rattle.std.proofs.Common.{None, refl, sym, ap, ◌∙◌, arith, ⊎_elim}
use Rattle.std.specs.Prelude.{is_some, nat_le}
use Rattle.std.proofs.lemmas.Bool.{cases_Bool, eqb-true, leb-true}
use Rattle.clsm_model.specs.declared.slot.Slot.{Slot}
use Rattle.clsm_model.specs.declared.slot.Change.TheVariants.{Keep, Set, Remove as Erase}
use Rattle.clsm_model.specs.declared.record.Deed.{Deed}
use Rattle.clsm_model.specs.declared.record.Deed.TheVariants.{Put, Remove, Rmw, Get, Snapshot, Close, GetAt, Scan, Page, Batch as Group}
use Rattle.clsm_model.specs.declared.record.CallRecord.{CallRecord}
use Rattle.clsm_model.specs.Right.{Member, member_write, write_at, write_by}
use Rattle.clsm_model.specs.Seats.{HasWrite, IsNext, Rises, due_after, open_after, writes_at}
use Rattle.clsm_model.proofs.Rising.{due_grows}

-- ---- one call

-- behind its members a batch writes nothing
pub member_inside : (i : ℕ) (members : List Member) (n : ℕ) → is_some (member_write i members n) ≡ true → n < length members
member_inside i [] n is = absurd (true≢false (sym is))
member_inside i (m ∷ ms) zero is = omega arith
member_inside i (m ∷ ms) (suc n) is = let lt = member_inside i ms n is in omega arith

-- a test that passes, and what is asked of it then
tested : (b : Bool) (o : Option Slot) → is_some (cond b o None) ≡ true → (b ≡ true) × (is_some o ≡ true)
tested true o is = (refl, is)
tested false o is = absurd (true≢false (sym is))

-- the one write of a deed is at its time
at_time : (i s t : ℕ) (deed : Deed) → is_some (cond (s == t) (write_by i deed) None) ≡ true → (s ≡ t) × (is_some (write_by i deed) ≡ true)
at_time i s t deed is = let both = tested (s == t) (write_by i deed) is in (eqb-true s t both.0, both.1)

-- no write of a deed is before its due, and the due moves past it
writes_due : (i due s t : ℕ) (snapshot : Option ℕ) (deed : Deed) → IsNext due snapshot s deed → is_some (write_at i s deed t) ≡ true → (due ≤ t)
    × (t < due_after due snapshot s deed)
writes_due i due s t snapshot (Put key written) next is = let a = (at_time i s t (Put key written) is).0 in (omega arith, omega arith)
writes_due i due s t snapshot (Remove key) next is = let a = (at_time i s t (Remove key) is).0 in (omega arith, omega arith)
writes_due i due s t snapshot (Rmw key old Keep) next is = absurd (true≢false (sym (at_time i s t (Rmw key old Keep) is).1))
writes_due i due s t snapshot (Rmw key old (Set written)) next is = let a = (at_time i s t (Rmw key old (Set written)) is).0 in (omega arith, omega arith)
writes_due i due s t snapshot (Rmw key old Erase) next is = let a = (at_time i s t (Rmw key old Erase) is).0 in (omega arith, omega arith)
writes_due i due s t snapshot (Get key reply) next is = absurd (true≢false (sym (at_time i s t (Get key reply) is).1))
writes_due i due s t snapshot Snapshot next is = absurd (true≢false (sym (at_time i s t Snapshot is).1))
writes_due i due s t snapshot Close next is = absurd (true≢false (sym (at_time i s t Close is).1))
writes_due i due s t snapshot (GetAt key reply) next is = absurd (true≢false (sym (at_time i s t (GetAt key reply) is).1))
writes_due i due s t snapshot (Scan lo hi rows) next is = absurd (true≢false (sym (at_time i s t (Scan lo hi rows) is).1))
writes_due i due s t snapshot (Page range rows more) next is = absurd (true≢false (sym (at_time i s t (Page range rows more) is).1))
writes_due i due s t snapshot (Group members) next is =
    let both = tested (nat_le s t) (member_write i members (t - s)) is in
    let a = leb-true s t both.0 in let b = member_inside i members (t - s) both.1 in (omega arith, omega arith)

-- ---- the calls

-- the record writes at the time
abbrev is_at : ℕ → ℕ → CallRecord → Bool
is_at i t r = is_some (write_at i r.time r.deed t)

-- below the due no write stands any more
none_below : (i t due : ℕ) (snapshot : Option ℕ) (calls : List CallRecord) → Rises due snapshot calls → t < due → writes_at i t calls ≡ []
none_below i t due snapshot [] rises lt = refl
none_below i t due snapshot (r ∷ rs) rises lt =
    let rest = none_below i t (due_after due snapshot r.time r.deed) (open_after snapshot r.time r.deed) rs rises.1
    (let grows = due_grows due r.time snapshot r.deed rises.0 in omega arith) in
    ⊎_elim
    (λ (is : is_at i t r ≡ true). absurd (let p = writes_due i due r.time t snapshot r.deed rises.0 is in omega arith))
    (λ (no : is_at i t r ≡ false). ap (λ (b : Bool). cond b (r ∷ writes_at i t rs) (writes_at i t rs)) no ∙ rest)
    (cases_Bool (is_at i t r))

pub one_write : (i t due : ℕ) (write : Slot) (snapshot : Option ℕ) (calls : List CallRecord) → Rises due snapshot calls → HasWrite i t write calls
    → (r : CallRecord) × (writes_at i t calls ≡ r ∷ []) × (write_at i r.time r.deed t ≡ Some write)
one_write i t due write snapshot [] rises has = absurd has
one_write i t due write snapshot (r ∷ rs) rises (inl is) =
    let here : is_at i t r ≡ true = ap is_some is in
    let rest = none_below i t (due_after due snapshot r.time r.deed) (open_after snapshot r.time r.deed) rs rises.1
    (writes_due i due r.time t snapshot r.deed rises.0 here).1 in
    (r, ap (λ (b : Bool). cond b (r ∷ writes_at i t rs) (writes_at i t rs)) here ∙ ap (λ (l : List CallRecord). r ∷ l) rest, is)
one_write i t due write snapshot (r ∷ rs) rises (inr has) =
    let later = one_write i t (due_after due snapshot r.time r.deed) write (open_after snapshot r.time r.deed) rs rises.1 has in
    ⊎_elim
    (λ (is : is_at i t r ≡ true). absurd (let none = none_below i t (due_after due snapshot r.time r.deed) (open_after snapshot r.time r.deed) rs rises.1
    (writes_due i due r.time t snapshot r.deed rises.0 is).1 in some_not_none (sym later.1 ∙ none)))
    (λ (no : is_at i t r ≡ false). (later.0, ap (λ (b : Bool). cond b (r ∷ writes_at i t rs) (writes_at i t rs)) no ∙ later.1, later.2))
    (cases_Bool (is_at i t r))
  where
    some_not_none : {x : CallRecord} {xs : List CallRecord} → x ∷ xs ≡ [] → ⊥
    some_not_none e = cc e

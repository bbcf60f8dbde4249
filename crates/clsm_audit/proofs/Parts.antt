-- What a seat's part of a history says of each of its records.
use Rattle.std.proofs.Common.{◌≡◌, ℕ, ◌+◌, ◌<◌, ◌≤◌, ◌==◌, zero, suc, Bool, true, false, cond, List, [], ◌∷◌, ◌++◌, length, get_or, take, Option, Some}
use Rattle.std.proofs.Common.{None, IfSome, MatchBool, ap, subst, arith}
use Rattle.std.proofs.lemmas.Bool.{eq-eqb}
use Rattle.std.specs.List.{AllByRecursion}
use Rattle.clsm_model.specs.declared.record.CallRecord.{CallRecord}
use Rattle.clsm_model.specs.declared.record.Deed.{Deed}
use Rattle.clsm_model.specs.declared.record.Deed.TheVariants.{Put, Remove, Rmw, Get, Snapshot, Close, GetAt, Scan, Page, Batch as Group}
use Rattle.clsm_model.specs.declared.slot.Change.TheVariants.{Keep, Set, Remove as Erase}
use Rattle.clsm_model.specs.Seats.{IsNext, Rises, due_after, last_due, last_open, open_after}
use Rattle.clsm_model.proofs.Rising.{due_grows, last_grows}
use Rattle.clsm_audit.specs.Lawful.{IsAtSnapshot, IsFromDue, calls_of, due_of, open_of}
use Rattle.clsm_audit.specs.Written.{is_write, span_of, time_past}
use Rattle.clsm_audit.proofs.Indices.{nobody}

-- ---- the place of a record among the calls of its seat

calls_split : (records : List CallRecord) (i seat : ℕ) → i < length records → (get_or records i nobody).seat ≡ seat → (rest : List CallRecord)
    × (calls_of records seat ≡ calls_of (take i records) seat ++ get_or records i nobody ∷ rest)
calls_split [] i seat within own = absurd (omega arith)
calls_split (r ∷ rs) zero seat within own = (calls_of rs seat, ap (λ (b : Bool). cond b (r ∷ calls_of rs seat) (calls_of rs seat)) (eq-eqb r.seat seat own))
calls_split (r ∷ rs) (suc i) seat within own =
    let rest = calls_split rs i seat (omega arith) own in (
      rest.0,
      elim (r.seat == seat) as (λ (b : Bool). cond b (r ∷ calls_of rs seat) (calls_of rs seat) ≡ cond b (r ∷ calls_of (take i rs) seat)
          (calls_of (take i rs) seat) ++ get_or rs i nobody ∷ rest.0) [ true ↦ ap (λ (xs : List CallRecord). r ∷ xs) rest.1 | false ↦ rest.1 ],
    )

all_middle : (P : CallRecord → Type 0) (before rest : List CallRecord) (r : CallRecord) → AllByRecursion P (before ++ r ∷ rest) → P r
all_middle P [] rest r all = all.0
all_middle P (c ∷ cs) rest r all = all_middle P cs rest r all.1

-- what holds of each of the seat's calls holds of its record
pub of_each_call : (P : CallRecord → Type 0) (records : List CallRecord) (i seat : ℕ) → i < length records → (get_or records i nobody).seat ≡ seat
    → AllByRecursion P (calls_of records seat) → P (get_or records i nobody)
of_each_call P records i seat within own all =
    let split = calls_split records i seat within own in
    all_middle P (calls_of (take i records) seat) split.0 (get_or records i nobody) (subst (AllByRecursion P) split.1 all)

-- ---- a record comes next after those before it

next_middle : (due : ℕ) (snapshot : Option ℕ) (before rest : List CallRecord) (r : CallRecord) → Rises due snapshot (before ++ r ∷ rest)
    → IsNext (last_due due snapshot before) (last_open snapshot before) r.time r.deed
next_middle due snapshot [] rest r rises = rises.0
next_middle due snapshot (c ∷ cs) rest r rises = next_middle (due_after due snapshot c.time c.deed) (open_after snapshot c.time c.deed) cs rest r rises.1

pub comes_next : (records : List CallRecord) (i seat : ℕ) → i < length records → (get_or records i nobody).seat ≡ seat → Rises 0 None (calls_of records seat)
    → IsNext (due_of (take i records) seat) (open_of (take i records) seat) (get_or records i nobody).time (get_or records i nobody).deed
comes_next records i seat within own rises =
    let split = calls_split records i seat within own in
    next_middle 0 None (calls_of (take i records) seat) split.0 (get_or records i nobody) (subst (Rises 0 None) split.1 rises)

-- what comes next suits the open snapshot, and is not below the due
pub next_suits : (due : ℕ) (snapshot : Option ℕ) (t : ℕ) (deed : Deed) → IsNext due snapshot t deed → IsAtSnapshot snapshot t deed
    × IsFromDue due snapshot t deed
next_suits due snapshot t Snapshot next = (next.0, next.1)
next_suits due snapshot t Close next = (next, tt)
next_suits due snapshot t (GetAt key reply) next = (next, tt)
next_suits due None t (Scan lo hi rows) next = (tt, next)
next_suits due (Some s) t (Scan lo hi rows) next = (next, tt)
next_suits due None t (Page range rows more) next = (tt, next)
next_suits due (Some s) t (Page range rows more) next = (next, tt)
next_suits due snapshot t deed next = (tt, next)

-- ---- no time is past the due that the calls leave

-- all times of a write are below the bound, and any other call is at or below it
abbrev pub IsTimeBelow : ℕ → CallRecord → Type 0
IsTimeBelow bound r = MatchBool (is_write r.deed) (time_past r ≤ bound) (r.time ≤ bound)

-- the open snapshot is not past the due
abbrev IsOpenBelow : ℕ → Option ℕ → Type 0
IsOpenBelow due snapshot = IfSome snapshot (λ s. s ≤ due)

open_later : (due due' : ℕ) (snapshot : Option ℕ) → due ≤ due' → IsOpenBelow due snapshot → IsOpenBelow due' snapshot
open_later due due' None le below = tt
open_later due due' (Some s) le below = omega arith

-- the snapshot that a call leaves open is not past the due that it leaves
open_grows : (due t : ℕ) (snapshot : Option ℕ) (deed : Deed) → IsOpenBelow due snapshot → IsNext due snapshot t deed
    → IsOpenBelow (due_after due snapshot t deed) (open_after snapshot t deed)
open_grows due t snapshot Snapshot below next = omega arith
open_grows due t snapshot Close below next = tt
open_grows due t snapshot deed below next = open_later due (due_after due snapshot t deed) snapshot (due_grows due t snapshot deed next) below

-- nor is the time of the call
time_below : (due t : ℕ) (snapshot : Option ℕ) (deed : Deed) → IsOpenBelow due snapshot → IsNext due snapshot t deed
    → MatchBool (is_write deed) (t + span_of deed ≤ due_after due snapshot t deed) (t ≤ due_after due snapshot t deed)
time_below due t snapshot (Put key written) below next = omega arith
time_below due t snapshot (Remove key) below next = omega arith
time_below due t snapshot (Rmw key old Keep) below next = omega arith
time_below due t snapshot (Rmw key old (Set written)) below next = omega arith
time_below due t snapshot (Rmw key old Erase) below next = omega arith
time_below due t snapshot (Group members) below next = omega arith
time_below due t snapshot (Get key reply) below next = omega arith
time_below due t snapshot Snapshot below next = omega arith
time_below due t snapshot Close below next = subst (IsOpenBelow due) next below
time_below due t snapshot (GetAt key reply) below next = subst (IsOpenBelow due) next below
time_below due t None (Scan lo hi rows) below next = omega arith
time_below due t (Some s) (Scan lo hi rows) below next = omega arith
time_below due t None (Page range rows more) below next = omega arith
time_below due t (Some s) (Page range rows more) below next = omega arith

bound_later : (writes : Bool) (t past bound bound' : ℕ) → bound ≤ bound' → MatchBool writes (past ≤ bound) (t ≤ bound)
    → MatchBool writes (past ≤ bound') (t ≤ bound')
bound_later true t past bound bound' le below = omega arith
bound_later false t past bound bound' le below = omega arith

middle_below : (due bound : ℕ) (snapshot : Option ℕ) (before rest : List CallRecord) (r : CallRecord) → IsOpenBelow due snapshot
    → Rises due snapshot (before ++ r ∷ rest) → last_due due snapshot (before ++ r ∷ rest) ≤ bound → IsTimeBelow bound r
middle_below due bound snapshot [] rest r below rises le =
    let after = last_grows (due_after due snapshot r.time r.deed) (open_after snapshot r.time r.deed) rest rises.1 in
    bound_later (is_write r.deed) r.time (time_past r) (due_after due snapshot r.time r.deed) bound (omega arith)
    (time_below due r.time snapshot r.deed below rises.0)
middle_below due bound snapshot (c ∷ cs) rest r below rises le =
    middle_below (due_after due snapshot c.time c.deed) bound (open_after snapshot c.time c.deed) cs rest r
    (open_grows due c.time snapshot c.deed below rises.0) rises.1 le

pub is_below : (bound : ℕ) (records : List CallRecord) (i seat : ℕ) → i < length records → (get_or records i nobody).seat ≡ seat
    → Rises 0 None (calls_of records seat) → last_due 0 None (calls_of records seat) ≤ bound → IsTimeBelow bound (get_or records i nobody)
is_below bound records i seat within own rises le =
    let split = calls_split records i seat within own in
    middle_below 0 bound None (calls_of (take i records) seat) split.0 (get_or records i nobody) tt (subst (Rises 0 None) split.1 rises)
    (subst (λ (calls : List CallRecord). last_due 0 None calls ≤ bound) split.1 le)

-- How the times of a seat's calls rise to its due.
use Rattle.std.proofs.Common.{◌≡◌, ℕ, ◌≤◌, List, [], ◌∷◌, ◌++◌, sym, refl, ap, ◌∙◌, subst, arith, Option, Some, None}
use Rattle.std.proofs.lemmas.List.{append-nil}
use Rattle.clsm_model.specs.declared.slot.Change.TheVariants.{Keep, Set, Remove as Erase}
use Rattle.clsm_model.specs.declared.record.Deed.{Deed}
use Rattle.clsm_model.specs.declared.record.Deed.TheVariants.{Put, Remove, Rmw, Get, Snapshot, Close, GetAt, Scan, Page, Batch as Group}
use Rattle.clsm_model.specs.declared.record.CallRecord.{CallRecord}
use Rattle.clsm_model.specs.Seats.{IsNext, IsRising, Rises, due_after, last_due, last_open, open_after}

-- ---- calls raise the due

-- no call lowers the due
pub due_grows : (due t : ℕ) (snapshot : Option ℕ) (deed : Deed) → IsNext due snapshot t deed → due ≤ due_after due snapshot t deed
due_grows due t snapshot (Put key written) next = omega arith
due_grows due t snapshot (Remove key) next = omega arith
due_grows due t snapshot (Rmw key old Keep) next = next
due_grows due t snapshot (Rmw key old (Set written)) next = omega arith
due_grows due t snapshot (Rmw key old Erase) next = omega arith
due_grows due t snapshot (Get key reply) next = next
due_grows due t snapshot (Group members) next = omega arith
due_grows due t snapshot Snapshot next = next.1
due_grows due t snapshot Close next = omega arith
due_grows due t snapshot (GetAt key reply) next = omega arith
due_grows due t None (Scan lo hi rows) next = next
due_grows due t (Some s) (Scan lo hi rows) next = omega arith
due_grows due t None (Page range rows more) next = next
due_grows due t (Some s) (Page range rows more) next = omega arith

-- nor do several
pub last_grows : (due : ℕ) (snapshot : Option ℕ) (calls : List CallRecord) → Rises due snapshot calls → due ≤ last_due due snapshot calls
last_grows due snapshot [] rises = omega arith
last_grows due snapshot (r ∷ rs) rises =
    let next = due_grows due r.time snapshot r.deed rises.0 in
    let rest = last_grows (due_after due snapshot r.time r.deed) (open_after snapshot r.time r.deed) rs rises.1 in
    omega arith

-- ---- one record more

pub rises_append : (due : ℕ) (snapshot : Option ℕ) (cs : List CallRecord) (r : CallRecord) → Rises due snapshot cs
    → IsNext (last_due due snapshot cs) (last_open snapshot cs) r.time r.deed → Rises due snapshot (cs ++ r ∷ [])
rises_append due snapshot [] r rises next = (next, tt)
rises_append due snapshot (c ∷ cs) r rises next =
    (rises.0, rises_append (due_after due snapshot c.time c.deed) (open_after snapshot c.time c.deed) cs r rises.1 next)

pub last_due-append : (due : ℕ) (snapshot : Option ℕ) (cs : List CallRecord) (r : CallRecord) → last_due due snapshot (cs ++ r ∷ [])
    ≡ due_after (last_due due snapshot cs) (last_open snapshot cs) r.time r.deed
last_due-append due snapshot [] r = refl
last_due-append due snapshot (c ∷ cs) r = last_due-append (due_after due snapshot c.time c.deed) (open_after snapshot c.time c.deed) cs r

pub last_open-append : (snapshot : Option ℕ) (cs : List CallRecord) (r : CallRecord) → last_open snapshot (cs ++ r ∷ [])
    ≡ open_after (last_open snapshot cs) r.time r.deed
last_open-append snapshot [] r = refl
last_open-append snapshot (c ∷ cs) r = last_open-append (open_after snapshot c.time c.deed) cs r

-- the record comes next after calls with a due of at most this, and leaves this due and this
-- snapshot
pub record Follows (due : ℕ) (snapshot : Option ℕ) (r : CallRecord) (due' : ℕ) (snapshot' : Option ℕ) : Type 0 where
  pub next : (d : ℕ) → d ≤ due → IsNext d snapshot r.time r.deed
  pub within : (d : ℕ) → d ≤ due → due_after d snapshot r.time r.deed ≤ due'
  pub opens : open_after snapshot r.time r.deed ≡ snapshot'

pub rising_next : (cs : List CallRecord) (due due' : ℕ) (snapshot snapshot' : Option ℕ) (r : CallRecord) → IsRising cs due snapshot
    → Follows due snapshot r due' snapshot' → IsRising (cs ++ r ∷ []) due' snapshot'
rising_next cs due due' snapshot snapshot' r is follows = record {
  rises = rises_append 0 None cs r is.rises (subst (λ (o : Option ℕ). IsNext (last_due 0 None cs) o r.time r.deed) (sym is.open_is)
      (follows.next (last_due 0 None cs) is.due_is));
  due_is = subst (λ (d : ℕ). d ≤ due') (sym (last_due-append 0 None cs r))
      (subst (λ (o : Option ℕ). due_after (last_due 0 None cs) o r.time r.deed ≤ due') (sym is.open_is) (follows.within (last_due 0 None cs) is.due_is));
  open_is = last_open-append None cs r ∙ ap (λ (o : Option ℕ). open_after o r.time r.deed) is.open_is ∙ follows.opens;
}

-- with no record more the due may rise
pub rising_later : (cs : List CallRecord) (due due' : ℕ) (snapshot : Option ℕ) → IsRising cs due snapshot → due ≤ due' → IsRising (cs ++ []) due' snapshot
rising_later cs due due' snapshot is le = subst (λ (l : List CallRecord). IsRising l due' snapshot) (sym (append-nil cs))
    (record { rises = is.rises; due_is = let a = is.due_is in omega arith; open_is = is.open_is })

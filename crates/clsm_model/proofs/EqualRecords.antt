-- What `==` says of changes, deeds and records: whether they are the same.
use Rattle.std.proofs.Common.{◌≡◌, true, List, refl, sym, ap}
use Rattle.std.proofs.Math.Bool.{true≢false}
use Rattle.std.proofs.lemmas.Bool.Decides.{Decides-and}
use Rattle.std.specs.Bool.{Decides}
use Rattle.std.specs.Cmp.{unsigned_Decides}
use Rattle.std.specs.Cmp.Lexicographic.{pointwise_decides}
use Rattle.clsm_model.specs.declared.slot.Change.{Change}
use Rattle.clsm_model.specs.declared.slot.Change.TheVariants.{Keep, Set, Remove as Erase}
use Rattle.clsm_model.specs.declared.page_range.PageRange.{PageRange}
use Rattle.clsm_model.specs.declared.record.Deed.{Deed}
use Rattle.clsm_model.specs.declared.record.Deed.TheVariants.{Put, Remove, Rmw, Get, Snapshot, Close, GetAt, Scan, Page, Batch as Group}
use Rattle.clsm_model.specs.declared.record.CallRecord.{CallRecord}
use Rattle.clsm_model.specs.contracts.slot.ChangePartialEq.TheImpl as of_changes
use Rattle.clsm_model.specs.contracts.slot.ChangeEq.TheImpl.Laws as change_laws
use Rattle.clsm_model.specs.contracts.page_range.PageRangePartialEq.TheImpl as of_ranges
use Rattle.clsm_model.specs.contracts.page_range.PageRangeEq.TheImpl.Laws as range_laws
use Rattle.clsm_model.specs.contracts.record.DeedPartialEq.TheImpl as of_deeds
use Rattle.clsm_model.specs.contracts.record.DeedEq.TheImpl.Laws as deed_laws
use Rattle.clsm_model.specs.contracts.record.CallRecordPartialEq.TheImpl as of_records
use Rattle.clsm_model.specs.contracts.record.CallRecordEq.TheImpl.Laws as record_laws
use Rattle.clsm_model.specs.contracts.members.MembersPartialEq.TheImpl as of_members
use Rattle.clsm_model.specs.Right.{Member}
use Rattle.clsm_model.proofs.Equals.{Decides-by_same, option_eq-Decides, pair-Decides, Value-Decides, Rows-Decides}

change-same : (a b : Change) → of_changes.ghosts.eq a b ≡ true → a ≡ b
change-same Keep Keep h = refl
change-same (Set value) (Set value') h = ap Set ((Value-Decides value value').0 h)
change-same Erase Erase h = refl
change-same _ _ h = absurd (true≢false (sym h))

pub Change-Decides : (a b : Change) → Decides (of_changes.ghosts.eq a b) (a ≡ b)
Change-Decides = Decides-by_same change_laws.laws-law change-same

pub Members-Decides : (a b : List Member) → Decides (of_members.ghosts.eq a b) (a ≡ b)
Members-Decides = pointwise_decides (pair-Decides unsigned_Decides Change-Decides)

range-same : (a b : PageRange) → of_ranges.ghosts.eq a b ≡ true → a ≡ b
range-same a b h =
    let e = (Decides-and _ _ (unsigned_Decides a.from b.from) (Decides-and _ _ (unsigned_Decides a.hi b.hi) (unsigned_Decides a.max b.max))).0 h in
    λ i. record { from = e.0 i; hi = e.1.0 i; max = e.1.1 i }

pub PageRange-Decides : (a b : PageRange) → Decides (of_ranges.ghosts.eq a b) (a ≡ b)
PageRange-Decides = Decides-by_same range_laws.laws-law range-same

deed-same : (a b : Deed) → of_deeds.ghosts.eq a b ≡ true → a ≡ b
deed-same (Put key value) (Put key' value') h =
    let e = (Decides-and _ _ (unsigned_Decides key key') (Value-Decides value value')).0 h in λ i. Put (e.0 i) (e.1 i)
deed-same (Remove key) (Remove key') h = ap Remove ((unsigned_Decides key key').0 h)
deed-same (Rmw key old change) (Rmw key' old' change') h =
    let e = (Decides-and _ _ (unsigned_Decides key key') (Decides-and _ _ (option_eq-Decides Value-Decides old old') (Change-Decides change change'))).0 h in
    λ i. Rmw (e.0 i) (e.1.0 i) (e.1.1 i)
deed-same (Get key reply) (Get key' reply') h =
    let e = (Decides-and _ _ (unsigned_Decides key key') (option_eq-Decides Value-Decides reply reply')).0 h in λ i. Get (e.0 i) (e.1 i)
deed-same Snapshot Snapshot h = refl
deed-same Close Close h = refl
deed-same (GetAt key reply) (GetAt key' reply') h =
    let e = (Decides-and _ _ (unsigned_Decides key key') (option_eq-Decides Value-Decides reply reply')).0 h in λ i. GetAt (e.0 i) (e.1 i)
deed-same (Scan lo hi rows) (Scan lo' hi' rows') h =
    let e = (Decides-and _ _ (unsigned_Decides lo lo') (Decides-and _ _ (unsigned_Decides hi hi') (Rows-Decides rows rows'))).0 h in
    λ i. Scan (e.0 i) (e.1.0 i) (e.1.1 i)
deed-same (Page range rows more) (Page range' rows' more') h =
    let e = (Decides-and _ _ (PageRange-Decides range range')
    (Decides-and _ _ (Rows-Decides rows rows') (option_eq-Decides unsigned_Decides more more'))).0 h in
    λ i. Page (e.0 i) (e.1.0 i) (e.1.1 i)
deed-same (Group members) (Group members') h = ap Group ((Members-Decides members members').0 h)
deed-same _ _ h = absurd (true≢false (sym h))

pub Deed-Decides : (a b : Deed) → Decides (of_deeds.ghosts.eq a b) (a ≡ b)
Deed-Decides = Decides-by_same deed_laws.laws-law deed-same

record-same : (a b : CallRecord) → of_records.ghosts.eq a b ≡ true → a ≡ b
record-same a b h =
    let e = (Decides-and _ _ (unsigned_Decides a.seat b.seat) (Decides-and _ _ (unsigned_Decides a.time b.time) (Deed-Decides a.deed b.deed))).0 h in
    λ i. record { seat = e.0 i; time = e.1.0 i; deed = e.1.1 i }

pub CallRecord-Decides : (a b : CallRecord) → Decides (of_records.ghosts.eq a b) (a ≡ b)
CallRecord-Decides = Decides-by_same record_laws.laws-law record-same

-- What a call did, against a history: the write that it made, and what makes its reading right.
use Rattle.std.specs.Prelude.{◌≡◌, ◌≢◌, ℕ, zero, suc, ◌-◌, ◌==◌, nat_le, cond, List, [], ◌∷◌, take, drop, Option, Some, None}
use Rattle.clsm_model.specs.declared.slot.Slot.{Slot}
use Rattle.clsm_model.specs.declared.slot.Slot.TheVariants.{Wrote}
use Rattle.clsm_model.specs.declared.slot.Change.{Change}
use Rattle.clsm_model.specs.declared.slot.Change.TheVariants.{Keep, Set, Remove as Erase}
use Rattle.clsm_model.specs.declared.record.Deed.{Deed}
use Rattle.clsm_model.specs.declared.record.Deed.TheVariants.{Put, Remove, Rmw, Get, GetAt, Scan, Page, Batch as Group}
use Rattle.clsm_model.specs.History.{History, IsReadable, value}
use Rattle.clsm_model.specs.Map.{Pair, IsRange}

-- the write that a change of the key is, where the seat makes it
abbrev pub change_by : ℕ → ℕ → Change → Option Slot
change_by seat key Keep = None
change_by seat key (Set written) = Some (Wrote seat key (Some written))
change_by seat key Erase = Some (Wrote seat key None)

-- a member of a batch: its key, and what is written there
abbrev pub Member : Type 0
Member = ℕ × Change

-- each member is a write
abbrev pub AreWrites : List Member → Type 0
AreWrites [] = Unit {0}
AreWrites (m ∷ ms) = (m.1 ≢ Keep) × AreWrites ms

-- the write that the member with this number is, where the seat makes it
abbrev pub member_write : ℕ → List Member → ℕ → Option Slot
member_write seat [] n = None
member_write seat (m ∷ ms) zero = change_by seat m.0 m.1
member_write seat (m ∷ ms) (suc n) = member_write seat ms n

-- the write that the deed is, where the seat does it; a batch is several
abbrev pub write_by : ℕ → Deed → Option Slot
write_by seat (Put key written) = Some (Wrote seat key (Some written))
write_by seat (Remove key) = Some (Wrote seat key None)
write_by seat (Rmw key old change) = change_by seat key change
write_by seat _ = None

-- the write that the deed, done by the seat at the time s, makes at the time t: a batch has a time
-- for each member, from s on
abbrev pub write_at : ℕ → ℕ → Deed → ℕ → Option Slot
write_at seat s (Group members) t = cond (nat_le s t) (member_write seat members (t - s)) None
write_at seat s deed t = cond (s == t) (write_by seat deed) None

-- the key of the first row, where there is one
abbrev pub first_key : List Pair → Option ℕ
first_key [] = None
first_key (pair ∷ pairs) = Some pair.0

-- the page: the first rows of all, and the key of the next one
pub record IsPage (all : List Pair) (max : ℕ) (rows : List Pair) (more : Option ℕ) : Type 0 where
  pub front : rows ≡ take max all
  pub next : more ≡ first_key (drop max all)

-- the page of the first `max` pairs with keys from `from` to `hi`
abbrev pub page_deed : ℕ → ℕ → ℕ → List Pair → Option ℕ → Deed
page_deed from hi max rows more = Page (record { from = from; hi = hi; max = max }) rows more

-- what the deed says of the history below the time s: nothing, for a deed that read nothing
abbrev pub Reads : History → ℕ → Deed → Type 0
Reads h s (Rmw key old change) = old ≡ value h key s
Reads h s (Get key reply) = reply ≡ value h key s
Reads h s (GetAt key reply) = reply ≡ value h key s
Reads h s (Scan lo hi rows) = IsRange h s lo hi rows
Reads h s (Page range rows more) =
    (all : List Pair) × IsRange h s range.from range.hi all × IsPage all range.max rows more
Reads h s _ = Unit {0}

-- the deed stands at a time of the history, and what it read is what the writes below that time
-- give
pub record IsRight (h : History) (s : ℕ) (deed : Deed) : Type 0 where
  pub readable : IsReadable h s
  pub reads : Reads h s deed

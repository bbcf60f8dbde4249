-- What a history says below a time depends on its slots below that time.
use Rattle.std.proofs.Common.{◌≡◌, ℕ, ◌<◌, zero, suc, List, take, refl, sym, ap, ◌∙◌, arith}
use Rattle.std.proofs.lemmas.List.{get_or-take}
use Rattle.clsm_model.specs.declared.record.Deed.{Deed}
use Rattle.clsm_model.specs.declared.record.Deed.TheVariants.{Put, Remove, Rmw, Get, Snapshot, Close, GetAt, Scan, Page, Batch as Group}
use Rattle.clsm_model.specs.declared.slot.Slot.{Slot}
use Rattle.clsm_model.specs.declared.slot.Slot.TheVariants.{Nothing}
use Rattle.clsm_model.specs.History.{History, left_by, newest, or_else, plain, slot_at, value, write_of}
use Rattle.clsm_model.specs.Map.{IsMap, IsRange, Pair}
use Rattle.clsm_model.specs.Right.{Reads}
use Rattle.clsm_model.specs.Seats.{IsRightDeed}

-- the histories have the same slots below the time
abbrev pub AreSameBelow : History → History → ℕ → Type 0
AreSameBelow h h' s = (t : ℕ) → t < s → slot_at h' t ≡ slot_at h t

-- so the newest write of a key below it is the same
pub newest-same : (h h' : History) (k s : ℕ) → AreSameBelow h h' s → newest h' k s ≡ newest h k s
newest-same h h' k zero same = refl
newest-same h h' k (suc t) same = let now = same t (omega arith) in let before = newest-same h h' k t (λ u lt. same u (omega arith)) in
    ap (λ a. or_else (write_of k t a) (newest h' k t)) now ∙ ap (or_else (write_of k t (slot_at h t))) before

-- and so are the value
pub value-same : (h h' : History) (k s : ℕ) → AreSameBelow h h' s → value h' k s ≡ value h k s
value-same h h' k s same = ap left_by (newest-same h h' k s same)

-- the rows of a range
pub IsRange-same : (h h' : History) (s lo hi : ℕ) (rows : List Pair) → AreSameBelow h h' s → IsRange h s lo hi rows → IsRange h' s lo hi rows
IsRange-same h h' s lo hi rows same r = record {
  rise = r.rise;
  inside = λ k a b. r.inside k a b ∙ sym (value-same h h' k s same);
  below = r.below;
  above = r.above;
}

-- and what a deed read
pub Reads-same : (h h' : History) (s : ℕ) (deed : Deed) → AreSameBelow h h' s → Reads h s deed → Reads h' s deed
Reads-same h h' s (Rmw key old change) same r = r ∙ sym (value-same h h' key s same)
Reads-same h h' s (Get key reply) same r = r ∙ sym (value-same h h' key s same)
Reads-same h h' s (GetAt key reply) same r = r ∙ sym (value-same h h' key s same)
Reads-same h h' s (Scan lo hi rows) same r = IsRange-same h h' s lo hi rows same r
Reads-same h h' s (Page range rows more) same r = (r.0, IsRange-same h h' s range.from range.hi r.0 same r.1, r.2)
Reads-same h h' s (Put key written) same r = tt
Reads-same h h' s (Remove key) same r = tt
Reads-same h h' s Snapshot same r = tt
Reads-same h h' s Close same r = tt
Reads-same h h' s (Group members) same r = tt

-- what a right deed read
pub IsRightDeed-reads : (h : History) (s : ℕ) (deed : Deed) → IsRightDeed h s deed → Reads h s deed
IsRightDeed-reads h s (Put key written) right = tt
IsRightDeed-reads h s (Remove key) right = tt
IsRightDeed-reads h s (Group members) right = tt
IsRightDeed-reads h s deed right = right.reads

-- ---- a history's first slots

value-take : (h : History) (k s : ℕ) → value (plain (take s h.slots)) k s ≡ value h k s
value-take h k s = value-same h (plain (take s h.slots)) k s (λ t lt. get_or-take s h.slots t Nothing lt)

-- their map is the history's
pub IsMap-begins : (h : History) (s i : ℕ) (slots : List Slot) (pairs : List Pair) → slots ≡ take s h.slots → i ≡ s → IsMap (plain slots) i pairs
    → IsMap h s pairs
IsMap-begins h s i slots pairs is end map = record {
  rise = map.rise;
  values = λ k. rw (← value-take h k s, ← is, ← end) (map.values k);
}

-- What the merger's tokens carry, and what a merge makes of them.
use Rattle.std.specs.Prelude.{◌≡◌, ℕ, ◌+◌, ◌*◌, ◌<◌, ◌≤◌, List, length, map, max, Option, Some, vec_capacity, true}
use Rattle.std.specs.List.{AllByRecursion}
use Rattle.clsm_model.specs.declared.slot.Slot.{Slot}
use Rattle.clsm_model.specs.History.{plain}
use Rattle.clsm_levels.specs.declared.entry.Entry.{Entry}
use Rattle.clsm_levels.specs.Entry.{IsWriteOf, entries_of}
use Rattle.clsm_levels.specs.Merge.{is_to_level_one, wanted}
use Rattle.clsm_levels.specs.Run.{IsExact, all_of}
use Rattle.clsm_law.specs.Merging.{lesser}
use Rattle.clsm_law.specs.Views.{next_word}
use Rattle.clsm_law.specs.Worlds.{epoch_of, runs_of}
use Rattle.clsm_words.specs.declared.known.Known.{Known}
use Rattle.clsm_words.specs.Knowing.{row_of}
use Rattle.clsm_store_calls.specs.declared.merger_seat.MergerSeat.{MergerSeat}
use Rattle.clsm_store_calls.specs.Freezing.{IsFrozen}
use Rattle.clsm_store_calls.specs.Reclaiming.{IsRetired}
use Rattle.clsm_store_calls.specs.Seats.{CleanState, FrozenState, MergerState, RetiredState}

-- the writes of the epoch of the next merge, as far as the merger knows, and the runs
abbrev pub epoch_known : Known → List Entry
epoch_known k = epoch_of k.layout (map (λ slot. Some slot) k.past) k.merger.merged

-- those that the readers of the newest component search
abbrev pub runs_known : Known → List (List Entry)
runs_known k = runs_of (row_of k) k.merger.merged

-- what contracts see of the merger

-- its store, the number of merges, its counts, and what its last look at the clock found
abbrev pub merger_of : MergerSeat → MergerState
merger_of m = record {
  store = record { table = m.raw.table; layout = m.raw.knows.layout };
  merges = m.merges;
  holds = m.raw.knows.merger.holds;
  busy = m.raw.knows.merger.busy;
  polls = m.raw.knows.merger.clock_looks;
  polled = m.raw.knows.merger.clock_found;
}

-- the same while nothing is frozen: with its floor, its rounds and what was noted of each seat
abbrev pub clean_of : MergerSeat → CleanState
clean_of m = record {
  merger = merger_of m;
  floor = m.floor;
  rounds = m.raw.knows.merger.rounds;
  readers = m.raw.knows.merger.readers;
}

-- while an epoch is frozen: with its floor, its rounds and what the last one found, and with what
-- the next merge reads
abbrev pub frozen_of : MergerSeat → FrozenState
frozen_of m = record {
  merger = merger_of m;
  floor = m.floor;
  rounds = m.raw.knows.merger.rounds;
  noted = m.raw.knows.merger.noted;
  epoch = epoch_known m.raw.knows;
  runs = runs_known m.raw.knows;
}

-- and while a component is retired: with what was noted of each seat
abbrev pub retired_of : MergerSeat → RetiredState
retired_of m = record {
  merger = merger_of m;
  floor = m.floor;
  rounds = m.raw.knows.merger.rounds;
  noted = m.raw.knows.merger.noted;
  readers = m.seen.items;
}

-- What the token of a frozen epoch carries is of the history h, whose times are known to the
-- epoch's end. The epoch's writes are those of h at the epoch's times, the newest first. Each entry
-- of the runs is a write of h, and from the floor on they answer as a plain map of h, at each time
-- up to the epoch's first
pub record IsOfHistory (h : List Slot) (s : FrozenState) : Type 0 where
  pub reaches : (s.merger.merges + 1) * s.merger.store.layout.cells ≤ length h
  pub epoch : s.epoch ≡ entries_of h (s.merger.merges * s.merger.store.layout.cells) ((s.merger.merges + 1) * s.merger.store.layout.cells)
  pub writes : AllByRecursion (IsWriteOf (plain h)) (all_of s.runs)
  pub exact : IsExact s.runs (plain h) s.floor (s.merger.merges * s.merger.store.layout.cells)

-- it knows its floor, which is not past the end of the epoch of the next merge, and what its last
-- round found noted, and its walk has room for an epoch
pub record IsReady (m : MergerSeat) : Type 0 where
  pub floor : m.floor ≡ m.raw.knows.merger.floor
  pub noted : m.noted ≡ m.raw.knows.merger.noted
  pub early : m.floor ≤ (m.merges + 1) * m.raw.knows.layout.cells
  pub room : m.raw.knows.layout.cells ≤ vec_capacity m.walk.group
  pub seats : length m.seen.items ≡ m.raw.knows.layout.seats

-- an epoch stays frozen, though the merger may have taken another floor
pub record StaysFrozen (old new : MergerSeat) : Type 0 where
  pub frozen : IsFrozen new.raw.knows new.merges
  pub ready : IsReady new
  pub same : frozen_of new ≡ record (frozen_of old) { floor = new.floor; rounds = new.raw.knows.merger.rounds; noted = new.raw.knows.merger.noted }

-- a component is retired
pub record IsRetiring (m : MergerSeat) : Type 0 where
  pub retired : IsRetired m.raw.knows m.merges
  pub ready : IsReady m
  pub seen : m.seen.items ≡ m.raw.knows.merger.readers

-- It looked at all snapshot words in one round, which found this least time noted, if any. The
-- floor that it took is the greater of the one before and of the epoch's end or that time, where
-- that is less. So a floor never falls, and is not past the epoch's end
pub record TakesFloor (s : FrozenState) (floor rounds : ℕ) (noted : Option ℕ) : Type 0 where
  pub looked : rounds ≡ next_word s.rounds
  pub took : floor ≡ max s.floor (lesser ((s.merger.merges + 1) * s.merger.store.layout.cells) noted)
  pub kept : s.floor ≤ floor
  pub early : floor ≤ (s.merger.merges + 1) * s.merger.store.layout.cells

-- what the next merge keeps by this floor
abbrev pub kept_by : FrozenState → ℕ → List Entry
kept_by s floor = wanted s.merger.merges floor s.epoch s.runs

-- the merge is into level 1, and keeps by this floor more entries than a run has room for
pub record IsRunFull (s : FrozenState) (floor : ℕ) : Type 0 where
  pub to_level_one : is_to_level_one s.merger.merges ≡ true
  pub many : s.merger.store.layout.run < length (kept_by s floor)

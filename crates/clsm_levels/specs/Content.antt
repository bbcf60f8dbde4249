-- What the runs of a component hold.
use Rattle.std.specs.Prelude.{◌≡◌, ℕ, ◌<◌, List}
use Rattle.std.specs.List.{AllByRecursion}
use Rattle.clsm_model.specs.History.{History, slot_at}
use Rattle.clsm_levels.specs.declared.entry.Entry.{Entry}
use Rattle.clsm_levels.specs.Entry.{AreBelow, TimesFallByKey, IsWriteOf}
use Rattle.clsm_levels.specs.Run.{IsRun, IsExact, all_of}

-- the runs stand for the history below the time a, and answer for the times from the floor on
pub record IsContent (h : History) (runs : List (List Entry)) (floor a : ℕ) : Type 0 where
  pub exact : IsExact runs h floor a
  pub order : AllByRecursion IsRun runs
  pub falls : TimesFallByKey (all_of runs)
  pub older : AreBelow a (all_of runs)
  pub writes : AllByRecursion (IsWriteOf h) (all_of runs)

-- below the time a both histories have the same slots
abbrev pub AgreeBelow : ℕ → History → History → Type 0
AgreeBelow a h h' = (t : ℕ) → t < a → slot_at h' t ≡ slot_at h t

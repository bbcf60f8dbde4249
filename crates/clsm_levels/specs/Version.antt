-- A write without its value.
use Rattle.std.specs.Prelude.{Option, Some, None}
use Rattle.clsm_levels.specs.declared.entry.Entry.{Entry}
use Rattle.clsm_levels.specs.declared.entry.Version.{Version}
use Rattle.clsm_levels.specs.Entry.{is_removal}

-- the entry without its value
abbrev pub version_of : Entry → Version
version_of e = record { key = e.key; time = e.time; is_removal = is_removal e }

-- so of one that may be missing
abbrev pub version_in : Option Entry → Option Version
version_in None = None
version_in (Some e) = Some (version_of e)

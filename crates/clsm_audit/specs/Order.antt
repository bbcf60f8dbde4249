-- Records in the order of time: at each time the reads come before the write.
use Rattle.std.specs.Prelude.{ℕ, ◌==◌, ◌&&◌, ◌||◌, nat_lt, not, Bool, List, map}
use Rattle.std.specs.List.{enumerate_from}
use Rattle.std.specs.List.Sorted.{IsPermutation, IsSortedBy}
use Rattle.clsm_model.specs.declared.record.CallRecord.{CallRecord}
use Rattle.clsm_audit.specs.declared.stamp.Stamp.{Stamp}
use Rattle.clsm_audit.specs.Written.{is_write}

-- the stamp of the record at the index
abbrev pub stamp_of : ℕ → CallRecord → Stamp
stamp_of index r = record { time = r.time; is_write = is_write r.deed; index = index }

-- the stamps of all records
abbrev pub stamps_of : List CallRecord → List Stamp
stamps_of records = map (λ p. stamp_of p.0 p.1) (enumerate_from 0 records)

-- the first stamp has the lower time, or is a read where the second is a write at the same time
abbrev pub comes_before : Stamp → Stamp → Bool
comes_before x y = nat_lt x.time y.time || (x.time == y.time && (not x.is_write && y.is_write))

-- the stamps are those of all records, and none comes before an earlier one
pub record IsInTimeOrder (records : List CallRecord) (stamps : List Stamp) : Type 0 where
  pub same : IsPermutation (stamps_of records) stamps
  pub sorted : IsSortedBy comes_before stamps

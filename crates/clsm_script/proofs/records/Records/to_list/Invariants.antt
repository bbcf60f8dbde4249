use Rattle.std.proofs.Common.{◌≡◌, map, take}
use Rattle.clsm_script.specs.Kept.{record_of}
use Rattle.clsm_script.proofs.records.Records.to_list.Given as goal

-- the records so far are those of the kept ones so far
abbrev pub invariant-loop-kept : goal.invariant-loop-kept
invariant-loop-kept l = l.records.items ≡ map record_of (take l.kept-index l.kept-items)

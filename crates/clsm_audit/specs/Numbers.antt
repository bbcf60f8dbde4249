-- The numbers of the kinds of faults, and their names as they are printed.
use Rattle.std.specs.Prelude.{ℕ, List, codes}
use Rattle.clsm_audit.specs.declared.fault.FaultKind.{FaultKind}
use Rattle.clsm_audit.specs.declared.fault.FaultKind.TheVariants.{Unknown, TwoAtOneTime, TimeRanBack, WrongReply}

abbrev pub number_of : FaultKind → ℕ
number_of Unknown = 1
number_of TwoAtOneTime = 2
number_of TimeRanBack = 3
number_of WrongReply = 4

abbrev pub name_of : FaultKind → List ℕ
name_of Unknown = codes "Unknown"
name_of TwoAtOneTime = codes "TwoAtOneTime"
name_of TimeRanBack = codes "TimeRanBack"
name_of WrongReply = codes "WrongReply"

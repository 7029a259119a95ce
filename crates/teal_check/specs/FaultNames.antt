-- The names of faults, which commands print and errors show.
use Rattle.std.specs.Prelude.{ℕ, List, codes}
use Rattle.teal_code.specs.FaultNames.{code_fault_name}
use Rattle.teal_check.specs.declared.fault.CheckFault.{CheckFault}
use Rattle.teal_check.specs.declared.fault.CheckFault.TheVariants as check

abbrev pub check_fault_name : CheckFault → List ℕ
check_fault_name check.Version = codes "Version"
check_fault_name check.Length = codes "Length"
check_fault_name (check.Code place fault) = code_fault_name fault
check_fault_name (check.OutOfProfile place) = codes "OutOfProfile"
check_fault_name (check.Backward place) = codes "Backward"
check_fault_name (check.NotAligned place) = codes "NotAligned"
check_fault_name (check.PastEnd place) = codes "PastEnd"
check_fault_name check.Cost = codes "Cost"
check_fault_name (check.UnknownField place) = codes "UnknownField"

-- The numbers of faults, by which callers in other languages know them.
use Rattle.std.specs.Prelude.{ℕ}
use Rattle.teal_check.specs.declared.fault.CheckFault.{CheckFault}
use Rattle.teal_check.specs.declared.fault.CheckFault.TheVariants as check

abbrev pub check_fault_number : CheckFault → ℕ
check_fault_number check.Version = 1
check_fault_number check.Length = 2
check_fault_number (check.Code place fault) = 3
check_fault_number (check.OutOfProfile place) = 4
check_fault_number (check.Backward place) = 5
check_fault_number (check.NotAligned place) = 6
check_fault_number (check.PastEnd place) = 7
check_fault_number check.Cost = 8
check_fault_number (check.UnknownField place) = 9

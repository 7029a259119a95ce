-- The numbers of faults, by which callers in other languages know them.
use Rattle.std.specs.Prelude.{ℕ}
use Rattle.avm_call.specs.declared.call_fault.CallFault.{CallFault}
use Rattle.avm_call.specs.declared.call_fault.CallFault.TheVariants as call

abbrev pub call_fault_number : CallFault → ℕ
call_fault_number call.Accounts = 1
call_fault_number call.Args = 2
call_fault_number call.ArgBytes = 3
call_fault_number call.Foreign = 4
call_fault_number call.ProgramsMissing = 5
call_fault_number call.ProgramsGiven = 6
call_fault_number call.SchemaSize = 7
call_fault_number call.ClearOnCreate = 8
call_fault_number (call.Program f) = 9
call_fault_number call.Note = 10

-- The names of faults and refusals, which commands print and errors show.
use Rattle.std.specs.Prelude.{ℕ, List, codes}
use Rattle.avm_call.specs.declared.call_fault.CallFault.{CallFault}
use Rattle.avm_call.specs.declared.call_fault.CallFault.TheVariants as call
use Rattle.avm_call.specs.declared.outcome.Why.{Why}
use Rattle.avm_call.specs.declared.outcome.Why.TheVariants as why

abbrev pub call_fault_name : CallFault → List ℕ
call_fault_name call.Accounts = codes "Accounts"
call_fault_name call.Args = codes "Args"
call_fault_name call.ArgBytes = codes "ArgBytes"
call_fault_name call.Foreign = codes "Foreign"
call_fault_name call.Note = codes "Note"
call_fault_name call.ProgramsMissing = codes "ProgramsMissing"
call_fault_name call.ProgramsGiven = codes "ProgramsGiven"
call_fault_name call.SchemaSize = codes "SchemaSize"
call_fault_name call.ClearOnCreate = codes "ClearOnCreate"
call_fault_name (call.Program f) = codes "Program"

abbrev pub why_name : Why → List ℕ
why_name why.NoApp = codes "NoApp"
why_name why.AlreadyIn = codes "AlreadyIn"
why_name why.NotIn = codes "NotIn"
why_name why.IdsEnd = codes "IdsEnd"

-- A line for a call: what it reads as, and the names of what it breaks.
use Rattle.std.specs.Prelude.{ℕ, List, Option, Some, None, Result, Ok, Err}
use Rattle.teal_value.specs.Answer.{◌>>=◌}
use Rattle.avm_items.specs.declared.call_data.CallData.{CallData}
use Rattle.avm_call_codec.specs.declared.call_data_fault.CallDataFault.{CallDataFault}
use Rattle.avm_call_codec.specs.CallReader.{call_at}
use Rattle.avm_call_codec.specs.FaultNames.{call_data_fault_name}
use Rattle.avm_call.specs.declared.call_fault.CallFault.{CallFault}
use Rattle.avm_call.specs.CallRules.{call_fault}
use Rattle.avm_call.specs.FaultNames.{call_fault_name}
use Rattle.avm_input.specs.declared.call_line.CallLineFault.{CallLineFault}
use Rattle.avm_input.specs.declared.call_line.CallLineFault.TheVariants as fault

abbrev pub call_line_name : CallLineFault → List ℕ
call_line_name (fault.Bytes f) = call_data_fault_name f
call_line_name (fault.Rule f) = call_fault_name f

abbrev pub on_bytes : {A : Type 0} → Result A CallDataFault → Result A CallLineFault
on_bytes (Ok fields) = Ok fields
on_bytes (Err f) = Err (fault.Bytes f)

-- the fields, where they break no rule of calls
abbrev pub unless_broken : CallData → Option CallFault → Result CallData CallLineFault
unless_broken fields None = Ok fields
unless_broken fields (Some f) = Err (fault.Rule f)

-- the call that the bytes are
abbrev pub checked_call : List ℕ → Result CallData CallLineFault
checked_call bytes = on_bytes (call_at bytes) >>= λ fields. unless_broken fields (call_fault fields)

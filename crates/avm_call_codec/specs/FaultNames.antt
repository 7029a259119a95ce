-- The names of faults, which commands print and errors show.
use Rattle.std.specs.Prelude.{ℕ, List, codes}
use Rattle.avm_call_codec.specs.declared.call_data_fault.CallDataFault.{CallDataFault}
use Rattle.avm_call_codec.specs.declared.call_data_fault.CallDataFault.TheVariants as fault

abbrev pub call_data_fault_name : CallDataFault → List ℕ
call_data_fault_name fault.Field = codes "Field"
call_data_fault_name fault.Truncated = codes "Truncated"
call_data_fault_name fault.Rest = codes "Rest"

-- When a fault is answered.
use Rattle.std.specs.Prelude.{◌≡◌, Option, Some}
use Rattle.teal_value.specs.declared.failure.Failure.{Failure}
use Rattle.teal_value.specs.declared.failure.Failure.TheVariants as failure
use Rattle.avm_call.specs.declared.call_fault.CallFault.{CallFault}

-- It is this fault, or that memory ran out.
abbrev pub IsFaultOf : Option CallFault → Failure CallFault → Type 0
IsFaultOf fault failure.Memory = Unit {0}
IsFaultOf fault (failure.Fault f) = fault ≡ Some f

-- Copies of values on top of the stack.
use Rattle.std.specs.Prelude.{ℕ, ◌+◌, ◌∷◌, Result, Ok, Err, length, nat_le, nat_lt, if◌then◌else◌, slice_get, unwrap_or}
use Rattle.teal_value.specs.Answer.{◌>>=◌}
use Rattle.teal_value.specs.declared.failure.Failure.{Failure}
use Rattle.teal_value.specs.declared.failure.Failure.TheVariants as failure
use Rattle.teal_value.specs.declared.fault.Fault.{Fault}
use Rattle.teal_value.specs.declared.fault.Fault.TheVariants.{StackFull}
use Rattle.teal_value.specs.declared.value.Value.{Value}
use Rattle.teal_value.specs.declared.value.Value.TheVariants.{Uint}
use Rattle.avm_cpu.specs.declared.push.Push.{Push}
use Rattle.avm_cpu.specs.declared.push.Push.TheVariants as push
use Rattle.avm_cpu.specs.Machine.{Machine, most_values, with_stack}
use Rattle.avm_cpu.specs.Operands.{two_values, value_below}

-- the machine with a value more, or two, for which there must be room
abbrev pub with_value : Machine → Value → Result Machine Fault
with_value m v = if nat_lt (length m.stack) most_values then Ok (with_stack m (v ∷ m.stack)) else Err StackFull

abbrev pub with_values : Machine → Value × Value → Result Machine Fault
with_values m vs = if nat_le (length m.stack + 2) most_values then Ok (with_stack m (vs.1 ∷ vs.0 ∷ m.stack)) else Err StackFull

-- with a copy of the value so many below the top; of the two on top; of a place of the scratch space
abbrev pub with_copy : ℕ → Machine → Result Machine Fault
with_copy depth m = value_below depth m.stack >>= with_value m

abbrev pub with_copies : Machine → Result Machine Fault
with_copies m = two_values m.stack >>= with_values m

abbrev pub with_loaded : ℕ → Machine → Result Machine Fault
with_loaded i m = with_value m (unwrap_or (slice_get m.scratch i) (Uint 0))

-- whether a copy was pushed, or why not
abbrev pub pushed : Push → Result (Unit {0}) (Failure Fault)
pushed push.Done = Ok tt
pushed (push.Fault f) = Err (failure.Fault f)
pushed push.Memory = Err failure.Memory

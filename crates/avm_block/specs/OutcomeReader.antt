-- Reading an outcome from bytes.
use Rattle.std.specs.Prelude.{ℕ, ◌==◌, nat_le, if◌then◌else◌, List, Ok, Err}
use Rattle.std.specs.Option.{ok_or}
use Rattle.std.specs.Int.{w8, w16}
use Rattle.teal_value.specs.Answer.{◌>>=◌}
use Rattle.teal_value.specs.declared.fault.Fault.{Fault}
use Rattle.teal_value.specs.FaultNumbers.{fault_number, faults, numbered}
use Rattle.teal_code.specs.Limits.{most_program_bytes}
use Rattle.avm_ledger.specs.FieldReader.{Front, number_at}
use Rattle.avm_call.specs.declared.outcome.Cause.{Cause}
use Rattle.avm_call.specs.declared.outcome.Cause.TheVariants as cause
use Rattle.avm_call.specs.declared.outcome.Outcome.{Outcome}
use Rattle.avm_call.specs.declared.outcome.Outcome.TheVariants as outcome
use Rattle.avm_call.specs.OutcomeEncoding.{why_number, whys}
use Rattle.avm_block.specs.declared.block_fault.BlockFault.{BlockFault}
use Rattle.avm_block.specs.declared.block_fault.BlockFault.TheVariants.{Truncated, Field}

-- one of these values, by its number of one byte
abbrev pub one_at : {A : Type 0} → (A → ℕ) → List A → List ℕ → Front BlockFault A
one_at number xs bytes = do
  n ← number_at Truncated w8 bytes
  x ← ok_or (numbered number n.0 xs) Field
  Ok (x, n.1)

-- a place of a program
abbrev pub place_at : List ℕ → Front BlockFault ℕ
place_at bytes = number_at Truncated w16 bytes >>= λ place. if nat_le place.0 most_program_bytes then Ok place else Err Field

abbrev pub fault_and_place_at : List ℕ → Front BlockFault (Fault × ℕ)
fault_and_place_at bytes = do
  f ← one_at fault_number faults bytes
  place ← place_at f.1
  Ok ((f.0, place.0), place.1)

abbrev pub cause_of_kind : ℕ × List ℕ → Front BlockFault Cause
cause_of_kind kind =
    if kind.0 == 0 then Ok (cause.Gone, kind.1)
    else if kind.0 == 1 then Ok (cause.Rejected, kind.1)
    else if kind.0 == 2 then (fault_and_place_at kind.1 >>= λ f. Ok (cause.Faulted f.0.0 f.0.1, f.1))
    else Err Field

abbrev pub cause_at : List ℕ → Front BlockFault Cause
cause_at bytes = number_at Truncated w8 bytes >>= cause_of_kind

abbrev pub outcome_of_kind : ℕ × List ℕ → Front BlockFault Outcome
outcome_of_kind kind =
    if kind.0 == 0 then Ok (outcome.Approved, kind.1)
    else if kind.0 == 1 then Ok (outcome.Rejected, kind.1)
    else if kind.0 == 2 then (fault_and_place_at kind.1 >>= λ f. Ok (outcome.Faulted f.0.0 f.0.1, f.1))
    else if kind.0 == 3 then (one_at why_number whys kind.1 >>= λ w. Ok (outcome.Refused w.0, w.1))
    else if kind.0 == 4 then (cause_at kind.1 >>= λ c. Ok (outcome.ClearedAnyway c.0, c.1))
    else Err Field

abbrev pub outcome_at : List ℕ → Front BlockFault Outcome
outcome_at bytes = number_at Truncated w8 bytes >>= outcome_of_kind

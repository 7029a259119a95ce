-- Where the faults of calls are.
use Rattle.std.specs.Prelude.{◌≡◌, ◌≤◌, true, IsTrue}
use Rattle.teal_code.specs.Limits.{most_program_bytes}
use Rattle.avm_ledger.specs.declared.header.Header.{Header}
use Rattle.avm_ledger.specs.Ledgers.{Ledger}
use Rattle.avm_items.specs.declared.call_data.CallData.{CallData}
use Rattle.avm_items.specs.declared.item.Item.TheVariants as item
use Rattle.avm_items.specs.CallFields.{creates}
use Rattle.avm_items.specs.LedgerItems.{at}
use Rattle.avm_call.specs.declared.outcome.Cause.{Cause}
use Rattle.avm_call.specs.declared.outcome.Cause.TheVariants as cause
use Rattle.avm_call.specs.declared.outcome.Outcome.{Outcome}
use Rattle.avm_call.specs.declared.outcome.Outcome.TheVariants as outcome
use Rattle.avm_call.specs.Ends.{has_programs, is_program}
use Rattle.avm_call.specs.Replay.{outcome_on}

-- a fault's place is one of a program, or its end
abbrev pub HasCausePlace : Cause → Type 0
HasCausePlace (cause.Faulted f place) = place ≤ most_program_bytes
HasCausePlace _ = Unit {0}

abbrev pub HasPlace : Outcome → Type 0
HasPlace (outcome.Faulted f place) = place ≤ most_program_bytes
HasPlace (outcome.ClearedAnyway c) = HasCausePlace c
HasPlace _ = Unit {0}

-- Every fault is so, as long as the application that is called has programs, and a creation brings them.
abbrev pub OutcomesHavePlaces : Type 0
OutcomesHavePlaces =
    (l : Ledger) (call : CallData) (header : Header) → IsTrue (has_programs (at l (item.App call.application)))
    → (creates call ≡ true → (is_program call.approval ≡ true) × (is_program call.clear ≡ true)) → HasPlace (outcome_on l call header)

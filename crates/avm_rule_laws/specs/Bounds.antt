-- How high a program's stack grows, and how long its byte strings. The statement of the law.
use Rattle.std.specs.Prelude.{◌≡◌, ℕ, ◌≤◌, List, length, All, Ok, Some, None}
use Rattle.teal_value.specs.declared.value.Value.{Value}
use Rattle.teal_value.specs.declared.value.Value.TheVariants.{Uint, Bytes}
use Rattle.avm_ledger.specs.declared.application.Application.{Application}
use Rattle.avm_ledger.specs.declared.header.Header.{Header}
use Rattle.avm_ledger.specs.Ledgers.{Ledger}
use Rattle.avm_items.specs.declared.call_data.CallData.{CallData}
use Rattle.avm_items.specs.LedgerItems.{at}
use Rattle.avm_items.specs.Asks.{result_over}
use Rattle.avm_call.specs.CallRules.{call_fault}
use Rattle.avm_call.specs.Runs.{path}
use Rattle.avm_call.specs.Calls.{Target, admitted, prepared, execution}
use Rattle.avm_rule_laws.specs.Rules.{IsCallOfBytes, HasWords, IsSound}
use Rattle.avm_cpu.specs.Machine.{most_bytes, most_values}

-- a number, or a byte string of at most 4096 bytes
abbrev pub IsShortValue : Value → Type 0
IsShortValue (Uint n) = Unit {0}
IsShortValue (Bytes s) = length s ≤ most_bytes

-- at most 1000 values on the stack, and no long byte string there or in the scratch space
pub record IsWithinBounds (stack scratch : List Value) : Type 0 where
  pub height : length stack ≤ most_values
  pub operands : All IsShortValue stack
  pub stored : All IsShortValue scratch

-- So it is after each step of a call that breaks no rule of calls, over a ledger that keeps the rules.
abbrev pub RunsStayWithinBounds : Type 0
RunsStayWithinBounds =
    (l : Ledger) (call : CallData) (header : Header) (t : Target) (row : Application) (steps : ℕ) → IsSound l → IsCallOfBytes call → HasWords header → call_fault call ≡ None
    → result_over (at l) (admitted call) ≡ Ok t → t.row ≡ Some row
    → let p = (result_over (at l) (path (execution call header t.id row) (prepared call t.id) steps)).0 in IsWithinBounds p.stack p.scratch

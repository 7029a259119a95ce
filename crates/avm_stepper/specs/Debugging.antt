-- A call that is stepped through, as contracts see it, and what is shown of it.
use Rattle.std.specs.Prelude.{ℕ, ◌+◌, Option, Some, None, option_map}
use Rattle.teal_value.specs.declared.fault.Fault.{Fault}
use Rattle.avm_ledger.specs.declared.header.Header.{Header}
use Rattle.avm_ledger.specs.Ledgers.{Ledger}
use Rattle.avm_items.specs.declared.call_data.CallData.{CallData}
use Rattle.avm_items.specs.Asks.{result_over}
use Rattle.avm_items.specs.LedgerItems.{at}
use Rattle.avm_call.specs.CallPaths.{Reached, call_path}
use Rattle.avm_call.specs.Views.{NextStep, View, view_after}

-- the ledger that the call meets, the steps of its program that were made, and the fault of the step behind them, if it was tried
-- and has faulted
pub record Debugged : Type 0 where
  pub ledger : Ledger
  pub call : CallData
  pub header : Header
  pub steps : ℕ
  pub fault : Option Fault

-- A step that has faulted is counted as none. Its fault is what the definition shows after it, at the place where it was made.
abbrev pub steps_shown : ℕ → Option Fault → ℕ
steps_shown steps None = steps
steps_shown steps (Some f) = steps + 1

-- what is shown
abbrev pub debug_view : Debugged → Option View
debug_view d = view_after d.ledger d.call d.header (steps_shown d.steps d.fault)

-- what is shown to come next: an instruction, a fault, or the end
abbrev pub next_shown : Debugged → Option NextStep
next_shown d = option_map (λ v. v.next) (debug_view d)

-- where the path of the call's program has come to after so many steps, on the ledger
abbrev pub reached_by : Debugged → ℕ → Reached
reached_by d steps = result_over (at d.ledger) (call_path d.call d.header steps)

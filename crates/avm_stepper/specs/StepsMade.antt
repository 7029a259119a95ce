-- The steps of a call's program over the ledger that the call met, and a stepper that has made so many of them.
use Rattle.std.specs.Prelude.{◌≡◌, ◌<◌, ℕ, Option, Some, None, option_map}
use Rattle.teal_value.specs.declared.fault.Fault.{Fault}
use Rattle.teal_code.specs.declared.instr.Instr.{Instr}
use Rattle.avm_ledger.specs.declared.header.Header.{Header}
use Rattle.avm_ledger.specs.Ledgers.{Ledger}
use Rattle.avm_items.specs.declared.call_data.CallData.{CallData}
use Rattle.avm_call.specs.Views.{NextStep, Runs, view_after}
use Rattle.avm_stepper.specs.Debugging.{Debugged, steps_shown}

-- what is shown to come next after so many steps
abbrev pub next_after : Ledger → CallData → Header → ℕ → Option NextStep
next_after l call header steps = option_map (λ v. v.next) (view_after l call header steps)

-- an instruction comes next, so one more step can be made; one that faults is made too
abbrev pub HasNext : Ledger → CallData → Header → ℕ → Type 0
HasNext l call header steps = (i : Instr) × (next_after l call header steps ≡ Some (Runs i))

-- so many steps can be made
abbrev pub CanGo : Ledger → CallData → Header → ℕ → Type 0
CanGo l call header steps = (n : ℕ) → n < steps → HasNext l call header n

-- the program has faulted, or is at its end, before so many
abbrev pub EndsBefore : Ledger → CallData → Header → ℕ → Type 0
EndsBefore l call header steps = (n : ℕ) × (n < steps) × (HasNext l call header n → ⊥)

-- where the last step has faulted, no instruction comes next
abbrev pub IsDebugOver : Ledger → CallData → Header → ℕ → Option Fault → Type 0
IsDebugOver l call header made None = Unit {0}
IsDebugOver l call header made (Some f) = HasNext l call header made → ⊥

-- So many steps were made, the last of which may have faulted.
pub record HasMade (l : Ledger) (call : CallData) (header : Header) (made : ℕ) (now : Option Debugged) : Type 0 where
  pub steps : ℕ
  pub fault : Option Fault
  pub is : now ≡ Some (record { ledger = l; call = call; header = header; steps = steps; fault = fault })
  pub counted : steps_shown steps fault ≡ made
  pub can_go : CanGo l call header made
  pub over : IsDebugOver l call header made fault

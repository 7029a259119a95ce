-- A debugger's run, and what is seen of the debugger by it.
use Rattle.std.specs.Prelude.{◌≡◌, ℕ, ◌+◌, ◌==◌, false, length, Option, Some, None, Ok}
use Rattle.teal_value.specs.declared.fault.Fault.{Fault}
use Rattle.avm_ledger.specs.declared.application.Application.{Application}
use Rattle.avm_ledger.specs.declared.header.Header.{Header}
use Rattle.avm_ledger.specs.Ledgers.{Ledger}
use Rattle.avm_items.specs.declared.call_data.CallData.{CallData}
use Rattle.avm_items.specs.Items.{ItemMap, value_in}
use Rattle.avm_items.specs.Asks.{result_over}
use Rattle.avm_items.specs.LedgerItems.{at}
use Rattle.avm_items.specs.Locality.{LookAgrees}
use Rattle.avm_call.specs.declared.outcome.Ended.TheVariants as ended
use Rattle.avm_call.specs.Runs.{Position}
use Rattle.avm_call.specs.Calls.{Target, admitted, prepared, program_of}
use Rattle.avm_call.specs.CallPaths.{call_path}
use Rattle.avm_run.specs.RunState.{Progress}
use Rattle.avm_stepper.specs.Debugging.{Debugged}

abbrev pub steps_made : Option ℕ → ℕ
steps_made None = 0
steps_made (Some n) = n

-- what is seen, by a run over a ledger; no value where the run is spent, or there is none
abbrev pub seen_by : Ledger → Option Fault → Option Progress → Option Debugged
seen_by l fault None = None
seen_by l fault (Some p) = Some (record { ledger = l; call = p.call; header = p.header; steps = steps_made p.steps; fault = fault })

abbrev pub seen : Ledger → Option Fault → Option (Option Progress) → Option Debugged
seen l fault None = None
seen l fault (Some run) = seen_by l fault run

-- After so many steps the path stands before an instruction, whose step faults.
pub record HasFaulted (l : Ledger) (call : CallData) (header : Header) (steps : ℕ) (fault : Fault) : Type 0 where
  pub id : ℕ
  pub row : Application
  pub admits : result_over (at l) (admitted call) ≡ Ok (record { id = id; row = Some row })
  pub position : Position
  pub place : ℕ
  pub inside : (position.place == length (program_of call.completion row)) ≡ false
  pub here : result_over (at l) (call_path call header steps) ≡ Some (position, None)
  pub next : result_over (at l) (call_path call header (steps + 1)) ≡ Some (position, Some (ended.Faulted fault place))

abbrev pub FaultIs : Ledger → CallData → Header → ℕ → Option Fault → Type 0
FaultIs l call header steps None = Unit {0}
FaultIs l call header steps (Some f) = HasFaulted l call header steps f

-- A run in its program that was supplied with values of the ledger, and the fault of its next step, where it was tried.
pub record IsDebugged (l : Ledger) (fault : Option Fault) (p : Progress) : Type 0 where
  pub steps : ℕ
  pub counted : p.steps ≡ Some steps
  pub agrees : LookAgrees (value_in p.reads) (at l)
  pub faulted : FaultIs l p.call p.header steps fault

abbrev pub IsKeptBy : Ledger → Option Fault → Option Progress → Type 0
IsKeptBy l fault None = ⊥
IsKeptBy l fault (Some p) = IsDebugged l fault p

abbrev pub IsKeptDebug : Ledger → Option Fault → Option (Option Progress) → Type 0
IsKeptDebug l fault None = Unit {0}
IsKeptDebug l fault (Some run) = IsKeptBy l fault run

-- the items that are prepared for the program of the call
abbrev pub ArePrepared : Ledger → CallData → ItemMap → Type 0
ArePrepared l call items = (t : Target) → result_over (at l) (admitted call) ≡ Ok t → items ≡ prepared call t.id

abbrev pub IsPreparedBy : Ledger → ItemMap → Option Progress → Type 0
IsPreparedBy l items None = Unit {0}
IsPreparedBy l items (Some p) = ArePrepared l p.call items

abbrev pub IsPreparedFor : Ledger → ItemMap → Option (Option Progress) → Type 0
IsPreparedFor l items None = Unit {0}
IsPreparedFor l items (Some run) = IsPreparedBy l items run

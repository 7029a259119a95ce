-- What a debugger shows, as the definition of views has it.
use Rattle.std.specs.Prelude.{◌≡◌, ℕ, List, reverse, Option, Some, None, Result, Ok, Err}
use Rattle.teal_value.specs.declared.failure.Failure.{Failure}
use Rattle.teal_value.specs.declared.failure.Failure.TheVariants as failure
use Rattle.teal_value.specs.declared.fault.Fault.{Fault}
use Rattle.teal_value.specs.declared.value.Value.{Value}
use Rattle.teal_code.specs.declared.instr.Instr.{Instr}
use Rattle.teal_check.specs.WellFormed.{WellFormed, checked}
use Rattle.avm_ledger.specs.declared.application.Application.{Application}
use Rattle.avm_ledger.specs.Ledgers.{Ledger, application_at}
use Rattle.avm_items.specs.declared.call_data.CallData.{CallData}
use Rattle.avm_items.specs.Items.{ItemMap}
use Rattle.avm_items.specs.LedgerItems.{put}
use Rattle.avm_call.specs.Calls.{program_of}
use Rattle.avm_call.specs.Views.{NextStep, Runs, Faults, AtEnd, state_changes}
use Rattle.avm_call.specs.Views as views
use Rattle.avm_run.specs.Showing.{Sight}
use Rattle.avm_stepper.specs.declared.view.Next.{Next}
use Rattle.avm_stepper.specs.declared.view.Next.TheVariants as next
use Rattle.avm_stepper.specs.declared.view.MachineView.{MachineView}
use Rattle.avm_stepper.specs.declared.view.View.{View}
use Rattle.avm_stepper.specs.declared.view.ViewFault.{ViewFault}
use Rattle.avm_stepper.specs.declared.view.ViewFault.TheVariants as fault
use Rattle.avm_stepper.specs.Changes.{changes_seen, global_entries, local_changes_along, local_seen}
use Rattle.avm_stepper.specs.Debugging.{Debugged, debug_view}
use Rattle.avm_stepper.specs.Opening.{program_row}
use Rattle.avm_stepper.specs.Scratch.{places_seen, set_places}

abbrev pub next_seen : Next → NextStep
next_seen (next.Instruction i) = Runs i.now
next_seen (next.Fault f) = Faults f
next_seen next.End = AtEnd

abbrev pub view_seen : View → views.View
view_seen v = record {
  place = v.place;
  next = next_seen v.next;
  stack = reverse v.stack.now;
  scratch = places_seen v.scratch.items;
  uint_constants = v.uint_constants.now;
  byte_constants = v.byte_constants.now;
  global_changes = changes_seen v.global_changes.items;
  local_changes = local_seen v.local_changes.items;
}

-- what a call of `view` answers
abbrev pub IsShown : Option Debugged → Result View (Failure ViewFault) → Type 0
IsShown (Some d) (Ok v) = debug_view d ≡ Some (view_seen v)
IsShown (Some d) (Err failure.Memory) = Unit {0}
IsShown (Some d) (Err (failure.Fault fault.Spent)) = ⊥
IsShown None (Ok v) = ⊥
IsShown None (Err failure.Memory) = ⊥
IsShown None (Err (failure.Fault fault.Spent)) = Unit {0}

-- ---- the machine alone, the ledger and the program

-- what of a view the machine holds
pub record MachineState : Type 0 where
  pub place : ℕ
  pub next : NextStep
  pub stack : List Value
  pub scratch : List (ℕ × Value)

abbrev pub machine_of : views.View → MachineState
machine_of v = record { place = v.place; next = v.next; stack = v.stack; scratch = v.scratch }

abbrev pub machine_seen : MachineView → MachineState
machine_seen m = record { place = m.place; next = next_seen m.next; stack = reverse m.stack.now; scratch = places_seen m.scratch.items }

-- what a call of `machine_view` answers
abbrev pub IsMachineShown : Option Debugged → Result MachineView (Failure ViewFault) → Type 0
IsMachineShown (Some d) (Ok m) = (v : views.View) × (debug_view d ≡ Some v) × (machine_seen m ≡ machine_of v)
IsMachineShown (Some d) (Err failure.Memory) = Unit {0}
IsMachineShown (Some d) (Err (failure.Fault fault.Spent)) = ⊥
IsMachineShown None (Ok m) = ⊥
IsMachineShown None (Err failure.Memory) = ⊥
IsMachineShown None (Err (failure.Fault fault.Spent)) = Unit {0}

-- the ledger that the call met
abbrev pub IsLedgerOf : Option Debugged → Ledger → Type 0
IsLedgerOf (Some d) l = l ≡ d.ledger
IsLedgerOf None l = Unit {0}

-- the program of the application that runs: its approval program, or its clear state program
pub record IsProgramOf (l : Ledger) (call : CallData) (p : WellFormed) : Type 0 where
  pub row : Application
  pub there : program_row l call ≡ Some row
  pub program : checked (program_of call.completion row) ≡ Ok p

-- what a call of `program` answers
abbrev pub IsProgramShown : Option Debugged → Option WellFormed → Type 0
IsProgramShown (Some d) (Some p) = IsProgramOf d.ledger d.call p
IsProgramShown (Some d) None = ⊥
IsProgramShown None (Some p) = ⊥
IsProgramShown None None = Unit {0}

-- ---- from what a run shows, over a ledger and the items prepared for the program

abbrev pub next_by : Option Fault → Option Instr → NextStep
next_by (Some f) o = Faults f
next_by None (Some i) = Runs i
next_by None None = AtEnd

abbrev pub machine_by : Option Fault → Sight → MachineState
machine_by fault s = record { place = s.place; next = next_by fault s.instruction; stack = s.machine.stack; scratch = set_places 0 s.machine.scratch }

abbrev pub view_by : Ledger → ItemMap → Option Fault → Sight → views.View
view_by l prepared fault s =
    let before = put l prepared in
    let now = put before s.writes in
    record {
      place = s.place;
      next = next_by fault s.instruction;
      stack = s.machine.stack;
      scratch = set_places 0 s.machine.scratch;
      uint_constants = s.machine.uint_constants;
      byte_constants = s.machine.byte_constants;
      global_changes = state_changes (global_entries (application_at before s.application)) (global_entries (application_at now s.application));
      local_changes = local_changes_along before s.application now.local_states;
    }

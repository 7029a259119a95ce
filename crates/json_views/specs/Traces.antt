-- What a call did, as an element of a dry-run response, and the response for calls one after another.
use Rattle.std.specs.Prelude.{◌≡◌, ◌≢◌, ◌⊎◌, ℕ, zero, suc, ◌-◌, ◌<◌, ◌≤◌, Bool, true, false, if◌then◌else◌, List, [], ◌∷◌, ◌++◌, length, map, sum_by, Option, Some, None, Result, Ok, Err, codes}
use Rattle.json.specs.Json.{Json, array}
use Rattle.teal_value.specs.declared.failure.Failure.TheVariants as failure
use Rattle.teal_table.specs.Table.{row_of}
use Rattle.teal_code.specs.Limits.{most_cost}
use Rattle.teal_check.specs.WellFormed.{WellFormed}
use Rattle.avm_ledger.specs.declared.header.Header.{Header}
use Rattle.avm_ledger.specs.Ledgers.{Ledger}
use Rattle.avm_ledger.specs.Encodings.{ledger_digest}
use Rattle.avm_items.specs.declared.call_data.CallData.{CallData}
use Rattle.avm_items.specs.declared.call_data.Completion.{Completion}
use Rattle.avm_items.specs.declared.call_data.Completion.TheVariants as completion
use Rattle.avm_call.specs.declared.outcome.Cause.TheVariants as cause
use Rattle.avm_call.specs.declared.outcome.Outcome.{Outcome}
use Rattle.avm_call.specs.declared.outcome.Outcome.TheVariants as outcome
use Rattle.avm_call.specs.Replay.{ledger_after, outcome_on}
use Rattle.avm_call.specs.Views.{NextStep, Runs, Faults, AtEnd, View, view_after}
use Rattle.avm_block.specs.declared.entry.Entry.{Entry}
use Rattle.avm_block.specs.Blocks.{Block}
use Rattle.avm_block.specs.declared.past_faults.OpenFault.TheVariants as opening
use Rattle.avm_stepper.specs.Opening.{HasNoProgram, HasProgram, IsDebugRefusal, entry_numbered, ledger_before}
use Rattle.avm_stepper.specs.Shown.{IsProgramOf, MachineState, machine_of}
use Rattle.avm_input.specs.Outcomes.{outcome_text}
use Rattle.avm_stepper.specs.StepsMade.{CanGo, HasNext}
use Rattle.json_views.specs.Documents.{Member, array_of, document_text, items_of, object_of, text, uint}
use Rattle.json_views.specs.declared.refusal.TraceRefusal.{TraceRefusal}
use Rattle.json_views.specs.declared.refusal.TraceRefusal.TheVariants as refusal
use Rattle.json_views.specs.MachineStates.{shown_state}
use Rattle.json_views.specs.Changes.{shown_global_delta, shown_local_deltas}
use Rattle.json_views.specs.Disassembly.{shown_disassembly}
use Rattle.json_views.specs.Weights.{most_text}

-- ---- the states

abbrev pub state_in : Option View → List MachineState
state_in None = []
state_in (Some v) = machine_of v ∷ []

-- the first states of a call's program, before it and after one step, two, and so on
abbrev pub first_states : Ledger → CallData → Header → ℕ → List MachineState
first_states l call header zero = []
first_states l call header (suc n) = first_states l call header n ++ state_in (view_after l call header n)

-- The program has so many states: an instruction comes next in each of them but the last. That one shows a fault or the end.
pub record HasStates (l : Ledger) (call : CallData) (header : Header) (count : ℕ) : Type 0 where
  pub some : 0 < count
  pub go_on : CanGo l call header (count - 1)
  pub ends : HasNext l call header (count - 1) → ⊥

-- what an instruction costs that is executed next, also where it faults
abbrev pub next_cost : NextStep → ℕ
next_cost (Runs i) = (row_of i.opcode).cost
next_cost (Faults f) = 0
next_cost AtEnd = 0

-- what the instructions cost that are executed from these states
abbrev pub states_cost : List MachineState → ℕ
states_cost states = sum_by (λ m. next_cost m.next) states

-- ---- the members

abbrev pub program_name : Completion → List ℕ
program_name completion.ClearState = codes "ClearStateProgram"
program_name _ = codes "ApprovalProgram"

abbrev pub verdict_word : Outcome → List ℕ
verdict_word outcome.Approved = codes "PASS"
verdict_word _ = codes "REJECT"

abbrev pub has_faulted : Outcome → Bool
has_faulted (outcome.Faulted f place) = true
has_faulted (outcome.ClearedAnyway (cause.Faulted f place)) = true
has_faulted _ = false

-- how the call ends, where its program faults
abbrev pub fault_message : Outcome → List (List ℕ)
fault_message found = if has_faulted found then outcome_text found ∷ [] else []

abbrev pub shown_messages : Completion → Outcome → Json
shown_messages done found = array_of text (program_name done ∷ verdict_word found ∷ fault_message found)

-- how the call's entry says that it ended, if it has one
abbrev pub recorded_members : Option Outcome → List Member
recorded_members None = []
recorded_members (Some o) = (codes "recorded-outcome", text (outcome_text o)) ∷ []

-- ---- the trace of a call

-- The states of a program, what its instructions cost, what it has changed where it ends, and how the call ends.
abbrev pub shown_run : CallData → WellFormed → List MachineState → View → Outcome → Option Outcome → Json
shown_run call program states last found recorded =
    object_of (
    (codes "app-call-messages", shown_messages call.completion found)
    ∷ (codes "app-call-trace", array_of (shown_state program) states)
    ∷ (codes "budget-added", uint most_cost)
    ∷ (codes "budget-consumed", uint (states_cost states))
    ∷ (codes "disassembly", shown_disassembly program)
    ∷ (codes "global-delta", shown_global_delta last.global_changes)
    ∷ (codes "local-deltas", shown_local_deltas last.local_changes)
    ∷ (codes "outcome", text (outcome_text found))
    ∷ recorded_members recorded)

-- the same where no program runs
abbrev pub shown_no_run : Outcome → Option Outcome → Json
shown_no_run found recorded =
    object_of (
    (codes "app-call-messages", array_of text (outcome_text found ∷ []))
    ∷ (codes "app-call-trace", array_of text [])
    ∷ (codes "budget-added", uint 0)
    ∷ (codes "budget-consumed", uint 0)
    ∷ (codes "disassembly", array_of text [])
    ∷ (codes "global-delta", array_of text [])
    ∷ (codes "local-deltas", array_of text [])
    ∷ (codes "outcome", text (outcome_text found))
    ∷ recorded_members recorded)

-- what the program of a call did over the ledger that the call met
pub record IsRunTrace (l : Ledger) (call : CallData) (header : Header) (recorded : Option Outcome) (document : Json) : Type 0 where
  pub program : WellFormed
  pub runs : IsProgramOf l call program
  pub count : ℕ
  pub states : HasStates l call header count
  pub last : View
  pub at_end : view_after l call header (count - 1) ≡ Some last
  pub is : document ≡ shown_run call program (first_states l call header count) last (outcome_on l call header) recorded

-- what a call did
abbrev pub IsCallTrace : Ledger → CallData → Header → Option Outcome → Json → Type 0
IsCallTrace l call header recorded document = IsRunTrace l call header recorded document ⊎ (HasNoProgram l call × (document ≡ shown_no_run (outcome_on l call header) recorded))

-- what calls did one after another, each over the ledger that the one before left, with how their entries say that they ended
abbrev pub AreCallTraces : Ledger → Header → List (CallData × Option Outcome) → List Json → Type 0
AreCallTraces l header [] [] = Unit {0}
AreCallTraces l header [] (d ∷ ds) = ⊥
AreCallTraces l header (c ∷ cs) [] = ⊥
AreCallTraces l header (c ∷ cs) (d ∷ ds) = IsCallTrace l c.0 header c.1 d × AreCallTraces (ledger_after l c.0 header) header cs ds

-- the members of each response
abbrev pub response_members : List Json → List Member
response_members traces = (codes "error", text []) ∷ (codes "protocol-version", text []) ∷ (codes "txns", array (items_of traces)) ∷ []

-- ---- in a block over the ledger before it

abbrev pub recorded_call : Entry → CallData × Option Outcome
recorded_call e = (e.call, Some e.outcome)

-- the calls of all entries
pub record IsBlockTrace (base : Ledger) (b : Block) (document : Json) : Type 0 where
  pub same_base : b.base ≡ ledger_digest base
  pub traces : List Json
  pub are : AreCallTraces base b.header (map recorded_call b.entries) traces
  pub is : document ≡ object_of (response_members traces)

-- an entry whose call runs a program
pub record HasTrace (base : Ledger) (b : Block) (number : ℕ) : Type 0 where
  pub entry : Entry
  pub there : entry_numbered b.entries number ≡ Some entry
  pub same_base : b.base ≡ ledger_digest base
  pub program : HasProgram (ledger_before base b entry) entry.call

pub record IsEntryTrace (base : Ledger) (b : Block) (number : ℕ) (document : Json) : Type 0 where
  pub entry : Entry
  pub there : entry_numbered b.entries number ≡ Some entry
  pub same_base : b.base ≡ ledger_digest base
  pub trace : IsRunTrace (ledger_before base b entry) entry.call b.header (Some entry.outcome) document

-- ---- what is found

-- the trace of an entry's call, or why there is none
abbrev pub FindsEntry : Ledger × Block → ℕ → Result Json TraceRefusal → Type 0
FindsEntry input number (Ok document) = IsEntryTrace input.0 input.1 number document × (length (document_text document) ≤ most_text)
FindsEntry input number (Err (refusal.Opening fault)) = IsDebugRefusal input.0 input.1 number (failure.Fault fault)
FindsEntry input number (Err refusal.TooLong) = HasTrace input.0 input.1 number × ((document : Json) → IsEntryTrace input.0 input.1 number document → most_text < length (document_text document))

-- the traces of all entries' calls, or why there are none
abbrev pub FindsBlock : Ledger × Block → Result Json TraceRefusal → Type 0
FindsBlock input (Ok document) = IsBlockTrace input.0 input.1 document × (length (document_text document) ≤ most_text)
FindsBlock input (Err (refusal.Opening opening.WrongBase)) = input.1.base ≢ ledger_digest input.0
FindsBlock input (Err (refusal.Opening _)) = ⊥
FindsBlock input (Err refusal.TooLong) = (input.1.base ≡ ledger_digest input.0) × ((document : Json) → IsBlockTrace input.0 input.1 document → most_text < length (document_text document))

-- the same, of an entry where one is named
abbrev pub Finds : Option ℕ → Ledger × Block → Result Json TraceRefusal → Type 0
Finds None input found = FindsBlock input found
Finds (Some number) input found = FindsEntry input number found

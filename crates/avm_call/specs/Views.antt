-- What a debugger shows of a call's program after some steps.
use Rattle.std.specs.Prelude.{ℕ, zero, suc, ◌==◌, Bool, true, false, if◌then◌else◌, List, [], ◌∷◌, ◌++◌, length, filter, Option, Some, None, Result, Ok, Err}
use Rattle.std.specs.List.{enumerate_from}
use Rattle.std.specs.BTreeMap.{insert_entry}
use Rattle.teal_value.specs.declared.address.Address.{Address}
use Rattle.teal_value.specs.declared.value.Value.{Value}
use Rattle.teal_value.specs.declared.value.Value.TheVariants.{Uint, Bytes}
use Rattle.teal_value.specs.declared.fault.Fault.{Fault}
use Rattle.teal_code.specs.declared.decode.CodeFault.{CodeFault}
use Rattle.teal_code.specs.declared.instr.Instr.{Instr}
use Rattle.avm_ledger.specs.declared.application.Application.{Application}
use Rattle.avm_ledger.specs.declared.header.Header.{Header}
use Rattle.avm_states.specs.Entries.{Entries, byte_cmp, value_of_key}
use Rattle.avm_ledger.specs.declared.application.StoredApplication.{StoredApplication}
use Rattle.avm_ledger.specs.Ledgers.{Ledger, application_at, local_state_at}
use Rattle.teal_value.specs.SameValues.{is_same}
use Rattle.avm_items.specs.declared.call_data.CallData.{CallData}
use Rattle.avm_items.specs.Asks.{result_over}
use Rattle.avm_items.specs.LedgerItems.{at, put}
use Rattle.avm_call.specs.declared.outcome.Ended.{Ended}
use Rattle.avm_call.specs.declared.outcome.Ended.TheVariants as ended
use Rattle.avm_call.specs.declared.outcome.Why.{Why}
use Rattle.avm_call.specs.Calls.{Target, admitted, prepared, execution}
use Rattle.avm_call.specs.Runs.{Execution, Position, path, instruction_at, uint_constants_at, byte_constants_at}

-- what comes next: an instruction, the fault of the one that stands there, or the end
pub data NextStep : Type 0 where
  Runs : Instr → NextStep
  Faults : Fault → NextStep
  AtEnd : NextStep

-- a key whose value changed, with its value now, if it has one
pub record KeyChange : Type 0 where
  pub key : List ℕ
  pub now : Option Value

pub record LocalChange : Type 0 where
  pub account : Address
  pub key : List ℕ
  pub now : Option Value

pub record View : Type 0 where
  pub place : ℕ
  pub next : NextStep
  pub stack : List Value
  pub scratch : List (ℕ × Value)
  pub uint_constants : List ℕ
  pub byte_constants : List (List ℕ)
  pub global_changes : List KeyChange
  pub local_changes : List LocalChange

-- ---- what comes next

abbrev instruction : Result (Instr × ℕ) CodeFault → NextStep
instruction (Ok i) = Runs i.0
instruction (Err e) = AtEnd

abbrev step_there : List ℕ → Position → Option Ended → NextStep
step_there program p (Some (ended.Faulted f place)) = Faults f
step_there program p _ = instruction (instruction_at program p.place)

-- at the end no step is left, also where the end itself is at fault
abbrev pub next_step : List ℕ → Position → Option Ended → NextStep
next_step program p end = if p.place == length program then AtEnd else step_there program p end

-- ---- the scratch space

abbrev is_set : ℕ × Value → Bool
is_set (index, Uint zero) = false
is_set (index, Uint (suc n)) = true
is_set (index, Bytes s) = true

-- ---- what changed since the program began

abbrev is_same_option : Option Value → Option Value → Bool
is_same_option None None = true
is_same_option (Some v) (Some w) = is_same v w
is_same_option _ _ = false

abbrev changed_at : Entries → Entries → List ℕ → List KeyChange
changed_at before after key =
    if is_same_option (value_of_key before key) (value_of_key after key) then [] else record { key = key; now = value_of_key after key } ∷ []

-- keys of two states in order, each once
abbrev keys_with : List ℕ × Value → List (List ℕ × Unit {0}) → List (List ℕ × Unit {0})
keys_with e keys = insert_entry byte_cmp keys e.0 tt

abbrev keys_in : Entries → List (List ℕ × Unit {0}) → List (List ℕ × Unit {0})
keys_in [] keys = keys
keys_in (e ∷ es) keys = keys_in es (keys_with e keys)

abbrev changes_along : Entries → Entries → List (List ℕ × Unit {0}) → List KeyChange
changes_along before after [] = []
changes_along before after (k ∷ keys) = changed_at before after k.0 ++ changes_along before after keys

-- the keys whose values differ between two states, by rising key
abbrev pub state_changes : Entries → Entries → List KeyChange
state_changes before after = changes_along before after (keys_in before (keys_in after []))

abbrev global_state : Option StoredApplication → Entries
global_state None = []
global_state (Some app) = app.state

abbrev local_entries : Option Entries → Entries
local_entries None = []
local_entries (Some state) = state

abbrev of_account : Address → List KeyChange → List LocalChange
of_account who [] = []
of_account who (c ∷ cs) = record { account = who; key = c.key; now = c.now } ∷ of_account who cs

abbrev local_changes_along : Ledger → Ledger → ℕ → List ((Address × ℕ) × Entries) → List LocalChange
local_changes_along before after id [] = []
local_changes_along before after id (e ∷ es) =
    (if e.0.1 == id then of_account e.0.0 (state_changes (local_entries (local_state_at before e.0.0 id)) e.1) else []) ++ local_changes_along before after id es

-- ---- the view

-- a position of a program, over the ledger as it was prepared for it
abbrev pub view_of : Execution → Ledger → Position × Option Ended → View
view_of e before (p, end) =
    let now = put before p.writes in
    record {
      place = p.place;
      next = next_step e.program p end;
      stack = p.stack;
      scratch = filter is_set (enumerate_from 0 p.scratch);
      uint_constants = uint_constants_at e.program p.passed;
      byte_constants = byte_constants_at e.program p.passed;
      global_changes = state_changes (global_state (application_at before e.current)) (global_state (application_at now e.current));
      local_changes = local_changes_along before now e.current now.local_states;
    }

abbrev program_view : Ledger → CallData → Header → ℕ → Option Application → ℕ → Option View
program_view l call header id None steps = None
program_view l call header id (Some row) steps =
    let e = execution call header id row in
    let writes = prepared call id in
    Some (view_of e (put l writes) (result_over (at (put l writes)) (path e writes steps)))

abbrev target_view : Ledger → CallData → Header → Result Target Why → ℕ → Option View
target_view l call header (Ok t) steps = program_view l call header t.id t.row steps
target_view l call header (Err w) steps = None

-- The view of a call over a ledger after so many steps of its program; none where no program runs.
abbrev pub view_after : Ledger → CallData → Header → ℕ → Option View
view_after l call header steps = target_view l call header (result_over (at l) (admitted call)) steps

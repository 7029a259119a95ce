-- What a call does (AVM specification, application call transactions): the tests before its program, what is prepared
-- for it, its run, and what comes after.
use Rattle.std.specs.Prelude.{ℕ, ◌+◌, ◌-◌, ◌^◌, ◌==◌, ◌||◌, Bool, true, false, not, if◌then◌else◌, List, [], filter, Option, Some, None, is_some, Result, Ok, Err}
use Rattle.avm_ledger.specs.declared.application.Application.{Application}
use Rattle.avm_ledger.specs.declared.header.Header.{Header}
use Rattle.avm_states.specs.Schemas.{no_entries}
use Rattle.avm_items.specs.declared.call_data.Completion.{Completion}
use Rattle.avm_items.specs.declared.call_data.Completion.TheVariants as completion
use Rattle.avm_items.specs.declared.call_data.CallData.{CallData}
use Rattle.avm_items.specs.declared.item.Item.{Item}
use Rattle.avm_items.specs.declared.item.Item.TheVariants as item
use Rattle.avm_items.specs.declared.item_value.ItemValue.TheVariants as value
use Rattle.avm_items.specs.CallFields.{creates, clears}
use Rattle.avm_items.specs.Items.{ItemMap, is_global_of, with_item, next_id_in, application_in, local_state_in}
use Rattle.avm_items.specs.Asks.{Ask, Gives, and_then}
use Rattle.avm_items.specs.Acts.{Act, done, reads, test, ◌>>=◌}
use Rattle.avm_call.specs.declared.outcome.Ended.{Ended}
use Rattle.avm_call.specs.declared.outcome.Ended.TheVariants as ended
use Rattle.avm_call.specs.declared.outcome.Why.{Why}
use Rattle.avm_call.specs.declared.outcome.Why.TheVariants as why
use Rattle.avm_call.specs.declared.outcome.Cause.{Cause}
use Rattle.avm_call.specs.declared.outcome.Cause.TheVariants as cause
use Rattle.avm_call.specs.declared.outcome.Outcome.{Outcome}
use Rattle.avm_call.specs.declared.outcome.Outcome.TheVariants as outcome
use Rattle.avm_call.specs.Runs.{Execution, program_result}

-- how a call ends, and the items that it writes
abbrev pub CallResult : Type 0
CallResult = Outcome × ItemMap

-- the application of a call: its id, and its row where it is there
pub record Target : Type 0 where
  pub id : ℕ
  pub row : Option Application

-- ---- the tests before the program

-- the application that a creation makes
abbrev pub created : CallData → Application
created call = record {
  creator = call.sender;
  approval = call.approval;
  clear = call.clear;
  global_schema = call.global_schema;
  local_schema = call.local_schema;
}

-- A creation takes the next id, and the last number is no id.
abbrev pub new_target : CallData → Act Why Target
new_target call = do
  id ← reads next_id_in item.NextApp
  _ ← test (not (id == 2 ^ 64 - 1)) why.IdsEnd
  done (record { id = id; row = Some (created call) })

-- Only a call that clears may find its application gone.
abbrev pub called_target : CallData → Act Why Target
called_target call = do
  row ← reads application_in (item.App call.application)
  _ ← test (is_some row || clears call.completion) why.NoApp
  done (record { id = call.application; row = row })

abbrev pub target : CallData → Act Why Target
target call = elim (creates call) [ true ↦ new_target call | false ↦ called_target call ]

-- the sender's local state
abbrev pub sender_item : CallData → ℕ → Item
sender_item call id = item.Local call.sender id

abbrev pub is_opted_in : CallData → ℕ → Act Why Bool
is_opted_in call id = reads (λ v. is_some (local_state_in v)) (sender_item call id)

-- Who opts in isn't in; who closes out or clears is in.
abbrev pub opt_in_test : CallData → ℕ → Act Why (Unit {0})
opt_in_test call id = elim call.completion [
  | completion.OptIn ↦ is_opted_in call id >>= λ in_already. test (not in_already) why.AlreadyIn
  | completion.CloseOut ↦ is_opted_in call id >>= λ is_in. test is_in why.NotIn
  | completion.ClearState ↦ is_opted_in call id >>= λ is_in. test is_in why.NotIn
  | _ ↦ done tt
]

abbrev pub admitted : CallData → Act Why Target
admitted call = do
  t ← target call
  _ ← opt_in_test call t.id
  done t

-- ---- what is prepared for the program

-- a creation makes the application, with an empty global state; the next id rises
abbrev pub new_application : CallData → ℕ → ItemMap
new_application call id =
    with_item
    (with_item (with_item [] item.NextApp (value.NextApp (id + 1))) (item.App id) (value.App (created call)))
    (item.Counts id) (value.Counts no_entries)

abbrev pub opting_in : CallData → ℕ → ItemMap → ItemMap
opting_in call id writes = elim call.completion [
  | completion.OptIn ↦ with_item writes (sender_item call id) (value.Local [])
  | _ ↦ writes
]

abbrev pub prepared : CallData → ℕ → ItemMap
prepared call id = opting_in call id (if creates call then new_application call id else [])

-- ---- the program

abbrev pub program_of : Completion → Application → List ℕ
program_of completion.ClearState row = row.clear
program_of _ row = row.approval

abbrev pub execution : CallData → Header → ℕ → Application → Execution
execution call header id row = record { program = program_of call.completion row; call = call; header = header; current = id }

-- ---- after the program

-- An application that goes takes its global state with it.
abbrev pub deleted : ℕ → ItemMap → ItemMap
deleted id writes = with_item (filter (λ e. not (is_global_of id e.0)) writes) (item.App id) value.Absent

abbrev pub updated : CallData → Application → Application
updated call row = record row { approval = call.approval; clear = call.clear }

-- what a call writes beside what its program wrote, where it is approved, by its completion
abbrev pub completed_by : Completion → CallData → ℕ → Application → ItemMap → ItemMap
completed_by completion.NoOp call id row writes = writes
completed_by completion.OptIn call id row writes = writes
completed_by completion.CloseOut call id row writes = with_item writes (sender_item call id) value.Absent
completed_by completion.ClearState call id row writes = with_item writes (sender_item call id) value.Absent
completed_by completion.UpdateApplication call id row writes = with_item writes (item.App id) (value.App (updated call row))
completed_by completion.DeleteApplication call id row writes = deleted id writes

abbrev pub completed : CallData → ℕ → Application → ItemMap → ItemMap
completed call id row writes = completed_by call.completion call id row writes

-- Whatever its program did is undone, and the local state goes.
abbrev pub cleared : CallData → ℕ → Cause → CallResult
cleared call id c = (outcome.ClearedAnyway c, with_item [] (sender_item call id) value.Absent)

-- A call that isn't approved writes nothing, but for one that clears.
abbrev pub ending : CallData → ℕ → Application → ItemMap × Ended → CallResult
ending call id row (writes, ended.Approved) = (outcome.Approved, completed call id row writes)
ending call id row (writes, ended.Rejected) =
    if clears call.completion then cleared call id cause.Rejected else (outcome.Rejected, [])
ending call id row (writes, ended.Faulted f place) =
    if clears call.completion then cleared call id (cause.Faulted f place) else (outcome.Faulted f place, [])

-- ---- the whole call

abbrev pub runs : CallData → Header → ℕ → Application → Ask CallResult
runs call header id row =
    and_then (program_result (execution call header id row) (prepared call id)) (λ end. Gives (ending call id row end))

abbrev pub runs_on : CallData → Header → Target → Option Application → Ask CallResult
runs_on call header t (Some row) = runs call header t.id row
runs_on call header t None = Gives (cleared call t.id cause.Gone)

abbrev pub goes_on : CallData → Header → Result Target Why → Ask CallResult
goes_on call header (Ok t) = runs_on call header t t.row
goes_on call header (Err w) = Gives (outcome.Refused w, [])

-- A call in a block, as the items that it asks for: how it ends, and the items that it writes.
abbrev pub call_result : CallData → Header → Ask CallResult
call_result call header = and_then (admitted call) (goes_on call header)

-- Transactions that call applications.
use Rattle.std.specs.Prelude.{ℕ, ◌==◌, if◌then◌else◌, List, [], ◌∷◌, ◌++◌, length, replicate, codes, Option, Some, None, is_some, Result, Ok, Err}
use Rattle.std.specs.Str.{bytes_eq}
use Rattle.teal_value.specs.Answer.{◌>>=◌}
use Rattle.teal_value.specs.declared.address.Address.{Address}
use Rattle.avm_states.specs.Schemas.{most_global_entries, most_local_entries, no_entries}
use Rattle.avm_items.specs.declared.call_data.Completion.{Completion}
use Rattle.avm_items.specs.declared.call_data.Completion.TheVariants as completion
use Rattle.avm_items.specs.declared.call_data.CallData.{CallData}
use Rattle.avm_block.specs.Blocks.{most_calls}
use Rattle.avm_call.specs.declared.call_fault.CallFault.{CallFault}
use Rattle.avm_call.specs.declared.call_fault.CallFault.TheVariants as call
use Rattle.avm_call.specs.CallRules.{call_fault}
use Rattle.json.specs.Json.{Json}
use Rattle.json.specs.Find.{as_object, at}
use Rattle.json_documents.specs.declared.document_fault.DocumentFault.{DocumentFault}
use Rattle.json_documents.specs.declared.document_fault.DocumentFault.TheVariants as what
use Rattle.json_documents.specs.Faults.{Fault, here}
use Rattle.json_documents.specs.Members.{reject_unknown, required, optional}
use Rattle.json_documents.specs.Arrays.{each}
use Rattle.json_documents.specs.Plain.{address, bytes, text, uint}
use Rattle.json_documents.specs.declared.sources.SourceField.TheVariants as field
use Rattle.json_documents.specs.declared.call_parts.Target.{Target}
use Rattle.json_documents.specs.declared.call_parts.Terms.{Terms}
use Rattle.json_documents.specs.Groups.{Groups, group, with_group}
use Rattle.json_documents.specs.Programs.{given_or}
use Rattle.json_documents.specs.Schemas.{schema}
use Rattle.json_documents.specs.Sources.{Sources, program_at}
use Rattle.json_documents.specs.Tables.{signed_names, transaction_names}

-- ---- values of some members

abbrev pub only_appl : List ℕ → Result (Unit {0}) Fault
only_appl name = if bytes_eq name (codes "appl") then Ok tt else Err (here what.TxnType)

-- a call of an application
abbrev pub call_type : Json → Result (Unit {0}) Fault
call_type j = text j >>= only_appl

abbrev pub completion_of : ℕ → Result Completion Fault
completion_of n =
    if n == 0 then Ok completion.NoOp else if n == 1 then Ok completion.OptIn
    else if n == 2 then Ok completion.CloseOut else if n == 3 then Ok completion.ClearState
    else if n == 4 then Ok completion.UpdateApplication else if n == 5 then Ok completion.DeleteApplication
    else Err (here what.Completion)

abbrev pub action : Json → Result Completion Fault
action j = uint j >>= completion_of

abbrev pub whole_lease : List ℕ → Result (List ℕ) Fault
whole_lease s = if length s == 32 then Ok s else Err (here what.LeaseLength)

abbrev pub lease : Json → Result (List ℕ) Fault
lease j = bytes j >>= whole_lease

abbrev pub zeros : List ℕ
zeros = replicate 32 0

abbrev pub zero_address : Address
zero_address = record { 0 = zeros }

-- ---- lists

abbrev pub with_bytes : List (List ℕ) → Json → Result (List (List ℕ)) Fault
with_bytes so_far j = bytes j >>= λ s. Ok (so_far ++ s ∷ [])

abbrev pub with_address : List Address → Json → Result (List Address) Fault
with_address so_far j = address j >>= λ who. Ok (so_far ++ who ∷ [])

abbrev pub with_uint : List ℕ → Json → Result (List ℕ) Fault
with_uint so_far j = uint j >>= λ n. Ok (so_far ++ n ∷ [])

-- ---- the members of a transaction, by the order of their names

-- what is called, and with what: the members from `apaa` to `apsu`, of the transaction with this index
abbrev pub target : Sources → ℕ → Json → Result Target Fault
target sources i j = do
  arguments ← optional (codes "apaa") (each with_bytes []) [] j
  after ← optional (codes "apan") action completion.NoOp j
  approval ← given_or (program_at sources field.CallApproval i) (optional (codes "apap") bytes [] j)
  accounts ← optional (codes "apat") (each with_address []) [] j
  foreign ← optional (codes "apfa") (each with_uint []) [] j
  global ← optional (codes "apgs") (schema (codes "nbs") (codes "nui") most_global_entries) no_entries j
  application ← optional (codes "apid") uint 0 j
  local ← optional (codes "apls") (schema (codes "nbs") (codes "nui") most_local_entries) no_entries j
  clear ← given_or (program_at sources field.CallClear i) (optional (codes "apsu") bytes [] j)
  Ok (
      record {
        arguments = arguments;
        completion = after;
        approval = approval;
        accounts = accounts;
        foreign_applications = foreign;
        global_schema = global;
        application = application;
        local_schema = local;
        clear = clear;
      }
      )

-- by whom, and on what terms: the members from `fee` to `snd`
abbrev pub terms : Json → Result Terms Fault
terms j = do
  fee ← optional (codes "fee") uint 0 j
  first ← optional (codes "fv") uint 0 j
  last ← optional (codes "lv") uint 0 j
  own ← optional (codes "lx") lease zeros j
  note ← optional (codes "note") bytes [] j
  rekey ← optional (codes "rekey") address zero_address j
  sender ← required (codes "snd") address j
  Ok (record { fee = fee; first_valid = first; last_valid = last; lease = own; note = note; rekey_to = rekey; sender = sender })

abbrev pub fields : Target → Terms → CallData
fields of by = record {
  sender = by.sender;
  fee = by.fee;
  first_valid = by.first_valid;
  last_valid = by.last_valid;
  note = by.note;
  lease = by.lease;
  rekey_to = by.rekey_to;
  application = of.application;
  completion = of.completion;
  arguments = of.arguments;
  accounts = of.accounts;
  foreign_applications = of.foreign_applications;
  approval = of.approval;
  clear = of.clear;
  global_schema = of.global_schema;
  local_schema = of.local_schema;
}

-- ---- the rules of calls

abbrev pub call_fault_in : CallFault → DocumentFault
call_fault_in call.Accounts = what.Accounts
call_fault_in call.Args = what.Args
call_fault_in call.ArgBytes = what.ArgBytes
call_fault_in call.Foreign = what.Foreign
call_fault_in call.Note = what.Note
call_fault_in call.ProgramsMissing = what.ProgramsMissing
call_fault_in call.ProgramsGiven = what.ProgramsGiven
call_fault_in call.SchemaSize = what.SchemaSize
call_fault_in call.ClearOnCreate = what.ClearOnCreate
call_fault_in (call.Program f) = what.Program f

abbrev pub unless_broken : CallData → Option CallFault → Result CallData Fault
unless_broken c None = Ok c
unless_broken c (Some f) = Err (here (call_fault_in f))

-- fields that make a call
abbrev pub checked_call : CallData → Result CallData Fault
checked_call c = unless_broken c (call_fault c)

-- ---- transactions

-- the group, if any, of a call of an application that is in a group with none before it; this is tested before the names
abbrev pub lone_call : Groups → Json → Result (Option (List ℕ)) Fault
lone_call groups j =
    if is_some (as_object j) then (required (codes "type") call_type j >>= λ _. optional (codes "grp") (group groups) None j) else Err (here what.NotObject)

-- the call of the transaction with this index, behind others with these groups, and its own group
abbrev pub transaction : Sources → Groups → ℕ → Json → Result (CallData × Option (List ℕ)) Fault
transaction sources groups i j = do
  own ← lone_call groups j
  _ ← reject_unknown transaction_names j
  of ← target sources i j
  by ← terms j
  call ← checked_call (fields of by)
  Ok (call, own)

-- the calls of transactions, and their groups
pub record Batch : Type 0 where
  pub calls : List CallData
  pub groups : Groups

abbrev pub empty_batch : Batch
empty_batch = record { calls = []; groups = [] }

abbrev pub with_call : Batch → CallData → Option (List ℕ) → Batch
with_call b call own = record { calls = b.calls ++ call ∷ []; groups = with_group b.groups own }

-- a transaction with its signatures, behind those before it
abbrev pub with_signed : Sources → Batch → Json → Result Batch Fault
with_signed sources so_far j = do
  _ ← reject_unknown signed_names j
  t ← required (codes "txn") (transaction sources so_far.groups (length so_far.calls)) j
  Ok (with_call so_far t.0 t.1)

-- the calls of all transactions
abbrev pub transactions : Sources → Json → Result (List CallData) Fault
transactions sources j =
    if is_some (at most_calls j) then Err (here what.TooMany) else (each (with_signed sources) empty_batch j >>= λ b. Ok b.calls)

-- Applications.
use Rattle.std.specs.Prelude.{ℕ, [], codes, Result, Ok}
use Rattle.teal_value.specs.Answer.{◌>>=◌}
use Rattle.avm_states.specs.declared.schema.Schema.{Schema}
use Rattle.avm_states.specs.Entries.{Entries}
use Rattle.avm_states.specs.Schemas.{most_global_entries, most_local_entries, no_entries}
use Rattle.avm_ledger.specs.declared.application.StoredApplication.{StoredApplication}
use Rattle.avm_ledger.specs.LedgerReader.{room_of_schema}
use Rattle.avm_ledger.specs.Ledgers.{Ledger}
use Rattle.json.specs.Json.{Json}
use Rattle.json_documents.specs.Faults.{Fault}
use Rattle.json_documents.specs.Members.{reject_unknown, required, optional}
use Rattle.json_documents.specs.Deleted.{still_known}
use Rattle.json_documents.specs.Plain.{address}
use Rattle.json_documents.specs.declared.sources.SourceField.TheVariants as field
use Rattle.json_documents.specs.Drafts.{add_application}
use Rattle.json_documents.specs.Ids.{id_below}
use Rattle.json_documents.specs.Programs.{given_or, program}
use Rattle.json_documents.specs.Schemas.{schema}
use Rattle.json_documents.specs.Sources.{Sources, program_at}
use Rattle.json_documents.specs.States.{state}
use Rattle.json_documents.specs.Tables.{application_names, params_names}

-- an application's schemas, and its state within the first
pub record Limits : Type 0 where
  pub global_schema : Schema
  pub local_schema : Schema
  pub state : Entries

abbrev pub limits : Json → Result Limits Fault
limits j = do
  global ← optional (codes "global-state-schema") (schema (codes "num-byte-slice") (codes "num-uint") most_global_entries) no_entries j
  local ← optional (codes "local-state-schema") (schema (codes "num-byte-slice") (codes "num-uint") most_local_entries) no_entries j
  entries ← optional (codes "global-state") (state (room_of_schema global)) [] j
  Ok (record { global_schema = global; local_schema = local; state = entries })

-- what an application of this id is made with
abbrev pub params : Sources → ℕ → Json → Result StoredApplication Fault
params sources id j = do
  _ ← reject_unknown params_names j
  approval ← given_or (program_at sources field.Approval id) (required (codes "approval-program") program j)
  clear ← given_or (program_at sources field.Clear id) (required (codes "clear-state-program") program j)
  creator ← required (codes "creator") address j
  l ← limits j
  Ok (
      record {
        row = record { creator = creator; approval = approval; clear = clear; global_schema = l.global_schema; local_schema = l.local_schema };
        state = l.state;
      }
      )

-- an application with an id below this end, beside those before it
abbrev pub application : ℕ → Sources → Ledger → Json → Result Ledger Fault
application end sources l j = do
  _ ← still_known application_names j
  id ← required (codes "id") (id_below end) j
  app ← required (codes "params") (params sources id) j
  add_application l id app

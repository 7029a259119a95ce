-- Accounts, of which the local states count.
use Rattle.std.specs.Prelude.{ℕ, Bool, [], codes, Result}
use Rattle.teal_value.specs.Answer.{◌>>=◌}
use Rattle.teal_value.specs.declared.address.Address.{Address}
use Rattle.avm_ledger.specs.LedgerReader.{local_room}
use Rattle.avm_ledger.specs.Ledgers.{Ledger, application_at}
use Rattle.json.specs.Json.{Json}
use Rattle.json_documents.specs.Faults.{Fault}
use Rattle.json_documents.specs.Members.{required, optional}
use Rattle.json_documents.specs.Deleted.{still_known}
use Rattle.json_documents.specs.Arrays.{each}
use Rattle.json_documents.specs.Placeholders.{unless_placeholder}
use Rattle.json_documents.specs.Plain.{address}
use Rattle.json_documents.specs.Drafts.{add_local_state}
use Rattle.json_documents.specs.Ids.{id_below}
use Rattle.json_documents.specs.States.{state}
use Rattle.json_documents.specs.Tables.{account_names, local_names}

-- an account's local state of an application, which may be gone
abbrev pub local : ℕ → Address → Ledger → Json → Result Ledger Fault
local end who l j = do
  _ ← still_known local_names j
  id ← required (codes "id") (id_below end) j
  entries ← optional (codes "key-value") (state (local_room (application_at l id))) [] j
  add_local_state l who id entries

-- an account, beside those before it, in a document that has placeholders or not
abbrev pub account : Bool → ℕ → Ledger → Json → Result Ledger Fault
account there end l j = do
  _ ← still_known account_names j
  who ← required (codes "address") address j
  optional (codes "apps-local-state") (each (unless_placeholder there (local end who)) l) l j

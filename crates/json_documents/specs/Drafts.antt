-- Ledgers as they are put together: each application and each local state raises the next id above its own.
use Rattle.std.specs.Prelude.{ℕ, ◌+◌, ◌&&◌, Bool, max, if◌then◌else◌, Option, Some, None, Result, Ok, Err}
use Rattle.std.specs.Cmp.Lexicographic.{pointwise}
use Rattle.teal_value.specs.declared.address.Address.{Address}
use Rattle.avm_states.specs.Entries.{Entries, is_same_entry}
use Rattle.avm_ledger.specs.declared.application.StoredApplication.{StoredApplication}
use Rattle.avm_ledger.specs.Ledgers.{Ledger, application_at, local_state_at, with_application, with_local_state}
use Rattle.avm_items.specs.SameValues.{is_same_application}
use Rattle.json_documents.specs.declared.document_fault.DocumentFault.TheVariants.{Differs}
use Rattle.json_documents.specs.Faults.{Fault, here}

abbrev pub is_same_state : Entries → Entries → Bool
is_same_state a b = pointwise is_same_entry a b

-- applications that are the same, with their states
abbrev pub is_same_stored : StoredApplication → StoredApplication → Bool
is_same_stored a b = is_same_application a.row b.row && is_same_state a.state b.state

abbrev pub raised : ℕ → Ledger → Ledger
raised id l = record l { next_id = max l.next_id (id + 1) }

-- an application beside the one that has the id already, if any: what stands twice has to be the same
abbrev pub application_beside : Option StoredApplication → Ledger → ℕ → StoredApplication → Result Ledger Fault
application_beside None l id app = Ok (raised id (with_application l id app))
application_beside (Some old) l id app = if is_same_stored old app then Ok l else Err (here Differs)

abbrev pub add_application : Ledger → ℕ → StoredApplication → Result Ledger Fault
add_application l id app = application_beside (application_at l id) l id app

-- the same of local states
abbrev pub local_state_beside : Option Entries → Ledger → Address → ℕ → Entries → Result Ledger Fault
local_state_beside None l who id state = Ok (raised id (with_local_state l who id state))
local_state_beside (Some old) l who id state = if is_same_state old state then Ok l else Err (here Differs)

abbrev pub add_local_state : Ledger → Address → ℕ → Entries → Result Ledger Fault
add_local_state l who id state = local_state_beside (local_state_at l who id) l who id state

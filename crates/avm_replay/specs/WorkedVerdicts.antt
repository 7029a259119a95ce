-- A block of one creation, on which verdicts are computed.
use Rattle.std.specs.Prelude.{[], ◌∷◌}
use Rattle.avm_ledger.specs.declared.header.Profile.TheVariants as profile
use Rattle.avm_ledger.specs.Ledgers.{Ledger, empty_ledger}
use Rattle.avm_states.specs.Schemas.{no_entries}
use Rattle.avm_ledger.specs.Encodings.{ledger_digest}
use Rattle.avm_items.specs.declared.call_data.CallData.{CallData}
use Rattle.avm_call.specs.declared.outcome.Outcome.{Outcome}
use Rattle.avm_call.specs.WorkedPrograms.{plain_creation, zero_header}
use Rattle.avm_call.specs.WorkedCalls.{approving, ledger_after_calls}
use Rattle.avm_block.specs.declared.entry.Entry.{Entry}
use Rattle.avm_block.specs.Blocks.{Block}

-- a creation whose programs approve
abbrev pub creating_call : CallData
creating_call = plain_creation approving approving no_entries no_entries

-- the ledger after it, over the one without applications
abbrev pub ledger_after_creation : Ledger
ledger_after_creation = ledger_after_calls (creating_call ∷ [])

abbrev pub entry_of_creation : Outcome → Entry
entry_of_creation outcome = record { timestamp = 1; call = creating_call; outcome = outcome }

-- a block that says how the creation ends
abbrev pub block_of_creation : Outcome → Block
block_of_creation outcome = record { base = ledger_digest empty_ledger; header = zero_header profile.Two; entries = entry_of_creation outcome ∷ []; after = ledger_digest ledger_after_creation }

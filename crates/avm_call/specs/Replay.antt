-- Calls over ledgers, one after another.
use Rattle.std.specs.Prelude.{List, [], ◌∷◌}
use Rattle.avm_ledger.specs.declared.header.Header.{Header}
use Rattle.avm_ledger.specs.Ledgers.{Ledger}
use Rattle.avm_items.specs.declared.call_data.CallData.{CallData}
use Rattle.avm_items.specs.Items.{ItemMap}
use Rattle.avm_items.specs.Asks.{result_over}
use Rattle.avm_items.specs.LedgerItems.{at, put, pruned}
use Rattle.avm_call.specs.declared.outcome.Outcome.{Outcome}
use Rattle.avm_call.specs.Calls.{call_result}

-- how a call ends over a ledger, what it changes, and the ledger after
abbrev pub outcome_on : Ledger → CallData → Header → Outcome
outcome_on l call header = (result_over (at l) (call_result call header)).0

abbrev pub changes_on : Ledger → CallData → Header → ItemMap
changes_on l call header = pruned (at l) (result_over (at l) (call_result call header)).1

abbrev pub ledger_after : Ledger → CallData → Header → Ledger
ledger_after l call header = put l (changes_on l call header)

-- the outcomes of calls in order, and the ledger after the last
abbrev pub outcomes : Ledger → Header → List CallData → List Outcome
outcomes l header [] = []
outcomes l header (call ∷ calls) = outcome_on l call header ∷ outcomes (ledger_after l call header) header calls

abbrev pub replayed : Ledger → Header → List CallData → Ledger
replayed l header [] = l
replayed l header (call ∷ calls) = replayed (ledger_after l call header) header calls

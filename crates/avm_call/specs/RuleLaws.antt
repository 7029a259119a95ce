-- What calls that aren't approved do to a ledger.
use Rattle.std.specs.Prelude.{◌≡◌, ◌≢◌, ℕ, Bool, IsTrue, true, not, if◌then◌else◌, [], ◌∷◌}
use Rattle.avm_ledger.specs.declared.header.Header.{Header}
use Rattle.avm_ledger.specs.Ledgers.{Ledger}
use Rattle.avm_ledger.specs.LedgerRules.{KeepsRules}
use Rattle.avm_items.specs.declared.call_data.CallData.{CallData}
use Rattle.avm_items.specs.declared.item.Item.TheVariants as item
use Rattle.avm_items.specs.declared.item_value.ItemValue.TheVariants as value
use Rattle.avm_items.specs.CallFields.{creates, clears}
use Rattle.avm_items.specs.Items.{ItemMap, Look, next_id_in}
use Rattle.avm_items.specs.LedgerItems.{at}
use Rattle.avm_items.specs.Asks.{result_over}
use Rattle.avm_call.specs.declared.outcome.Outcome.{Outcome}
use Rattle.avm_call.specs.declared.outcome.Outcome.TheVariants as outcome
use Rattle.avm_call.specs.Calls.{sender_item, call_result}
use Rattle.avm_call.specs.Replay.{outcome_on, changes_on, ledger_after}

-- the application of a call: that of a creation has the next id
abbrev pub application_of : Look → CallData → ℕ
application_of look call = if creates call then next_id_in (look item.NextApp) else call.application

-- What a call writes that ends so, unless it is approved: one that clears, and was not refused, removes the sender's local
-- state of the call's application; any other writes nothing.
abbrev pub writes_unapproved : Look → CallData → Outcome → ItemMap
writes_unapproved look call (outcome.Refused w) = []
writes_unapproved look call _ = if clears call.completion then (sender_item call (application_of look call), value.Absent) ∷ [] else []

-- whether a call that clears, or one that doesn't, may end so
abbrev pub may_end_so : Bool → Outcome → Bool
may_end_so does_clear outcome.Rejected = not does_clear
may_end_so does_clear (outcome.Faulted f place) = not does_clear
may_end_so does_clear (outcome.ClearedAnyway c) = does_clear
may_end_so does_clear _ = true

-- A call that isn't approved writes this,
abbrev pub UnapprovedWritesLittle : Type 0
UnapprovedWritesLittle =
    (look : Look) (call : CallData) (header : Header)
    → let r = result_over look (call_result call header) in r.0 ≢ outcome.Approved → r.1 ≡ writes_unapproved look call r.0

-- where a call that clears is never rejected or faulted, and another never cleared anyway;
abbrev pub EndsByCompletion : Type 0
EndsByCompletion =
    (look : Look) (call : CallData) (header : Header) → IsTrue (may_end_so (clears call.completion) (result_over look (call_result call header)).0)

-- over a ledger these writes are the changes: a local state that is removed was there;
abbrev pub UnapprovedChangesLittle : Type 0
UnapprovedChangesLittle =
    (l : Ledger) (call : CallData) (header : Header) → outcome_on l call header ≢ outcome.Approved
    → changes_on l call header ≡ writes_unapproved (at l) call (outcome_on l call header)

-- and so the ledger keeps its rules.
abbrev pub UnapprovedKeepsRules : Type 0
UnapprovedKeepsRules =
    (l : Ledger) (call : CallData) (header : Header) → KeepsRules l → outcome_on l call header ≢ outcome.Approved → KeepsRules (ledger_after l call header)

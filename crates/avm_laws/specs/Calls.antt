-- What calls write, ask for and change, over ledgers in order whose next id is free. The statements of the laws.
use Rattle.std.specs.Prelude.{◌≡◌, ℕ, false, Some, Ok, Err, All, unwrap_or}
use Rattle.std.specs.List.{Contains}
use Rattle.avm_ledger.specs.declared.application.Application.{Application}
use Rattle.avm_ledger.specs.declared.header.Header.{Header}
use Rattle.avm_ledger.specs.Ledgers.{IsOrderly, Ledger}
use Rattle.avm_items.specs.declared.call_data.CallData.{CallData}
use Rattle.avm_items.specs.declared.item.Item.{Item}
use Rattle.avm_items.specs.declared.item_value.ItemValue.{ItemValue}
use Rattle.avm_items.specs.Items.{ItemMap, value_in, with_item}
use Rattle.avm_items.specs.LedgerItems.{at, put, is_of_gone, AgreesWithReads, AreChanges, pruned, value_before}
use Rattle.avm_items.specs.Asks.{result_over, items_asked, answer_from}
use Rattle.avm_call.specs.Runs.{path}
use Rattle.avm_call.specs.Calls.{CallResult, Target, admitted, prepared, execution, call_result}
use Rattle.avm_call.specs.AskedFor.{AreAskedFor}
use Rattle.avm_call.specs.Replay.{changes_on, ledger_after}

-- what a call has written after so many steps of its program, over a ledger
abbrev pub written_after : Ledger → CallData → Header → Target → Application → ℕ → ItemMap
written_after l call header t row steps = (result_over (at l) (path (execution call header t.id row) (prepared call t.id) steps)).0.writes

-- The ledger with a run's own writes has the value of each item that was written, and of any other the value of before. The
-- counts are among them, although a put sets keys alone: those that are written are the counts of the keys.
abbrev pub HasWhatWasWritten : Type 0
HasWhatWasWritten =
    (l : Ledger) (call : CallData) (header : Header) (t : Target) (row : Application) (steps : ℕ) → IsOrderly l → result_over (at l) (admitted call) ≡ Ok t → t.row ≡ Some row
    → let w = written_after l call header t row steps in (x : Item) → at (put l w) x ≡ unwrap_or (value_in w x) (at l x)

-- A call asks for no key and no counts of an application that is gone.
abbrev pub AsksForNoneGone : Type 0
AsksForNoneGone = (l : Ledger) (call : CallData) (header : Header) → IsOrderly l → All (λ x. is_of_gone l x ≡ false) (items_asked (at l) (call_result call header))

-- What a call hands on, its writes without those that change nothing, are the changes from the ledger before it to the
-- ledger after it,
abbrev pub HandsOnItsChanges : Type 0
HandsOnItsChanges = (l : Ledger) (call : CallData) (header : Header) → IsOrderly l → AreChanges l (ledger_after l call header) (changes_on l call header)

-- which is the ledger with all its writes.
abbrev pub LosesNoWrite : Type 0
LosesNoWrite = (l : Ledger) (call : CallData) (header : Header) → IsOrderly l → ledger_after l call header ≡ put l (result_over (at l) (call_result call header)).1

-- ---- over what was read

-- What was asked for stays so with the answer to the first question that is left.
abbrev pub IsAskedForAnswers : Type 0
IsAskedForAnswers =
    (reads : ItemMap) (call : CallData) (header : Header) (x : Item) (v : ItemValue) → AreAskedFor reads call header → answer_from (value_in reads) (call_result call header) ≡ Err x
    → AreAskedFor (with_item reads x v) call header

-- An item that is asked for over what was read is used on each ledger that has what was read, where the keys and the counts
-- of an application that is gone may have been read as anything.
abbrev pub CallsAskForWhatIsUsed : Type 0
CallsAskForWhatIsUsed =
    (l : Ledger) (reads : ItemMap) (call : CallData) (header : Header) (x : Item) → IsOrderly l → AgreesWithReads l reads → answer_from (value_in reads) (call_result call header) ≡ Err x
    → Contains (items_asked (at l) (call_result call header)) x

-- A call that has ended over what it read ends so over each such ledger,
abbrev pub EndsAlike : Type 0
EndsAlike =
    (l : Ledger) (reads : ItemMap) (call : CallData) (header : Header) (r : CallResult) → IsOrderly l → AgreesWithReads l reads → answer_from (value_in reads) (call_result call header) ≡ Ok r
    → result_over (at l) (call_result call header) ≡ r

-- and its writes without those that leave what was read are the changes there.
abbrev pub ChangesWhatItRead : Type 0
ChangesWhatItRead =
    (l : Ledger) (reads : ItemMap) (call : CallData) (header : Header) (r : CallResult) → IsOrderly l → AgreesWithReads l reads → AreAskedFor reads call header → answer_from (value_in reads) (call_result call header) ≡ Ok r
    → pruned (value_before (value_in reads)) r.1 ≡ changes_on l call header

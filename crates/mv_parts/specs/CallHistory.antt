-- Calls as the order theorem sees them: the meaning of each by its number, over any look-up of items.
use Rattle.std.specs.Prelude.{Bool, List, [], ◌∷◌, Option, None, Some}
use Rattle.std.specs.Ordering.{is_eq}
use Rattle.avm_ledger.specs.declared.header.Header.{Header}
use Rattle.avm_items.specs.declared.call_data.CallData.{CallData}
use Rattle.avm_items.specs.declared.item.Item.{Item}
use Rattle.avm_items.specs.declared.item_value.ItemValue.{ItemValue}
use Rattle.avm_items.specs.Items.{Look, item_cmp}
use Rattle.avm_items.specs.LedgerItems.{pruned}
use Rattle.avm_items.specs.Asks.{result_over}
use Rattle.avm_call.specs.declared.outcome.Outcome.{Outcome}
use Rattle.avm_call.specs.declared.outcome.Outcome.TheVariants as outcome
use Rattle.avm_call.specs.Calls.{CallResult, call_result}
use Rattle.mv_history.specs.History.{Entry, CallMeaning}
use Rattle.mv_history.specs.World.{Attempt, Event, World}
use Rattle.mv_parts.specs.CallNumbers.{call_of}

-- the test of items
abbrev pub same_item : Item → Item → Bool
same_item x y = is_eq (item_cmp x y)

-- how a call ends over a look-up, and what it changes there
abbrev pub result_in : Header → Look → Option CallData → CallResult
result_in header look None = (outcome.Rejected, [])
result_in header look (Some call) = ((result_over look (call_result call header)).0, pruned look (result_over look (call_result call header)).1)

-- the meaning of calls by their numbers
abbrev pub meaning_of : Header → List CallData → CallMeaning Item ItemValue Outcome
meaning_of header calls number look = result_in header look (call_of calls number)

-- an entry of a history of calls
abbrev pub CallEntry : Type 0
CallEntry = Entry Item ItemValue Outcome

abbrev pub CallAttempt : Type 0
CallAttempt = Attempt Item ItemValue

abbrev pub CallWorld : Type 0
CallWorld = World Item ItemValue Outcome

abbrev pub CallEvent : Type 0
CallEvent = Event Item ItemValue Outcome

-- the calls of the entries, in their order
abbrev pub with_call : Option CallData → List CallData → List CallData
with_call None made = made
with_call (Some call) made = call ∷ made

abbrev pub calls_made : List CallData → List CallEntry → List CallData
calls_made calls [] = []
calls_made calls (e ∷ es) = with_call (call_of calls e.number) (calls_made calls es)

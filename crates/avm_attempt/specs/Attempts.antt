-- What a call comes to over items that are known.
use Rattle.std.specs.Prelude.{◌≡◌, Option, Some, None, Err}
use Rattle.avm_ledger.specs.declared.header.Header.{Header}
use Rattle.avm_ledger.specs.Ledgers.{IsOrderly, Ledger}
use Rattle.avm_items.specs.declared.call_data.CallData.{CallData}
use Rattle.avm_items.specs.declared.item.Item.{Item}
use Rattle.avm_items.specs.Items.{ItemMap, value_in}
use Rattle.avm_items.specs.Asks.{answer_from}
use Rattle.avm_items.specs.LedgerItems.{AgreesWithReads}
use Rattle.avm_items.specs.Locality.{Extends}
use Rattle.avm_call.specs.Calls.{call_result}
use Rattle.avm_run.specs.declared.call_run.Advance.{Advance}
use Rattle.avm_run.specs.declared.call_run.Advance.TheVariants as advance
use Rattle.avm_run.specs.FinishedCalls.{IsCallOn}
use Rattle.avm_run.specs.Results.{CallRecord}
use Rattle.avm_run.specs.RunState.{Progress}

-- x is the first item that the definition of the call looks at and that isn't known
pub record AsksFirst (call : CallData) (header : Header) (known : ItemMap) (x : Item) : Type 0 where
  pub unknown : value_in known x ≡ None
  pub first : answer_from (value_in known) (call_result call header) ≡ Err x

-- The call has ended, over some of the known items. So it ends, with these changes, on every ledger that has the known items;
-- keys and counts of an application that is gone there may be known as anything.
pub record EndsOver (call : CallData) (header : Header) (known : ItemMap) (f : CallRecord) : Type 0 where
  pub same_call : f.call ≡ call
  pub same_header : f.header ≡ header
  pub reads : Extends (value_in f.reads) (value_in known)
  pub on_ledgers : (l : Ledger) → IsOrderly l → AgreesWithReads l known → IsCallOn l f

abbrev pub IsAttempt : CallData → Header → ItemMap → Advance → Type 0
IsAttempt call header known (advance.Need x) = AsksFirst call header known x
IsAttempt call header known (advance.Done f) = EndsOver call header known f

-- ---- a run on its way

abbrev pub MayGoOn : Option Progress → Type 0
MayGoOn (Some p) = Unit {0}
MayGoOn None = ⊥

abbrev pub HasAskedFor : Item → Option Progress → Type 0
HasAskedFor x (Some p) = p.asked ≡ Some x
HasAskedFor x None = ⊥

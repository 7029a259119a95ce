-- Ledgers in order whose next id is free, which is all that the laws of what calls write, ask for and change rest on; and
-- that every call keeps that, whatever it is. The statements of the laws.
use Rattle.std.specs.Prelude.{◌≡◌, ℕ, ◌<◌, ◌≤◌, None, List}
use Rattle.avm_ledger.specs.declared.header.Header.{Header}
use Rattle.avm_ledger.specs.Ledgers.{IsInOrder, IsOrderly, Ledger, application_at}
use Rattle.avm_ledger.specs.LedgerRules.{KeepsRules}
use Rattle.avm_items.specs.declared.call_data.CallData.{CallData}
use Rattle.avm_call.specs.Replay.{ledger_after, replayed}

-- A ledger that keeps the rules is orderly.
abbrev pub RulesMakeOrderly : Type 0
RulesMakeOrderly = (l : Ledger) → KeepsRules l → IsOrderly l

-- A ledger that calls lead to from l: it is in order, the next id has not sunk and is free, and no application that was
-- deleted has come back.
pub record IsLaterLedger (l m : Ledger) : Type 0 where
  pub order : IsInOrder m
  pub rises : l.next_id ≤ m.next_id
  pub gone : (id : ℕ) → id < l.next_id → application_at l id ≡ None → application_at m id ≡ None
  pub below : (id : ℕ) → m.next_id ≤ id → application_at m id ≡ None

-- Every call leads to one,
abbrev pub EveryCallKeepsOrder : Type 0
EveryCallKeepsOrder = (l : Ledger) (call : CallData) (header : Header) → IsOrderly l → IsLaterLedger l (ledger_after l call header)

-- and so does every list of calls, one after another.
abbrev pub ReplaysKeepOrder : Type 0
ReplaysKeepOrder = (l : Ledger) (header : Header) (calls : List CallData) → IsOrderly l → IsLaterLedger l (replayed l header calls)

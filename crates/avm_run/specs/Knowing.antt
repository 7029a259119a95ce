-- What a run knows of an item, against the ledger that it is supplied from.
use Rattle.std.specs.Prelude.{◌≡◌, ℕ, Option, Some, None, Ok}
use Rattle.std.specs.Option.{IfSome}
use Rattle.avm_ledger.specs.declared.application.Application.{Application}
use Rattle.avm_ledger.specs.declared.header.Header.{Header}
use Rattle.avm_ledger.specs.Ledgers.{IsOrderly, Ledger}
use Rattle.avm_items.specs.declared.call_data.CallData.{CallData}
use Rattle.avm_items.specs.declared.item.Item.{Item}
use Rattle.avm_items.specs.declared.item_value.ItemValue.{ItemValue}
use Rattle.avm_items.specs.Items.{ItemMap, value_in}
use Rattle.avm_items.specs.Asks.{answer_from}
use Rattle.avm_items.specs.Environments.{Environment, known_to}
use Rattle.avm_items.specs.LedgerItems.{at, put, AgreesWithReads}
use Rattle.avm_call.specs.Runs.{Position}
use Rattle.avm_call.specs.Calls.{admitted}
use Rattle.avm_laws.specs.KnownValues.{MayBeLookedAt}
use Rattle.avm_run.specs.Progress.{PathIs}
use Rattle.avm_run.specs.RunState.{Progress}

abbrev pub environment : CallData → Header → ItemMap → ℕ → ItemMap → Environment
environment call header reads id writes = record { call = call; header = header; current = id; reads = reads; writes = writes }

-- On every ledger in order that has what was read, the item has this value, once the writes are put. A key or counts have it where the
-- row of their application is known, and present.
abbrev pub IsValueOnLedgers : Environment → Item → ItemValue → Type 0
IsValueOnLedgers e x v = (l : Ledger) → IsOrderly l → AgreesWithReads l e.reads → MayBeLookedAt (known_to e) x → at (put l e.writes) x ≡ v

-- After so many steps over the items supplied the path of the call's program has come to a position: of the item is known what its writes,
-- the application that it makes and the items supplied say, and this is the ledger's value with the writes.
pub record KnowsAt (call : CallData) (header : Header) (reads : ItemMap) (steps : ℕ) (x : Item) (known : Option ItemValue) : Type 0 where
  pub id : ℕ
  pub row : Application
  pub admits : answer_from (value_in reads) (admitted call) ≡ Ok (Ok (record { id = id; row = Some row }))
  pub position : Position
  pub comes : PathIs call header reads steps (Ok (Some (position, None)))
  pub value : known ≡ known_to (environment call header reads id position.writes) x
  pub on_ledgers : IfSome known (IsValueOnLedgers (environment call header reads id position.writes) x)

-- a run knows of an item in its program
abbrev pub KnowsIn : CallData → Header → ItemMap → Option ℕ → Item → Option ItemValue → Type 0
KnowsIn call header reads (Some n) x known = KnowsAt call header reads n x known
KnowsIn call header reads None x known = known ≡ None

-- by its progress; nothing where it is spent
abbrev pub Knows : Option Progress → Item → Option ItemValue → Type 0
Knows (Some p) x known = KnowsIn p.call p.header p.reads p.steps x known
Knows None x known = known ≡ None

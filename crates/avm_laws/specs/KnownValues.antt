-- That what a run knows of an item is the ledger's value. The statement of the law.
use Rattle.std.specs.Prelude.{◌≡◌, ℕ, Option, Some, Ok}
use Rattle.avm_ledger.specs.declared.application.Application.{Application}
use Rattle.avm_ledger.specs.Ledgers.{IsOrderly, Ledger}
use Rattle.avm_items.specs.declared.item.Item.{Item}
use Rattle.avm_items.specs.declared.item.Item.TheVariants as item
use Rattle.avm_items.specs.declared.item_value.ItemValue.{ItemValue}
use Rattle.avm_items.specs.declared.item_value.ItemValue.TheVariants as value
use Rattle.avm_items.specs.Items.{Known, value_in}
use Rattle.avm_items.specs.Environments.{Environment, known_to}
use Rattle.avm_items.specs.LedgerItems.{at, put, AgreesWithReads}
use Rattle.avm_items.specs.Asks.{answer_from}
use Rattle.avm_call.specs.declared.outcome.Ended.{Ended}
use Rattle.avm_call.specs.Runs.{Position, path}
use Rattle.avm_call.specs.Calls.{admitted, prepared, execution}

-- What a run knows: over the items read, the call is admitted to a program, and the path of the program has come to a position
-- with these writes.
pub record IsOfRun (e : Environment) : Type 0 where
  pub row : Application
  pub steps : ℕ
  pub reached : Position × Option Ended
  pub admits : answer_from (value_in e.reads) (admitted e.call) ≡ Ok (Ok (record { id = e.current; row = Some row }))
  pub comes : answer_from (value_in e.reads) (path (execution e.call e.header e.current row) (prepared e.call e.current) steps) ≡ Ok reached
  pub writes : e.writes ≡ reached.0.writes

-- the application's row is known, and present
abbrev pub KnowsRow : Known → ℕ → Type 0
KnowsRow known id = (row : Application) × (known (item.App id) ≡ Some (value.App row))

-- a key or counts only of an application whose row is known, and present
abbrev pub MayBeLookedAt : Known → Item → Type 0
MayBeLookedAt known (item.Counts id) = KnowsRow known id
MayBeLookedAt known (item.Key id key) = KnowsRow known id
MayBeLookedAt known _ = Unit {0}

-- What a run knows of an item is its value in the ledger with the run's own writes, on every ledger in order that has what was
-- read, where the keys and the counts of an application that is gone may have been read as anything.
abbrev pub KnowsTheLedger : Type 0
KnowsTheLedger =
    (l : Ledger) (e : Environment) (x : Item) (v : ItemValue) → IsOrderly l → AgreesWithReads l e.reads → IsOfRun e → known_to e x ≡ Some v → MayBeLookedAt (known_to e) x
    → at (put l e.writes) x ≡ v

-- Which look-ups are a ledger's, as those of a store of versions are: what a deleted application leaves there may stay.
use Rattle.std.specs.Prelude.{◌≡◌, false, Bool, ◌&&◌, nat_lt}
use Rattle.avm_ledger.specs.declared.header.Header.{Header}
use Rattle.avm_ledger.specs.Ledgers.{IsOrderly, Ledger}
use Rattle.avm_items.specs.declared.call_data.CallData.{CallData}
use Rattle.avm_items.specs.declared.item.Item.{Item}
use Rattle.avm_items.specs.declared.item.Item.TheVariants as item
use Rattle.avm_items.specs.Items.{Look}
use Rattle.avm_items.specs.LedgerItems.{at, is_of_gone}
use Rattle.avm_items.specs.Asks.{result_over}
use Rattle.avm_call.specs.Calls.{call_result}

-- the id of an application that was given to one
abbrev pub was_given : Ledger → Item → Bool
was_given l (item.Counts id) = nat_lt id l.next_id
was_given l (item.Key id key) = nat_lt id l.next_id
was_given l _ = false

-- a key or the counts of an application that was deleted
abbrev pub is_of_deleted : Ledger → Item → Bool
is_of_deleted l x = is_of_gone l x && was_given l x

-- It has the ledger's value of each item, but for keys and counts of applications that were deleted.
pub record IsLookOf (l : Ledger) (look : Look) : Type 0 where
  pub orderly : IsOrderly l
  pub same : (x : Item) → is_of_deleted l x ≡ false → look x ≡ at l x

-- a look-up that is some ledger's
abbrev pub IsOfLedger : Look → Type 0
IsOfLedger look = (l : Ledger) × IsLookOf l look

-- The ledger's own look-up is one,
abbrev pub LedgersAreLooks : Type 0
LedgersAreLooks = (l : Ledger) → IsOrderly l → IsLookOf l (at l)

-- and a call over each is the call over the ledger.
abbrev pub CallsAreTheLedgers : Type 0
CallsAreTheLedgers =
    (l : Ledger) (look : Look) (call : CallData) (header : Header) → IsLookOf l look → result_over look (call_result call header) ≡ result_over (at l) (call_result call header)

-- Which items a call has asked for, over those that it was given.
use Rattle.std.specs.Prelude.{◌≡◌, List, [], ◌∷◌, Option, Some, None}
use Rattle.std.specs.List.{Contains}
use Rattle.avm_ledger.specs.declared.header.Header.{Header}
use Rattle.avm_items.specs.declared.call_data.CallData.{CallData}
use Rattle.avm_items.specs.declared.item.Item.{Item}
use Rattle.avm_items.specs.declared.item_value.ItemValue.{ItemValue}
use Rattle.avm_items.specs.Items.{ItemMap, Known, value_in}
use Rattle.avm_items.specs.Asks.{Ask, Gives, Asks}
use Rattle.avm_call.specs.Calls.{call_result}

-- the items that are asked for in order, up to the first that isn't known
abbrev pub asked_at : Item → (ItemValue → List Item) → Option ItemValue → List Item
asked_at x rest (Some v) = x ∷ rest v
asked_at x rest None = []

abbrev pub asked_while_known : {A : Type 0} → Known → Ask A → List Item
asked_while_known known (Gives a) = []
asked_while_known known (Asks x k) = asked_at x (λ v. asked_while_known known (k v)) (known x)

-- the call asks for each of these items where it has those before it
abbrev pub AreAskedFor : ItemMap → CallData → Header → Type 0
AreAskedFor reads call header = (x : Item) (v : ItemValue) → value_in reads x ≡ Some v → Contains (asked_while_known (value_in reads) (call_result call header)) x

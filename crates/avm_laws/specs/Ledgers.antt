-- What putting many items into a ledger gives. The statement of the law.
use Rattle.std.specs.Prelude.{◌≡◌, false, List, [], ◌∷◌}
use Rattle.std.specs.Ordering.{is_eq}
use Rattle.std.specs.List.{AllByRecursion}
use Rattle.std.specs.Map.{keys_of}
use Rattle.avm_ledger.specs.Ledgers.{Ledger, IsInOrder}
use Rattle.avm_items.specs.declared.item.Item.{Item}
use Rattle.avm_items.specs.declared.item_value.ItemValue.{ItemValue}
use Rattle.avm_items.specs.Items.{ItemMap, IsInItemOrder, item_cmp, value_in}
use Rattle.avm_items.specs.LedgerItems.{put, AreChanges}
use Rattle.avm_items.specs.PutLaws.{MayPutAll}

-- The changes between two ledgers, put into the first, give the second.
abbrev pub PutsChanges : Type 0
PutsChanges = (before after : Ledger) (changes : ItemMap) → IsInOrder before → IsInOrder after → IsInItemOrder changes → AreChanges before after changes → put before changes ≡ after

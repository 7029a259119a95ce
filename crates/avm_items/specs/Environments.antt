-- What a call knows while its program runs.
use Rattle.std.specs.Prelude.{ℕ, Option, Some}
use Rattle.avm_states.specs.Entries.{Entries}
use Rattle.avm_ledger.specs.declared.header.Header.{Header}
use Rattle.avm_items.specs.declared.call_data.CallData.{CallData}
use Rattle.avm_items.specs.CallFields.{new_keys}
use Rattle.avm_items.specs.Items.{ItemMap, Known, value_in, over, with_item}
use Rattle.avm_items.specs.declared.item.Item.{Item}
use Rattle.avm_items.specs.declared.item_value.ItemValue.{ItemValue}
use Rattle.avm_items.specs.declared.item_value.ItemValue.TheVariants as value

-- the call, the block's header, the application that runs, and the items read and written so far
pub record Environment : Type 0 where
  pub call : CallData
  pub header : Header
  pub current : ℕ
  pub reads : ItemMap
  pub writes : ItemMap

-- What is known of the items: the call's own writes, then that the keys of a new application are absent, then its reads.
abbrev pub known_to : Environment → Known
known_to e = over (over (value_in e.writes) (new_keys e.call e.current)) (value_in e.reads)

-- what a call knows once it has written a change of the local state that is the item's value; the same where none is
abbrev pub with_state_written : (Entries → Entries) → Environment → Item → Option ItemValue → Environment
with_state_written change e x (Some (value.Local state)) = record e { writes = with_item e.writes x (value.Local (change state)) }
with_state_written change e x _ = e

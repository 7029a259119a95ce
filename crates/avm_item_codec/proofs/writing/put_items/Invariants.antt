use Rattle.std.proofs.Common.{◌≡◌, ◌++◌, drop}
use Rattle.std.specs.List.{flat_map}
use Rattle.avm_item_codec.specs.ItemEncoding.{item_entry_bytes, items_bytes}
use Rattle.avm_item_codec.proofs.writing.put_items.Given as goal

-- what is written, and the items that are left, are all of them
abbrev pub invariant-loop-entry : goal.invariant-loop-entry
invariant-loop-entry l = l.bytes.items ++ flat_map item_entry_bytes (drop l.entry-index l.items) ≡ l.fn.bytes.items ++ items_bytes l.items

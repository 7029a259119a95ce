use Rattle.std.proofs.Common.{◌≡◌, ◌++◌, drop}
use Rattle.std.specs.List.{flat_map}
use Rattle.avm_block.specs.BlockEncoding.{block_entry_bytes}
use Rattle.avm_block.proofs.front.put_entries.Given as goal

-- what is written, and the entries that are left, are all of them
abbrev pub invariant-loop-entry : goal.invariant-loop-entry
invariant-loop-entry l = l.bytes.items ++ flat_map block_entry_bytes (drop l.entry-index l.entries) ≡ l.fn.bytes.items ++ flat_map block_entry_bytes l.entries

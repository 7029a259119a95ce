use Rattle.std.proofs.Common.{◌≡◌, ◌++◌, drop, map}
use Rattle.json.specs.Tree.{items_tokens, json_tokens}
use Rattle.json_views.specs.Documents.{array_of, items_of}
use Rattle.json_views.specs.ShownBlocks.{shown_block_entry}
use Rattle.json_views.proofs.block.put_entries.Given as goal

-- what is written, and the entries that are left, are the array
abbrev pub invariant-loop-entry : goal.invariant-loop-entry
invariant-loop-entry l = l.out ++ items_tokens (items_of (map shown_block_entry (drop l.entry-index l.entries))) ≡ l.fn.out ++ json_tokens (array_of shown_block_entry l.entries)

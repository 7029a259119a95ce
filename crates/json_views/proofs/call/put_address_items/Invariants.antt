use Rattle.std.proofs.Common.{◌≡◌, ◌++◌, drop, map}
use Rattle.json.specs.Tree.{items_tokens, json_tokens}
use Rattle.json_views.specs.Documents.{address, array_of, items_of}
use Rattle.json_views.proofs.call.put_address_items.Given as goal

-- what is written, and the items that are left, are the array
abbrev pub invariant-loop-who : goal.invariant-loop-who
invariant-loop-who l = l.out ++ items_tokens (items_of (map address (drop l.who-index l.addresses))) ≡ l.fn.out ++ json_tokens (array_of address l.addresses)

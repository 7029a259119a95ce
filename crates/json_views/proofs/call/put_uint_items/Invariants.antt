use Rattle.std.proofs.Common.{◌≡◌, ◌++◌, drop, map}
use Rattle.json.specs.Tree.{items_tokens, json_tokens}
use Rattle.json_views.specs.Documents.{uint, array_of, items_of}
use Rattle.json_views.proofs.call.put_uint_items.Given as goal

-- what is written, and the items that are left, are the array
abbrev pub invariant-loop-number : goal.invariant-loop-number
invariant-loop-number l = l.out ++ items_tokens (items_of (map uint (drop l.number-index l.numbers))) ≡ l.fn.out ++ json_tokens (array_of uint l.numbers)

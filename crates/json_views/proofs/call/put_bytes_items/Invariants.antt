use Rattle.std.proofs.Common.{◌≡◌, ◌++◌, drop, map}
use Rattle.json.specs.Tree.{items_tokens, json_tokens}
use Rattle.json_views.specs.Documents.{base64, array_of, items_of}
use Rattle.json_views.proofs.call.put_bytes_items.Given as goal

-- what is written, and the items that are left, are the array
abbrev pub invariant-loop-string : goal.invariant-loop-string
invariant-loop-string l = l.out ++ items_tokens (items_of (map base64 (drop l.string-index l.strings))) ≡ l.fn.out ++ json_tokens (array_of base64 l.strings)

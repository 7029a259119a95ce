use Rattle.std.proofs.Common.{◌≡◌, drop}
use Rattle.json.specs.Value.{items_view}
use Rattle.json_documents.specs.Placeholders.{any_item, is_uint}
use Rattle.json_documents.proofs.placeholders.any_uint.Given as goal

-- the number is among those that are left where it is among all
abbrev pub invariant-items : goal.invariant-items
invariant-items l = any_item (is_uint l.number) (items_view (drop l.item-index l.items)) ≡ any_item (is_uint l.number) (items_view l.items)

use Rattle.std.proofs.Common.{◌≡◌, codes, drop}
use Rattle.json.specs.Value.{items_view}
use Rattle.json_documents.specs.Placeholders.{any_item, has, names_placeholder}
use Rattle.json_documents.proofs.placeholders.any_name.Given as goal

-- those that are left have a name of the placeholder where all have it
abbrev pub invariant-txns : goal.invariant-txns
invariant-txns l = any_item (has (codes "txn") names_placeholder) (items_view (drop l.signed-index l.txns)) ≡ any_item (has (codes "txn") names_placeholder) (items_view l.txns)

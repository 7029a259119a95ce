use Rattle.std.proofs.Common.{◌≡◌, codes, drop}
use Rattle.json.specs.Value.{items_view}
use Rattle.json_documents.specs.Placeholders.{any_item, has, is_creation}
use Rattle.json_documents.proofs.placeholders.any_creation.Given as goal

-- those that are left have a creation where all have it
abbrev pub invariant-txns : goal.invariant-txns
invariant-txns l = any_item (has (codes "txn") is_creation) (items_view (drop l.signed-index l.txns)) ≡ any_item (has (codes "txn") is_creation) (items_view l.txns)

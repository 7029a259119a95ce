use Rattle.std.proofs.Common.{◌≡◌, drop}
use Rattle.json.specs.Value.{items_view}
use Rattle.json_documents.specs.Arrays.{gathered}
use Rattle.json_documents.proofs.arrays.gather_items.Given as goal

-- what is gathered so far goes on to all that is meant
abbrev pub invariant-items : goal.invariant-items
invariant-items g l =
    gathered (g.G.Gather.adding l.gatherer) l.index l.so_far (items_view (drop l.index l.items)) ≡ gathered (g.G.Gather.adding l.gatherer) 0 l.fn.start (items_view l.items)

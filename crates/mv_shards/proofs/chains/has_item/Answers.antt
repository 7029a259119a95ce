use Rattle.std.proofs.Common.{◌≡◌, ◌∙◌, false, length, nat_lt, sym, arith}
use Rattle.mv_shards.proofs.NotedNumbers.{of_beyond, of_here}
use Rattle.mv_shards.proofs.chains.has_item.Goals as goal

pub returns-then-number-list : goal.returns-then-number-list
returns-then-number-list c = c.is_item.ensures ∙ sym (of_here c.args.list.now c.args.number c.args.item.now c.index-list-number.result c.if-number-list.true)

pub returns-else-number-list : goal.returns-else-number-list
returns-else-number-list c =
    let beyond : nat_lt c.args.number (length c.args.list.now) ≡ false = grind (arith, c.if-number-list.false) in
    beyond ∙ sym (of_beyond c.args.list.now c.args.number c.args.item.now c.if-number-list.false)

use Rattle.std.proofs.Common.{◌∙◌, ap, sym}
use Rattle.mv_shards.specs.KeptChains.{is_of}
use Rattle.mv_shards.proofs.NotedNumbers.{of_numbered}
use Rattle.mv_shards.proofs.chains.Chains.noted.Goals as goal

pub returns-then-has_item : goal.returns-then-has_item
returns-then-has_item c =
    rw (← c.self.view_is) (of_numbered c.self.inside.list.items c.noted_in-number.result c.args.item.now c.self.invariant.0.once (ap (λ m. is_of m c.noted_in-number.result c.args.item.now) (sym c.deref.ensures.value) ∙ sym c.has_item.ensures ∙ c.if-has_item.true))

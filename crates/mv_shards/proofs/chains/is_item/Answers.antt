use Rattle.std.proofs.Common.{◌∙◌}
use Rattle.std.specs.Cmp.Lexicographic.{texts_ties}
use Rattle.avm_items.specs.Items.{sort_key}
use Rattle.mv_shards.proofs.chains.is_item.Goals as goal

pub returns : goal.returns
returns c = c.eq.ensures ∙ texts_ties (sort_key c.args.item.now) (sort_key c.args.other.now)

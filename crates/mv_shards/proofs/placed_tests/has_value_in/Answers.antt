use Rattle.std.proofs.Common.{◌∙◌, sym, ap}
use Rattle.avm_items.specs.SameValues.{is_same_value}
use Rattle.mv_chain.specs.Versions.{newest_at}
use Rattle.mv_shards.specs.KeptChains.{list_or}
use Rattle.mv_shards.proofs.Numbers.{number_within}
use Rattle.mv_shards.proofs.OneChain.{readable_chain}
use Rattle.mv_shards.proofs.placed_tests.has_value_in.Goals as goal

pub at-requires : goal.at-requires
at-requires c = number_within c.args.chains.now c.requires.item c.args.number (sym c.requires.numbered)

pub read_at-requires : goal.read_at-requires
read_at-requires c = readable_chain c.args.timestamp c.args.chains.now c.requires.item c.at.result.now (c.at.ensures c.requires.item c.requires.numbered) c.requires.readable

pub returns : goal.returns
returns c item number first d =
    c.is_same.ensures.test
    ∙ ap (λ v. is_same_value v c.args.value.now)
    (c.read_at.ensures d ∙ ap (λ chain. (newest_at c.args.timestamp (list_or (first item) chain) d).value) (sym (c.at.ensures item number)))

use Rattle.std.proofs.Common.{◌∙◌, sym, ap}
use Rattle.mv_chain.specs.Versions.{lateness, newest_at}
use Rattle.mv_shards.specs.KeptChains.{list_or}
use Rattle.mv_shards.proofs.Numbers.{number_within}
use Rattle.mv_shards.proofs.OneChain.{readable_chain}
use Rattle.mv_shards.proofs.placed_tests.late_in.Goals as goal

pub at-requires : goal.at-requires
at-requires c = number_within c.args.chains.now c.requires.item c.args.number (sym c.requires.numbered)

pub late-requires : goal.late-requires
late-requires c = readable_chain c.args.timestamp c.args.chains.now c.requires.item c.at.result.now (c.at.ensures c.requires.item c.requires.numbered) c.requires.readable

pub returns : goal.returns
returns c item number first d =
    c.late.ensures d ∙ ap (λ chain. lateness c.args.timestamp (newest_at c.args.timestamp (list_or (first item) chain) d)) (sym (c.at.ensures item number))

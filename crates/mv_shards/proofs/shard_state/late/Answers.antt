use Rattle.std.proofs.Common.{◌∙◌, sym, ap}
use Rattle.mv_chain.specs.Versions.{lateness, newest_at}
use Rattle.mv_shards.proofs.StateReads.{chain_goes_back, chain_held, first_not_late, none_held}
use Rattle.mv_shards.proofs.shard_state.late.Goals as goal

pub late-requires : goal.late-requires
late-requires c = chain_goes_back c.args.part.now c.args.item.now c.in-Some.chain.now c.args.timestamp c.requires.part c.requires.low c.in-Some.ensures

pub returns-in-Some : goal.returns-in-Some
returns-in-Some c d =
    c.late.ensures d ∙ ap (λ vs. lateness c.args.timestamp (newest_at c.args.timestamp vs d)) (sym (chain_held c.args.part.now c.args.item.now c.in-Some.chain.now c.requires.part c.in-Some.ensures))

pub returns-in-None : goal.returns-in-None
returns-in-None c d =
    first_not_late c.args.timestamp _ d ∙ ap (λ vs. lateness c.args.timestamp (newest_at c.args.timestamp vs d)) (sym (none_held c.args.part.now c.args.item.now c.requires.part c.in-None.ensures))

use Rattle.std.proofs.Common.{◌∙◌, sym, ap}
use Rattle.std.specs.Prelude.{length}
use Rattle.mv_shards.proofs.StateReads.{chain_held, none_held}
use Rattle.mv_shards.proofs.shard_state.version_count.Goals as goal

pub returns-in-Some : goal.returns-in-Some
returns-in-Some c =
    c.count.ensures.count ∙ ap length (sym (chain_held c.args.part.now c.args.item.now c.in-Some.chain.now c.requires c.in-Some.ensures))

pub returns-in-None : goal.returns-in-None
returns-in-None c = ap length (sym (none_held c.args.part.now c.args.item.now c.requires c.in-None.ensures))

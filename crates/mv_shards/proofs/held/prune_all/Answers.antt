use Rattle.std.proofs.Common.{arith}
use Rattle.mv_shards.proofs.SeenPrunes.{pruned_all}
use Rattle.mv_shards.proofs.held.prune_all.Goals as goal

pub returns-clause-pruned : goal.returns-clause-pruned
returns-clause-pruned c = pruned_all c.args.timestamp c.loop-index.index c.args.parts.now c.loop-index.parts c.requires c.loop-index.invariant.0 (omega (arith, c.loop-index-test.false)) c.loop-index.invariant.1

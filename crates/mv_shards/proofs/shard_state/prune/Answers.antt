use Rattle.std.proofs.Common.{◌≤◌, refl, arith}
use Rattle.std.specs.Arc.{arc_value}
use Rattle.avm_items.specs.LedgerItems.{at}
use Rattle.mv_shards.proofs.SeenPrunes.{pruned_seen}
use Rattle.mv_shards.proofs.shard_state.prune.Goals as goal

pub returns-then-part-timestamp-clause-kept : goal.returns-then-part-timestamp-clause-kept
returns-then-part-timestamp-clause-kept c =
    let below : c.args.part.now.low ≤ c.args.timestamp = omega (arith, c.if-part-timestamp.true) in
    record { within = c.requires.within; chains = c.prune.ensures.kept (at (arc_value c.args.part.now.base)) c.args.part.now.low below c.requires.chains }

pub returns-then-part-timestamp-clause-pruned : goal.returns-then-part-timestamp-clause-pruned
returns-then-part-timestamp-clause-pruned c =
    pruned_seen c.args.timestamp c.args.part.now (record c.args.part.now { low = c.args.timestamp; chains = c.prune.new.self }) c.if-part-timestamp.true refl refl refl c.requires (returns-then-part-timestamp-clause-kept c) c.prune.ensures.versions

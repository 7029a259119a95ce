use Rattle.std.proofs.Common.{leb, rules}
use Rattle.std.proofs.lemmas.List.Sorted.{IsPartitionPoint-from_clause, IsPartitionedBy-leb}
use Rattle.mv_parts.proofs.EntryIndexes.{count_not_above-partition, rising-non_decreasing}
use Rattle.mv_parts.proofs.committing.first_above.Goals as goal

pub returns : goal.returns
returns c =
    let partitioned = IsPartitionedBy-leb (λ entry. entry.timestamp) _ c.args.timestamp (rising-non_decreasing 0 c.args.entries.now c.requires) in
    count_not_above-partition c.args.timestamp c.partition_point.result c.args.entries.now c.partition_point.ensures.bound
    (IsPartitionPoint-from_clause (λ entry. leb entry.timestamp c.args.timestamp) _ _ c.partition_point.ensures.partitioned partitioned (λ a r q k. search rules))

use Rattle.std.proofs.Common.{leb, rules}
use Rattle.std.proofs.lemmas.List.Sorted.{IsPartitionPoint-from_clause, IsPartitionedBy-leb}
use Rattle.mv_chain.proofs.Indexes.{count_not_above-partition, row-non_decreasing}
use Rattle.mv_chain.proofs.chain.count_to.Goals as goal

pub returns-clause-count : goal.returns-clause-count
returns-clause-count g c =
    let partitioned = IsPartitionedBy-leb (λ version. version.timestamp) _ c.args.timestamp (row-non_decreasing c.args.versions.now c.requires) in
    count_not_above-partition c.args.timestamp c.partition_point.result c.args.versions.now c.partition_point.ensures.bound
    (IsPartitionPoint-from_clause (λ version. leb version.timestamp c.args.timestamp) _ _ c.partition_point.ensures.partitioned partitioned (λ a r q k. search rules))

use Rattle.mv_core.proofs.Events.{kept_abandoned, kept_again, kept_begun, kept_pruned, kept_read, never_pruned}
use Rattle.mv_core.proofs.every_event_leaves_a_store.Goals as goal

pub returns-clause-begin : goal.returns-clause-begin
returns-clause-begin c base header calls w shard_slots slots k n above within uncommitted idle = kept_begun base header calls w shard_slots slots k n above within uncommitted idle

pub returns-clause-read : goal.returns-clause-read
returns-clause-read c base header calls w shard_slots slots k n before after x v s new above inside found here = record {
  first = kept_read base header calls w shard_slots slots k n before after x v s new above inside found here;
  again = kept_again base header calls w shard_slots slots k n before after x v s new above inside found here;
  never_pruned = never_pruned base header calls w shard_slots slots k n before after x v s new above inside found here;
}

pub returns-clause-abandon : goal.returns-clause-abandon
returns-clause-abandon c base header calls w shard_slots slots k n t above inside is_live = kept_abandoned base header calls w shard_slots slots k n t above inside is_live

pub returns-clause-prune : goal.returns-clause-prune
returns-clause-prune c base header calls w shard_slots slots k t new pruned = kept_pruned base header calls w shard_slots slots k t new pruned

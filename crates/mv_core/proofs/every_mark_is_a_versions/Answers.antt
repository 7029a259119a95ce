use Rattle.mv_core.proofs.Events.{consistent_world, marks_are}
use Rattle.mv_core.proofs.every_mark_is_a_versions.Goals as goal

pub returns : goal.returns
returns c base header calls w shard_slots slots k = (marks_are base header calls w shard_slots slots k, consistent_world base header calls w shard_slots slots k)

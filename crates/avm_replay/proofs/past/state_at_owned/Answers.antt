use Rattle.avm_replay.proofs.Entries.{rising}
use Rattle.avm_replay.proofs.past.state_at_owned.Goals as goal

pub make_until-requires-clause-rising : goal.make_until-requires-clause-rising
make_until-requires-clause-rising g c κs within = rw c.entries.ensures.entries (rising _ 0 _ c.entries.ensures.block.entries)

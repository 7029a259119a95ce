use Rattle.avm_debug.proofs.CallsBefore.{live_ledgers_before_are_replays}
use Rattle.avm_debug.proofs.laws.live_ledgers_before_are_replays.Goals as goal

pub returns : goal.returns
returns c = live_ledgers_before_are_replays

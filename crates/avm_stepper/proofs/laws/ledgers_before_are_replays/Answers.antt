use Rattle.avm_stepper.proofs.EntriesBefore.{ledgers_before_are_replays}
use Rattle.avm_stepper.proofs.laws.ledgers_before_are_replays.Goals as goal

pub returns : goal.returns
returns c = ledgers_before_are_replays

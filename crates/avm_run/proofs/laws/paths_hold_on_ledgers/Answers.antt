use Rattle.avm_run.proofs.Showing.{paths_hold_on_ledgers}
use Rattle.avm_run.proofs.laws.paths_hold_on_ledgers.Goals as goal

pub returns : goal.returns
returns c = paths_hold_on_ledgers

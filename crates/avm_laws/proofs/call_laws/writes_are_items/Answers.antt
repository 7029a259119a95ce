use Rattle.avm_laws.proofs.CallChanges.{has_what_was_written}
use Rattle.avm_laws.proofs.call_laws.writes_are_items.Goals as goal

pub returns : goal.returns
returns c = has_what_was_written

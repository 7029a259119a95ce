use Rattle.avm_laws.proofs.CallChanges.{asks_for_none_gone}
use Rattle.avm_laws.proofs.call_laws.none_gone_is_asked_for.Goals as goal

pub returns : goal.returns
returns c = asks_for_none_gone

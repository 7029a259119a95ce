use Rattle.avm_call.proofs.Asked as asked
use Rattle.avm_call.proofs.laws.calls_ask_little.Goals as goal

pub returns : goal.returns
returns c = asked.calls_ask_little

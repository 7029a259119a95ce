use Rattle.avm_ops.proofs.RowFacts.{effect_asks}
use Rattle.avm_ops.proofs.laws.asks_little.Goals as goal

pub returns : goal.returns
returns c = effect_asks

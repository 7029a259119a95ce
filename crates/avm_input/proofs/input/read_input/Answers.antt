use Rattle.avm_input.proofs.Inputs.{IsInput-taken}
use Rattle.avm_input.proofs.input.read_input.Goals as goal

pub returns : goal.returns
returns g c = IsInput-taken _ _ _ c.take-limited.ensures.limit (rw c.take-limited.ensures.inner at c.in_ok-input.ensures)

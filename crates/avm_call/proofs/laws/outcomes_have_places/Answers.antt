use Rattle.avm_call.proofs.Placed.{outcomes_have_places}
use Rattle.avm_call.proofs.laws.outcomes_have_places.Goals as goal

pub returns : goal.returns
returns c = outcomes_have_places

use Rattle.teal_laws.proofs.PlacedInstructions.{is_listed}
use Rattle.teal_laws.proofs.laws.programs_have_known_instructions.Goals as goal

pub returns : goal.returns
returns c = is_listed

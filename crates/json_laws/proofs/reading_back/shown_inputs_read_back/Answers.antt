use Rattle.json_laws.proofs.InputsBack.{shown_inputs_back}
use Rattle.json_laws.proofs.reading_back.shown_inputs_read_back.Goals as goal

pub returns : goal.returns
returns c = shown_inputs_back

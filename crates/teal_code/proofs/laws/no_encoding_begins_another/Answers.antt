use Rattle.teal_code.proofs.Reading.{instructions_apart}
use Rattle.teal_code.proofs.laws.no_encoding_begins_another.Goals as goal

pub returns : goal.returns
returns c = instructions_apart

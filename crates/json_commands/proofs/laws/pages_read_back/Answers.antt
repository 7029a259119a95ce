use Rattle.json_commands.proofs.ReadingBack.{pages_read_back}
use Rattle.json_commands.proofs.laws.pages_read_back.Goals as goal

pub returns : goal.returns
returns c = pages_read_back

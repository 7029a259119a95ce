use Rattle.json_commands.proofs.ReadingBack.{base64_reads_back}
use Rattle.json_commands.proofs.laws.base64_reads_back.Goals as goal

pub returns : goal.returns
returns c = base64_reads_back

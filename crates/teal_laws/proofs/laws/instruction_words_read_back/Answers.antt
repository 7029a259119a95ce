use Rattle.teal_laws.proofs.InstructionWords.{words_back}
use Rattle.teal_laws.proofs.laws.instruction_words_read_back.Goals as goal

pub returns : goal.returns
returns c = words_back

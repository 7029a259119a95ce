use Rattle.teal_text.proofs.ReadBack.{decimal_back}
use Rattle.teal_text.proofs.numbers.decimal_reads_back.Goals as goal

pub returns : goal.returns
returns c = decimal_back

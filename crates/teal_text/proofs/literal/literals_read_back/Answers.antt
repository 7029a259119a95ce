use Rattle.teal_text.proofs.ReadBack.{hexadecimal_back, string_back}
use Rattle.teal_text.proofs.literal.literals_read_back.Goals as goal

pub returns-clause-hexadecimal : goal.returns-clause-hexadecimal
returns-clause-hexadecimal c = hexadecimal_back

pub returns-clause-strings : goal.returns-clause-strings
returns-clause-strings c = string_back

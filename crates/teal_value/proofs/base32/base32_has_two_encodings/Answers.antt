use Rattle.teal_value.proofs.Base32Law.{reads, reads_back}
use Rattle.teal_value.proofs.base32.base32_has_two_encodings.Goals as goal

pub returns : goal.returns
returns c = λ text bytes. (reads_back text bytes, reads text bytes)

-- What an instruction on one byte string gives, as the value that it is.
use Rattle.teal_value.specs.declared.value.Value.{Value}
use Rattle.teal_value.specs.declared.value.Value.TheVariants.{Bytes}
use Rattle.avm_arith.specs.declared.of_bytes.Given.{Given}
use Rattle.avm_arith.specs.declared.of_bytes.Given.TheVariants as given

abbrev pub given_value : Given → Value
given_value (given.Digest digest) = Bytes digest
given_value (given.Value value) = value

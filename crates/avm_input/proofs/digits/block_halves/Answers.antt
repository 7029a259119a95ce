use Rattle.std.proofs.Common.{refl}
use Rattle.avm_input.proofs.WrittenDigits.{no_halves}
use Rattle.avm_input.proofs.digits.block_halves.Goals as goal

pub bytes-init : goal.bytes-init
bytes-init c = (refl, no_halves c.args.bytes.now 64)

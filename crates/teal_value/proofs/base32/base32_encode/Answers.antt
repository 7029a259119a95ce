use Rattle.std.proofs.Common.{arith}
use Rattle.teal_value.proofs.Base32Groups.{groups_fit}
use Rattle.teal_value.proofs.base32.base32_encode.Goals as goal

pub text_of-requires : goal.text_of-requires
text_of-requires c = rw (c.deref.ensures.value, c.in_ok-groups.ensures) (groups_fit c.args.bytes.now (λ i. omega (arith, c.type_inv.bytes i)))

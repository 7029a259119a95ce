use Rattle.std.proofs.Common.{refl, rules}
use Rattle.avm_pool.proofs.block_prefix.begun_of.Goals as goal

pub finished-requires : goal.finished-requires
finished-requires c =
    let begins = c.if-begins.ensures (search rules) in
    record { base_is = refl; header_is = refl; count_is = begins.count_is; first_are = begins.first_are }

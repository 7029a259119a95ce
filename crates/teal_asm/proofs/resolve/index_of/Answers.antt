use Rattle.std.proofs.Common.{nat_eq, sym}
use Rattle.teal_asm.proofs.Resolving.{absent_place}
use Rattle.teal_asm.proofs.resolve.index_of.Goals as goal

pub returns-in-None : goal.returns-in-None
returns-in-None c = absent_place (nat_eq c.args.value) c.args.uints.now.keys c.len.result (sym c.in-None.ensures.index) c.len.ensures.len

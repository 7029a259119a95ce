use Rattle.std.proofs.Common.{refl}
use Rattle.teal_table.proofs.Codes.{opcode_of-row}
use Rattle.teal_table.proofs.opcode.Opcode.row.Goals as goal

pub returns : goal.returns
returns c = rw (c.code.ensures, c.name.ensures, c.immediates.ensures, c.cost.ensures, c.version.ensures, c.pops.ensures, c.pushes.ensures, opcode_of-row c.args.self) refl

use Rattle.teal_table.proofs.Codes.{is_opcode_at}
use Rattle.teal_table.proofs.opcode.Opcode.of.Goals as goal

pub returns : goal.returns
returns c = is_opcode_at c.args.code c.opcode_of.result c.opcode_of.ensures.some c.opcode_of.ensures.all

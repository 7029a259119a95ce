use Rattle.std.proofs.Common.{◌<◌}
use Rattle.teal_table.specs.Table.{code_of}
use Rattle.avm_ops.specs.OpSets.{Has}
use Rattle.avm_ops.proofs.set.Ops.missing.Given as goal

-- the opcodes of the codes before have objects
abbrev pub invariant-loop-code : goal.invariant-loop-code
invariant-loop-code g l = (o : _) → code_of o < l.code → Has g.O.Op.opcode l.self o

use Rattle.std.proofs.Common.{◌≡◌, drop}
use Rattle.std.specs.Prelude.{find}
use Rattle.std.specs.Str.{bytes_eq}
use Rattle.teal_table.specs.Table.{name_of}
use Rattle.teal_table.proofs.table.opcode_with.Given as goal

-- the opcode is that of the opcodes that are left
abbrev pub invariant-loop-opcode : goal.invariant-loop-opcode
invariant-loop-opcode l = find (λ o. bytes_eq (name_of o) l.name) (drop l.opcode-index l.opcodes) ≡ find (λ o. bytes_eq (name_of o) l.name) l.opcodes

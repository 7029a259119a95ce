use Rattle.std.proofs.Common.{◌==◌, length, ap, ◌∙◌}
use Rattle.std.specs.Prelude.{find}
use Rattle.std.specs.Str.{bytes_eq}
use Rattle.teal_table.specs.Table.{name_of, opcodes, opcode_named}
use Rattle.teal_table.proofs.Names.{find-filter, same_length}
use Rattle.teal_table.proofs.table.opcode_named.Goals as goal

pub returns : goal.returns
unfolding opcode_named
returns c =
    let name = c.args.name.now in
    c.opcode_with.ensures ∙ ap (find (λ o. bytes_eq (name_of o) name)) c.named_in.ensures
    ∙ find-filter (λ o. bytes_eq (name_of o) name) (λ o. length (name_of o) == length name) (same_length name) opcodes

use Rattle.std.proofs.Common.{◌≡◌, ◌+◌, true, nat_eq, length, ap, ◌∙◌, arith}
use Rattle.std.specs.List.{list_any, position_or_len}
use Rattle.std.specs.Option.{option_map}
use Rattle.std.specs.Map.{lookup}
use Rattle.std.specs.Str.{bytes_eq}
use Rattle.teal_asm.specs.Meaning.{gathered_blocks, labels_from}
use Rattle.teal_asm.proofs.Resolving.{place_within, label_target}
use Rattle.teal_asm.proofs.resolve.instruction_of.Goals as goal

pub uint_constant-requires : goal.uint_constant-requires
uint_constant-requires c =
    let there : list_any (nat_eq c.in-Int.value) c.args.constants.now.uints.keys ≡ true = rw c.in-Int.is at c.requires.known in
    omega (arith, c.index_of.ensures, place_within (nat_eq c.in-Int.value) c.args.constants.now.uints.keys there, c.requires.short.uints)

pub byte_constant-requires : goal.byte_constant-requires
byte_constant-requires c =
    let there : list_any (bytes_eq c.in-Byte.bytes) c.args.constants.now.strings ≡ true = rw c.in-Byte.is at c.requires.known in
    let at = c.index_of-in-Byte.ensures ∙ ap (λ b. position_or_len (bytes_eq b) c.args.constants.now.strings) c.as_slice.ensures in
    omega (arith, at, place_within (bytes_eq c.in-Byte.bytes) c.args.constants.now.strings there, c.requires.short.strings)

pub returns-in-Jump : goal.returns-in-Jump
returns-in-Jump c = λ all are.
    let k = c.args.constants.now in
    let found = c.target_of-target.ensures ∙ ap (λ b. option_map (λ n. k.blocks + n) (lookup (bytes_eq b) k.labels)) c.as_slice-in-Jump.ensures in
    let target : c.target_of-target.result ≡ lookup (bytes_eq c.in-Jump.name) (labels_from (length (gathered_blocks all)) all) =
    found ∙ label_target (bytes_eq c.in-Jump.name) k.blocks (length (gathered_blocks all)) k.labels all are.blocks are.labels in
    rw c.in-Jump.is (rw target at c.branch-line.ensures)

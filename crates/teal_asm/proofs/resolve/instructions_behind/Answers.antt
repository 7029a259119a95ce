use Rattle.std.proofs.Common.{◌≤◌, length, sym, ap, ◌∙◌, arith}
use Rattle.std.specs.Str.{bytes_eq}
use Rattle.teal_asm.specs.Instructions.{all_meant}
use Rattle.teal_asm.proofs.Emitting.{length-meant}
use Rattle.teal_asm.proofs.Resolving.{each_has_its_constant, label_small, blocks_few}
use Rattle.teal_asm.proofs.resolve.instructions_behind.Goals as goal

pub resolved-requires-clause-constants : goal.resolved-requires-clause-constants
resolved-requires-clause-constants c = rw c.into_parts-constants.ensures (record {
  uints = c.requires.body.uints;
  strings = c.requires.body.strings;
  labels = c.requires.body.labels;
  blocks = c.len.ensures ∙ c.args.blocks.ok.0 ∙ sym (length-meant c.args.blocks.items) ∙ ap length c.requires.blocks;
})

pub resolved-requires-clause-short : goal.resolved-requires-clause-short
resolved-requires-clause-short c =
    let body = c.args.body in
    let few : length (all_meant c.args.blocks.items) ≤ 2 = rw c.requires.blocks (blocks_few body.statements.items) in
    rw c.into_parts-constants.ensures (record {
      uints = c.requires.body.few_uints;
      strings = c.requires.body.few_strings;
      numbers = λ name n e. omega (arith, label_small (bytes_eq name) 0 body.statements.items n (rw c.requires.body.labels at e), few, length-meant c.args.blocks.items, c.args.blocks.ok.0, c.len.ensures, body.statements.ok.0, body.statements.small);
    })

pub resolved-requires-clause-blocks : goal.resolved-requires-clause-blocks
resolved-requires-clause-blocks c = rw c.into_parts-constants.ensures c.requires.blocks

pub resolved-requires-clause-known : goal.resolved-requires-clause-known
resolved-requires-clause-known c = rw (c.into_parts-constants.ensures, c.requires.body.uints, c.requires.body.strings) (each_has_its_constant c.args.body.statements.items)

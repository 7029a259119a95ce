use Rattle.teal_asm.specs.Meaning.{all_instructions}
use Rattle.teal_asm.specs.Instructions.{all_meant}
use Rattle.teal_asm.specs.Constants.{HasConstants}
use Rattle.teal_asm.proofs.Resolving.{ResolvesOn}
use Rattle.teal_asm.proofs.resolve.resolved.Given as goal

abbrev pub invariant-loop-statement : goal.invariant-loop-statement
invariant-loop-statement l = record {
  known : HasConstants l.constants.uints.keys l.constants.strings l.statement-iterator.rest.items;
  resolves : ResolvesOn l.fn.statements.items (all_meant l.instructions.items) l.statement-iterator.rest.items (all_instructions l.fn.statements.items);
}

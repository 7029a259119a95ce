use Rattle.std.proofs.Common.{drop}
use Rattle.teal_source.specs.Operands.{any_number}
use Rattle.teal_source.specs.Commands.{each}
use Rattle.teal_source.specs.Shown.{words}
use Rattle.teal_source.proofs.Each.{EachOn}
use Rattle.teal_source.proofs.arity.numbers.Given as goal

abbrev pub invariant-loop-word : goal.invariant-loop-word
invariant-loop-word l = EachOn any_number l.numbers.items (words (drop l.word-index l.operands)) (each any_number (words l.operands))

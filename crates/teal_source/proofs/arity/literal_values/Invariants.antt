use Rattle.std.proofs.Common.{◌-◌, ◌≤◌, length, drop}
use Rattle.teal_source.specs.Operands.{literals_in, literal_value}
use Rattle.teal_source.specs.Commands.{each}
use Rattle.teal_source.specs.Shown.{words}
use Rattle.teal_source.proofs.Each.{EachOn}
use Rattle.teal_source.proofs.arity.literal_values.Given as goal

abbrev pub invariant-loop-at : goal.invariant-loop-at
invariant-loop-at l = record {
  within : l.at ≤ length l.operands;
  reads : EachOn literal_value l.strings.items (literals_in (drop l.at (words l.operands))) (each literal_value (literals_in (words l.operands)));
}

abbrev pub decreases-loop-at : goal.decreases-loop-at
decreases-loop-at l = length l.operands - l.at

use Rattle.std.proofs.Common.{drop}
use Rattle.teal_source.specs.Operands.{literals_in, literal_value}
use Rattle.teal_source.specs.Shown.{words}
use Rattle.teal_source.proofs.Each.{goes_on}
use Rattle.teal_source.proofs.arity.literal_values.Goals as goal

pub loop-at-preserved : goal.loop-at-preserved
loop-at-preserved c = record {
  within = c.literal_at-next.ensures.further.1;
  reads = goes_on literal_value c.loop-at.strings.items _ (literals_in (drop c.loop-at.at (words c.args.operands.now))) _ _ c.in_ok-literal_value.field-0 _ c.loop-at.invariant.reads c.literal_at-next.ensures.literal c.in_ok-literal_value.ensures c.in_ok-push.ensures.items;
}

use Rattle.std.proofs.Common.{ap, ◌∙◌}
use Rattle.avm_call.specs.Replay.{outcome_on}
use Rattle.avm_run.proofs.on_ledger.call_plain.Goals as goal

pub returns-clause-outcome : goal.returns-clause-outcome
returns-clause-outcome g c = c.in_ok-outcome.ensures.outcome ∙ ap (λ l. outcome_on l c.args.call.now c.args.context.now.header.now) c.in_ok-after.ensures

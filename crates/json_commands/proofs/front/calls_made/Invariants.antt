use Rattle.json_commands.proofs.MadeCalls.{Left}
use Rattle.json_commands.proofs.front.calls_made.Given as goal

abbrev pub invariant-loop-entry : goal.invariant-loop-entry
invariant-loop-entry g l = Left l.ledger l.context.header.now l.entries l.entry-index l.outcomes.items l.after

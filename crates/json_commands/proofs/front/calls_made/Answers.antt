use Rattle.json_commands.proofs.MadeCalls.{all_made, none_made, one_made}
use Rattle.json_commands.proofs.front.calls_made.Goals as goal

pub loop-entry-init : goal.loop-entry-init
loop-entry-init g c = rw (c.new-outcomes.ensures.items, c.in_ok-after.ensures) (none_made c.args.ledger.now c.args.context.now.header.now c.args.entries.now)

pub loop-entry-preserved : goal.loop-entry-preserved
loop-entry-preserved g c =
    rw (c.in_ok-push.ensures.items, c.in_ok-outcome.ensures.outcome, c.in_ok-outcome.ensures.after)
    (one_made c.args.ledger.now c.args.context.now.header.now c.args.entries.now c.loop-entry.entry-index c.loop-entry.outcomes.items c.loop-entry.after c.entry-item.result c.loop-entry-test.true c.entry-item.is c.loop-entry.invariant)

pub returns-clause-outcomes : goal.returns-clause-outcomes
returns-clause-outcomes g c = (all_made _ _ c.args.entries.now _ _ _ c.loop-entry-test.false c.loop-entry.invariant).0

pub returns-clause-after : goal.returns-clause-after
returns-clause-after g c = (all_made _ _ c.args.entries.now _ _ _ c.loop-entry-test.false c.loop-entry.invariant).1

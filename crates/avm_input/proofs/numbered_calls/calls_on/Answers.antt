use Rattle.avm_input.proofs.CallsSoFar.{one_line_more}
use Rattle.avm_input.proofs.numbered_calls.calls_on.Goals as goal

pub loop-index-preserved : goal.loop-index-preserved
loop-index-preserved c =
    one_line_more c.args.number c.loop-index.index c.loop-index.calls.items _ c.args.lines.now _ c.in_ok-call_on.field-0 _ c.loop-index-test.true c.in_ok-call_on.ensures c.in_ok-push.ensures.items
    c.loop-index.invariant

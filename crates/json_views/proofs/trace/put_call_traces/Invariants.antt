use Rattle.std.proofs.Common.{drop, map}
use Rattle.json_views.proofs.CallTraces.{Left}
use Rattle.json_views.proofs.trace.put_call_traces.Given as goal

abbrev pub invariant-loop-traced : goal.invariant-loop-traced
invariant-loop-traced g l = record { left : Left l.initial.ledger l.context.header.now (map g.T.Traced.recorded l.calls) l.fn.out l.ledger (map g.T.Traced.recorded (drop l.traced-index l.calls)) l.out }

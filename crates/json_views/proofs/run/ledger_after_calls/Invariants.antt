use Rattle.std.proofs.Common.{◌≡◌, drop}
use Rattle.avm_call.specs.Replay.{replayed}
use Rattle.json_views.proofs.run.ledger_after_calls.Given as goal

-- the calls that are left lead to the ledger after all of them
abbrev pub invariant-loop-call : goal.invariant-loop-call
invariant-loop-call g l = replayed l.after l.context.header.now (drop l.call-index l.calls) ≡ replayed l.ledger l.context.header.now l.calls

use Rattle.std.proofs.Common.{◌≡◌, take}
use Rattle.avm_replay.specs.Plain.{AreMade}
use Rattle.avm_replay.proofs.plain.entries_of.Given as goal

abbrev pub invariant-loop-call : goal.invariant-loop-call
invariant-loop-call g l = (l.timestamp ≡ l.call-index) × AreMade l.initial.ledger l.context.header.now (take l.call-index l.calls) l.entries.items l.ledger

use Rattle.std.proofs.Common.{◌≡◌, None, take}
use Rattle.avm_replay.specs.Verdicts.{Compares}
use Rattle.avm_replay.proofs.replayer.first_wrong.Given as goal

abbrev pub invariant-loop-entry : goal.invariant-loop-entry
invariant-loop-entry g l = (l.number ≡ l.entry-index) × Compares l.initial.ledger l.ledger l.context.header.now (take l.entry-index l.entries) None

use Rattle.std.proofs.Common.{◌≡◌, ℕ, drop}
use Rattle.avm_call.specs.Replay.{replayed}
use Rattle.avm_block.specs.Blocks.{RisesAbove, calls_in}
use Rattle.avm_replay.specs.Past.{entries_until}
use Rattle.avm_replay.proofs.past.make_until.Given as goal

abbrev pub invariant-loop-entry : goal.invariant-loop-entry
invariant-loop-entry g l = record {
  before : ℕ;
  rises : RisesAbove before (drop l.entry-index l.entries);
  rest : replayed l.ledger l.context.header.now (calls_in (entries_until l.timestamp (drop l.entry-index l.entries))) ≡ replayed l.initial.ledger l.context.header.now (calls_in (entries_until l.timestamp l.entries));
}

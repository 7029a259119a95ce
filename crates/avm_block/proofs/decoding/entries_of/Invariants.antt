use Rattle.std.proofs.Common.{◌-◌}
use Rattle.avm_block.specs.AcceptedCalls.{is_accepted}
use Rattle.avm_block.specs.BlockReader.{block_entries_at}
use Rattle.avm_block.proofs.EntriesReading.{ReadsOn}
use Rattle.avm_block.proofs.decoding.entries_of.Given as goal

abbrev pub invariant-loop : goal.invariant-loop
invariant-loop l = ReadsOn (is_accepted l.profile) l.entries.items l.before (l.count - l.counter) l.rest (block_entries_at (is_accepted l.profile) l.count 0 l.fn.fields)

use Rattle.std.proofs.Common.{ℕ, ◌<◌}
use Rattle.std.specs.List.{slice_index_or}
use Rattle.avm_call_codec.specs.CallRoundTrip.{HasFields, IsWord}
use Rattle.avm_block.specs.declared.entry.Entry.{Entry}
use Rattle.avm_block.proofs.call_sizes.entries_fit.Given as goal

-- the entries so far
abbrev pub invariant-loop-entry : goal.invariant-loop-entry
invariant-loop-entry l = (k : ℕ) (d : Entry) → k < l.entry-index → HasFields (slice_index_or l.entries k d).call × IsWord (slice_index_or l.entries k d).timestamp

use Rattle.std.proofs.Common.{ℕ, ◌<◌}
use Rattle.std.specs.List.{slice_index_or}
use Rattle.teal_value.specs.declared.address.Address.{Address}
use Rattle.avm_call_codec.specs.CallRoundTrip.{IsAddress}
use Rattle.avm_block.proofs.call_sizes.are_addresses.Given as goal

-- the addresses so far
abbrev pub invariant-loop-address : goal.invariant-loop-address
invariant-loop-address l = (k : ℕ) (d : Address) → k < l.address-index → IsAddress (slice_index_or l.addresses k d)

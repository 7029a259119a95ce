use Rattle.std.proofs.Common.{◌≡◌, ◌++◌, drop}
use Rattle.std.specs.List.{flat_map}
use Rattle.teal_code.specs.Encoding.{Continues}
use Rattle.avm_ledger.specs.Encodings.{counted_bytes, u8_bytes}
use Rattle.avm_call_codec.specs.CallEncoding.{address_bytes}
use Rattle.avm_call_codec.proofs.writing.push_addresses.Given as goal

-- what is written, and what is left, are all of them
abbrev pub invariant-loop-address : goal.invariant-loop-address
invariant-loop-address l = (l.bytes.items ++ flat_map address_bytes (drop l.address-index l.addresses) ≡ l.fn.bytes.items ++ counted_bytes u8_bytes address_bytes l.addresses) × Continues l.fn.bytes.items l.bytes.items

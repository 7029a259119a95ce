use Rattle.std.proofs.Common.{◌≡◌, ◌++◌, drop}
use Rattle.std.specs.List.{flat_map}
use Rattle.teal_code.specs.Encoding.{Continues}
use Rattle.avm_ledger.specs.Encodings.{counted_bytes, u64_bytes, u8_bytes}
use Rattle.avm_call_codec.proofs.writing.push_uints.Given as goal

-- what is written, and what is left, are all of them
abbrev pub invariant-loop-number : goal.invariant-loop-number
invariant-loop-number l = (l.bytes.items ++ flat_map u64_bytes (drop l.number-index l.numbers) ≡ l.fn.bytes.items ++ counted_bytes u8_bytes u64_bytes l.numbers) × Continues l.fn.bytes.items l.bytes.items

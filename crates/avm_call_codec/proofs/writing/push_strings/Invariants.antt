use Rattle.std.proofs.Common.{◌≡◌, ◌++◌, drop}
use Rattle.std.specs.List.{flat_map}
use Rattle.teal_code.specs.Encoding.{Continues}
use Rattle.avm_ledger.specs.Encodings.{counted_bytes, string_bytes, u8_bytes}
use Rattle.avm_call_codec.proofs.writing.push_strings.Given as goal

-- what is written, and what is left, are all of them
abbrev pub invariant-loop-string : goal.invariant-loop-string
invariant-loop-string l = (l.bytes.items ++ flat_map string_bytes (drop l.string-index l.strings) ≡ l.fn.bytes.items ++ counted_bytes u8_bytes string_bytes l.strings) × Continues l.fn.bytes.items l.bytes.items

use Rattle.std.proofs.Common.{◌≡◌, ◌++◌}
use Rattle.std.specs.List.{flat_map}
use Rattle.avm_ledger.specs.Encodings.{application_bytes, counted_bytes, u32_bytes}
use Rattle.avm_ledger.proofs.codec.put_applications.Given as goal

-- what is written, and the applications that are left, are all of them
abbrev pub invariant-loop-id : goal.invariant-loop-id
invariant-loop-id l = l.bytes.items ++ flat_map application_bytes l.id-iterator ≡ l.fn.bytes.items ++ counted_bytes u32_bytes application_bytes l.ledger.applications

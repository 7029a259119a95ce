use Rattle.std.proofs.Common.{◌≡◌, ◌++◌, drop}
use Rattle.std.specs.List.{flat_map}
use Rattle.teal_code.specs.Encoding.{Continues}
use Rattle.avm_ledger.specs.Encodings.{entry_bytes, state_bytes}
use Rattle.avm_ledger.proofs.encoding.push_state.Given as goal

-- what is written, and the entries that are left, are the state
abbrev pub invariant-loop-key : goal.invariant-loop-key
invariant-loop-key l = (l.bytes.items ++ flat_map entry_bytes (drop l.key-index l.state) ≡ l.fn.bytes.items ++ state_bytes l.state) × Continues l.fn.bytes.items l.bytes.items

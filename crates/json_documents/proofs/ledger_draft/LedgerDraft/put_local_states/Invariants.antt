use Rattle.std.proofs.Common.{◌≡◌, ◌++◌}
use Rattle.std.specs.List.{flat_map}
use Rattle.avm_ledger.specs.Encodings.{counted_bytes, local_state_bytes, u32_bytes}
use Rattle.json_documents.proofs.ledger_draft.LedgerDraft.put_local_states.Given as goal

-- what is written, and the local states that are left, are all of them
abbrev pub invariant-loop-key : goal.invariant-loop-key
invariant-loop-key l = l.bytes.items ++ flat_map local_state_bytes l.key-iterator ≡ l.fn.bytes.items ++ counted_bytes u32_bytes local_state_bytes l.self.local_states

-- What is answered of a call over a whole ledger.
use Rattle.std.specs.Prelude.{List, ℕ, Result, Ok, Err}
use Rattle.teal_value.specs.Answer.{◌>>=◌}
use Rattle.avm_ledger.specs.Ledgers.{Ledger}
use Rattle.avm_ledger.specs.LedgerReader.{ledger_at}
use Rattle.avm_ledger.specs.Encodings.{ledger_bytes}
use Rattle.avm_call.specs.Replay.{ledger_after, outcome_on}
use Rattle.avm_bytes.specs.declared.calls.OnLedger.{OnLedger}
use Rattle.avm_bytes.specs.declared.statuses.Status.TheVariants as status
use Rattle.avm_bytes.specs.declared.troubles.Refused.{Refused}
use Rattle.avm_bytes.specs.Answers.{done}
use Rattle.avm_bytes.specs.Attempts.{Attempted, call_of, header_of, not_made}
use Rattle.avm_bytes.specs.Ends.{end_of}
use Rattle.avm_bytes.specs.Troubles.{or_refused, refused_for}

abbrev pub ledger_in : List ℕ → Result Ledger Refused
ledger_in bytes = or_refused (λ _. refused_for status.NoLedger 0) (ledger_at bytes)

-- The ledger is read first, then the header, then the call.
abbrev pub on_ledger : List ℕ → List ℕ → List ℕ → Result OnLedger Refused
on_ledger ledger header call = ledger_in ledger >>= λ l. header_of header >>= λ h. call_of call >>= λ c. Ok (record { ledger = l; header = h; call = c })

-- the ledger after the call, and how it ends
abbrev pub called : Result OnLedger Refused → Attempted
called (Ok asked) = record {
  answer = done (ledger_bytes (ledger_after asked.ledger asked.call asked.header));
  end = end_of (outcome_on asked.ledger asked.call asked.header);
}
called (Err r) = not_made r

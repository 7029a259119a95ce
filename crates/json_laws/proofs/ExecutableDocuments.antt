-- The calls of an accepted document may be executed over its ledger.
use Rattle.std.proofs.Common.{◌≡◌, List, [], ◌∷◌, take, Ok, arith}
use Rattle.std.specs.Prelude.{All}
use Rattle.std.proofs.lemmas.List.Elements.{All-nil, All-cons, All-head, All-tail, All-take}
use Rattle.teal_value.specs.declared.value.Value.{Value}
use Rattle.teal_value.specs.declared.value.Value.TheVariants.{Uint, Bytes}
use Rattle.avm_states.specs.Entries.{Entries}
use Rattle.avm_ledger.specs.declared.header.Header.{Header}
use Rattle.avm_ledger.specs.LedgerRules.{IsApplicationBelow, IsLocalStateBelow, IsStateEntry, IsStateValue, KeepsRules}
use Rattle.avm_ledger.specs.Ledgers.{Ledger}
use Rattle.avm_ledger.proofs.LedgerBack.{ledger_back_alone}
use Rattle.avm_items.specs.declared.call_data.CallData.{CallData}
use Rattle.avm_block.specs.BlockRoundTrip.{IsHeader}
use Rattle.avm_call.specs.Replay.{replayed}
use Rattle.avm_rule_laws.specs.Rules.{AreMachineValues, IsCallOfBytes, IsLedgerOfBytes, IsMachineValue, IsSound, IsStoredOfBytes, MayCall}
use Rattle.avm_rule_laws.proofs.CheckedCalls.{checked_calls_bring_programs}
use Rattle.avm_rule_laws.proofs.KeptRules.{replays_keep_the_rules}
use Rattle.json.specs.Json.{Json}
use Rattle.json_documents.specs.Documents.{Document, document}
use Rattle.json_laws.specs.Accepted.{IsAllowedCall}
use Rattle.json_laws.specs.Executable.{MayBeExecuted}
use Rattle.json_laws.specs.OfBytes.{HasStringsOfBytes, IsEntryOfBytes, IsWholeLedgerOfBytes, IsLocalStateOfBytes, IsApplicationOfBytes, IsValueOfBytes}
use Rattle.json_laws.proofs.AcceptedDocuments.{accepted_documents_keep_the_rules}
use Rattle.json_laws.proofs.DocumentsOfBytes.{accepted_documents_are_of_bytes}

together : {A : Type 0} (P Q R : A → Type 0) (xs : List A) → ((x : A) → P x → Q x → R x) → All P xs → All Q xs → All R xs
together P Q R [] f p q = All-nil R
together P Q R (x ∷ xs) f p q = All-cons R x xs (f x (All-head P x xs p) (All-head Q x xs q)) (together P Q R xs f (All-tail P x xs p) (All-tail Q x xs q))

machine_value : (v : Value) → IsStateValue v → IsValueOfBytes v → IsMachineValue v
machine_value (Uint n) fits bytes = fits
machine_value (Bytes s) fits bytes = (omega (arith, fits), bytes)

machine_values : (es : Entries) → All IsStateEntry es → All IsEntryOfBytes es → AreMachineValues es
machine_values es fit bytes = together IsStateEntry IsEntryOfBytes (λ e. IsMachineValue e.1) es (λ e f b. machine_value e.1 f.1 b.1) fit bytes

ledger_of_bytes : (l : Ledger) → KeepsRules l → IsWholeLedgerOfBytes l → IsLedgerOfBytes l
ledger_of_bytes l keeps bytes = record {
  applications = together (IsApplicationBelow l.next_id) IsApplicationOfBytes IsStoredOfBytes l.applications
      (λ e f b. (b.row, machine_values e.1.state f.state.entries b.state)) keeps.applications bytes.applications;
  local_states = together (IsLocalStateBelow l.next_id l.applications) IsLocalStateOfBytes (λ e. AreMachineValues e.1) l.local_states (λ e f b. machine_values e.1 f.state.entries b.state) keeps.local_states bytes.local_states;
}

may_call : (h : Header) → IsHeader h → (c : CallData) → IsAllowedCall c → IsCallOfBytes c → MayCall c h
may_call h is c allowed bytes = record {
  call_of_bytes = bytes;
  programs = checked_calls_bring_programs c allowed.rules;
  words = record { round = is.round; latest_timestamp = is.latest_timestamp; min_fee = is.min_fee; min_balance = is.min_balance; max_life = is.max_life };
}

pub accepted_documents_may_be_executed : (j : Json) (x : Document) → HasStringsOfBytes j → document j ≡ Ok x → MayBeExecuted x
accepted_documents_may_be_executed j x strings e =
    let keeps = accepted_documents_keep_the_rules j x e in
    let bytes = accepted_documents_are_of_bytes j x strings e in
    let sound : IsSound x.ledger = record { rules = keeps.ledger; of_bytes = ledger_of_bytes x.ledger keeps.ledger bytes.ledger } in
    let calls : All (λ call. MayCall call x.header) x.calls = together IsAllowedCall IsCallOfBytes (λ call. MayCall call x.header) x.calls (may_call x.header keeps.header) keeps.calls bytes.calls in
    record {
      ledger = sound;
      calls = calls;
      after = λ n.
          let kept = replays_keep_the_rules x.ledger x.header (take n x.calls) sound (All-take (λ call. MayCall call x.header) n x.calls calls) in
          record { sound = kept; reads_back = λ countable. ledger_back_alone (replayed x.ledger x.header (take n x.calls)) kept.rules countable };
    }

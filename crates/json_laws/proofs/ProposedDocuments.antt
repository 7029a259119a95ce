-- `propose` reads the lines of an accepted document.
use Rattle.std.proofs.Common.{◌≡◌, ℕ, ◌+◌, ◌≤◌, Bool, true, false, cond, List, [], ◌∷◌, ◌++◌, Result, Ok, Err, refl, sym, ap, subst, ◌∙◌, append_assoc, length, arith}
use Rattle.std.specs.Prelude.{All}
use Rattle.std.specs.Str.{is_utf8}
use Rattle.std.specs.List.{flat_map}
use Rattle.std.specs.Str.Lines.{lines}
use Rattle.std.proofs.lemmas.List.Elements.{All-head, All-tail}
use Rattle.teal_value.specs.Answer.{◌>>=◌}
use Rattle.avm_ledger.specs.declared.header.Header.{Header}
use Rattle.avm_ledger.specs.declared.header.Profile.TheVariants as profile
use Rattle.avm_ledger.specs.LedgerRules.{IsCountable}
use Rattle.avm_ledger.specs.Encodings.{header_bytes, ledger_bytes}
use Rattle.avm_ledger.proofs.FieldsBack.{then}
use Rattle.avm_items.specs.declared.call_data.CallData.{CallData}
use Rattle.avm_call_codec.specs.CallEncoding.{call_bytes}
use Rattle.avm_block.specs.BlockReader.{header_at}
use Rattle.avm_block.specs.BlockRoundTrip.{IsHeader}
use Rattle.avm_input.specs.Answers.{input_limit}
use Rattle.avm_input.specs.BlockLines.{first_ledger, needed_bytes}
use Rattle.avm_input.specs.CallLines.{checked_call}
use Rattle.avm_input.specs.Replies.{Reply, input_refusal, succeeded}
use Rattle.avm_input.specs.DigitLines.{DigitLine, digit_lines, line_bytes, lines_after}
use Rattle.avm_input.specs.ProposeInputs.{call_on_line, calls_on_lines, first_header, header_of, on_call, only_header, propose_input}
use Rattle.avm_node.specs.ProposeCommands.{IsPoolReply, IsProposeReply, IsReplyToLines}
use Rattle.avm_rule_laws.specs.Rules.{AreBytes, IsCallOfBytes}
use Rattle.json.specs.Json.{Json}
use Rattle.json_documents.specs.Documents.{Document, document}
use Rattle.json_documents.specs.Lines.{call_line, line, lines_text}
use Rattle.json_documents.specs.Reading.{document_of_text}
use Rattle.json_documents.specs.Replies.{document_reply, lines_reply}
use Rattle.json_documents.specs.Faults.{Fault}
use Rattle.json_laws.specs.Accepted.{IsAllowedCall, KeepsAllRules}
use Rattle.json_laws.specs.OfBytes.{HasStringsOfBytes, IsDocumentOfBytes}
use Rattle.json_laws.specs.Proposed.{IsProposed, input_of}
use Rattle.json_laws.proofs.AcceptedDocuments.{accepted_documents_keep_the_rules}
use Rattle.json_laws.proofs.AcceptedTexts.{by_value}
use Rattle.json_laws.proofs.CountableDocuments.{is_countable}
use Rattle.json_laws.proofs.DocumentsOfBytes.{accepted_documents_are_of_bytes}
use Rattle.json_laws.proofs.ProposedLines.{call_back_checked, call_not_empty, header_back, header_not_empty, ledger_first, ledger_not_empty, line_first, needed_first, encoded_bytes, encoded_line}
use Rattle.json_laws.proofs.EncodedBytes.{call_is_bytes, header_is_bytes, ledger_is_bytes}
use Rattle.json_laws.proofs.TextsOfBytes.{value_of_bytes}
use Rattle.json_laws.proofs.Weights.{text_weight}

header_first : (n : ℕ) (h : Header) (more : List DigitLine) → IsHeader h → h.profile ≡ profile.Three → first_header (encoded_line n (header_bytes h) ∷ more) ≡ Ok (h, more)
header_first n h more is three =
    then (needed_bytes (encoded_line n (header_bytes h) ∷ more)) (header_bytes h, more) (λ first. header_of first.0 >>= λ k. Ok (k, first.1)) (Ok (h, more)) (needed_first n (header_bytes h) more (header_is_bytes h))
    (ap (λ r. only_header r >>= λ k. Ok (k, more)) (ap (λ p. header_at p (header_bytes h)) (sym three) ∙ header_back h is))

call_read : (number n : ℕ) (c : CallData) → IsAllowedCall c → IsCallOfBytes c → call_on_line number (encoded_line n (call_bytes c)) ≡ Ok c
call_read number n c is of_bytes =
    then (line_bytes (encoded_line n (call_bytes c))) (call_bytes c) (λ bytes. on_call number (checked_call bytes)) (Ok c) (encoded_bytes n (call_bytes c) (call_is_bytes c of_bytes)) (ap (on_call number) (call_back_checked c is))

calls_read : (number before : ℕ) (calls : List CallData) → All IsAllowedCall calls → All IsCallOfBytes calls → calls_on_lines number (lines_after before (lines (flat_map call_line calls))) ≡ Ok calls
calls_read number before [] are of_bytes = refl
calls_read number before (c ∷ cs) are of_bytes =
    let is = All-head IsAllowedCall c cs are in
    let bytes = All-head IsCallOfBytes c cs of_bytes in
    let more = lines_after (before + 1) (lines (flat_map call_line cs)) in
    ap (calls_on_lines number) (line_first before (call_bytes c) (flat_map call_line cs) (call_is_bytes c bytes) (call_not_empty c is))
    ∙ then (call_on_line number (encoded_line (before + 1) (call_bytes c))) c (λ call. calls_on_lines (number + 1) more >>= λ calls. Ok (call ∷ calls)) (Ok (c ∷ cs)) (call_read number (before + 1) c is bytes)
    (then (calls_on_lines (number + 1) more) cs (λ calls. Ok (c ∷ calls)) (Ok (c ∷ cs)) (calls_read (number + 1) (before + 1) cs (All-tail IsAllowedCall c cs are) (All-tail IsCallOfBytes c cs of_bytes)) refl)

the_lines : (x : Document) → IsDocumentOfBytes x → digit_lines (lines_text x) ≡ encoded_line 1 (ledger_bytes x.ledger) ∷ encoded_line 2 (header_bytes x.header) ∷ lines_after 2 (lines (flat_map call_line x.calls))
the_lines x of_bytes =
    ap (λ t. lines_after 0 (lines t)) (append_assoc (line (ledger_bytes x.ledger)) (line (header_bytes x.header)) (flat_map call_line x.calls))
    ∙ line_first 0 (ledger_bytes x.ledger) (line (header_bytes x.header) ++ flat_map call_line x.calls) (ledger_is_bytes x.ledger of_bytes.ledger) (ledger_not_empty x.ledger)
    ∙ ap (λ ls. encoded_line 1 (ledger_bytes x.ledger) ∷ ls) (line_first 1 (header_bytes x.header) (flat_map call_line x.calls) (header_is_bytes x.header) (header_not_empty x.header))

is_proposed : (x : Document) → KeepsAllRules x → IsDocumentOfBytes x → IsCountable x.ledger → IsProposed x
is_proposed x keeps of_bytes countable =
    let calls = lines_after 2 (lines (flat_map call_line x.calls)) in
    let header = encoded_line 2 (header_bytes x.header) ∷ calls in
    ap propose_input (the_lines x of_bytes)
    ∙ then (first_ledger (encoded_line 1 (ledger_bytes x.ledger) ∷ header)) (x.ledger, header)
    (λ l. first_header l.1 >>= λ h. calls_on_lines 1 h.1 >>= λ cs. Ok (record { base = l.0; header = h.0; calls = cs })) (Ok (record { base = x.ledger; header = x.header; calls = x.calls }))
    (ledger_first 1 x.ledger header keeps.ledger countable (ledger_is_bytes x.ledger of_bytes.ledger))
    (then (first_header header) (x.header, calls) (λ h. calls_on_lines 1 h.1 >>= λ cs. Ok (record { base = x.ledger; header = h.0; calls = cs })) (Ok (record { base = x.ledger; header = x.header; calls = x.calls }))
    (header_first 2 x.header calls keeps.header keeps.profile)
    (then (calls_on_lines 1 calls) x.calls (λ cs. Ok (record { base = x.ledger; header = x.header; calls = cs })) (Ok (record { base = x.ledger; header = x.header; calls = x.calls }))
    (calls_read 1 2 x.calls keeps.calls of_bytes.calls) refl))

pub propose_reads_documents : (j : Json) (x : Document) → HasStringsOfBytes j → document j ≡ Ok x → IsCountable x.ledger → IsProposed x
propose_reads_documents j x strings e countable = is_proposed x (accepted_documents_keep_the_rules j x e) (accepted_documents_are_of_bytes j x strings e) countable

pub propose_reads_texts : (text : List ℕ) (x : Document) → AreBytes text → length text ≤ input_limit → document_of_text text ≡ Ok x → IsProposed x
propose_reads_texts text x all short e =
    by_value (IsProposed x) text x (λ j is said. propose_reads_documents j x (value_of_bytes text j all is) said (is_countable j x (omega (arith, text_weight text j is)) said)) e

-- ---- replies

replied : (input : List ℕ) (r : Result Document Fault) → document_of_text input ≡ r → (document_reply r).status ≡ succeeded → (x : Document) × (document_of_text input ≡ Ok x) × ((document_reply r).text ≡ lines_text x)
replied input (Ok x) is e = (x, is, refl)
replied input (Err f) is e = absurd (omega (arith, e))

with_line : (input : List ℕ) (b : Bool) → (cond b (document_reply (document_of_text input)) input_refusal).status ≡ succeeded
    → (x : Document) × (document_of_text input ≡ Ok x) × ((cond b (document_reply (document_of_text input)) input_refusal).text ≡ lines_text x)
with_line input true e = replied input (document_of_text input) refl e
with_line input false e = absurd (omega (arith, e))

pub propose_reads_replies : (input : List ℕ) → AreBytes input → length input ≤ input_limit → (lines_reply input).status ≡ succeeded
    → (x : Document) × (document_of_text input ≡ Ok x) × ((lines_reply input).text ≡ lines_text x) × IsProposed x
propose_reads_replies input all short e =
    let (x, said, text) = with_line input (is_utf8 input) e in
    (x, said, text, propose_reads_texts input x all short said)

pub propose_answers_texts : (text : List ℕ) (x : Document) (reply : Reply) → AreBytes text → length text ≤ input_limit → document_of_text text ≡ Ok x → IsProposeReply (lines_text x) reply → IsPoolReply (input_of x) reply
propose_answers_texts text x reply all short e answered = subst (λ r. IsReplyToLines r reply) (propose_reads_texts text x all short e) answered

-- The lines of a document are read as the ledger, the header and the calls that they encode.
use Rattle.std.proofs.Common.{◌≡◌, ℕ, ◌+◌, ◌<◌, List, [], ◌∷◌, ◌++◌, length, Ok, refl, sym, ap, ◌∙◌, append_assoc, append-nil, length-append, arith}
use Rattle.std.specs.Str.Lines.{lines}
use Rattle.hex.specs.Hex.{encode_lower}
use Rattle.teal_value.specs.Answer.{◌>>=◌}
use Rattle.avm_ledger.specs.declared.header.Header.{Header}
use Rattle.avm_ledger.specs.LedgerReader.{ledger_at}
use Rattle.avm_ledger.specs.LedgerRules.{IsCountable, KeepsRules}
use Rattle.avm_ledger.specs.Ledgers.{Ledger}
use Rattle.avm_ledger.specs.Encodings.{header_bytes, ledger_bytes, string_bytes, u64_bytes}
use Rattle.avm_ledger.proofs.FieldsBack.{then}
use Rattle.avm_ledger.proofs.LedgerBack.{ledger_back_alone}
use Rattle.avm_items.specs.declared.call_data.CallData.{CallData}
use Rattle.avm_call_codec.specs.CallEncoding.{call_bytes, lists_bytes, programs_bytes, target_bytes}
use Rattle.avm_call_codec.proofs.CallBack.{call_back_alone}
use Rattle.avm_call.specs.CallRules.{call_fault}
use Rattle.avm_block.specs.BlockReader.{header_at}
use Rattle.avm_block.specs.BlockRoundTrip.{IsHeader}
use Rattle.avm_block.proofs.BlockBack.{header_back as header_front}
use Rattle.avm_input.specs.BlockLines.{first_ledger, needed_bytes, on_ledger}
use Rattle.avm_input.specs.CallLines.{checked_call, on_bytes, unless_broken}
use Rattle.avm_input.specs.DigitLines.{DigitLine, line_bytes, lines_after, on_digits}
use Rattle.avm_rule_laws.specs.Rules.{AreBytes}
use Rattle.json_documents.specs.Lines.{line}
use Rattle.json_laws.specs.Accepted.{IsAllowedCall}
use Rattle.json_laws.proofs.DigitTexts.{digits_back, digits_first, not_blank}

-- ---- a line

-- the line with a number that some bytes are encoded in
abbrev pub encoded_line : ℕ → List ℕ → DigitLine
encoded_line n bytes = record { number = n; digits = encode_lower bytes }

-- a line that encodes some bytes comes first, and those after it have the next numbers
pub line_first : (before : ℕ) (bytes rest : List ℕ) → AreBytes bytes → 0 < length bytes → lines_after before (lines (line bytes ++ rest)) ≡ encoded_line (before + 1) bytes ∷ lines_after (before + 1) (lines rest)
line_first before bytes rest all some =
    ap (λ t. lines_after before (lines t)) (append_assoc (encode_lower bytes) (10 ∷ []) rest)
    ∙ ap (lines_after before) (digits_first bytes rest all)
    ∙ rw (not_blank bytes all some) refl

-- the line is read as its bytes
pub encoded_bytes : (n : ℕ) (bytes : List ℕ) → AreBytes bytes → line_bytes (encoded_line n bytes) ≡ Ok bytes
encoded_bytes n bytes all = ap (on_digits n) (digits_back bytes all)

-- where a line is needed, the first is taken and the others are left
pub needed_first : (n : ℕ) (bytes : List ℕ) (more : List DigitLine) → AreBytes bytes → needed_bytes (encoded_line n bytes ∷ more) ≡ Ok (bytes, more)
needed_first n bytes more all = then (line_bytes (encoded_line n bytes)) bytes (λ b. Ok (b, more)) (Ok (bytes, more)) (encoded_bytes n bytes all) refl

-- ---- ledgers

-- a ledger encoded in bytes that keeps the rules and is countable is read from the first line
pub ledger_first : (n : ℕ) (l : Ledger) (more : List DigitLine) → KeepsRules l → IsCountable l → AreBytes (ledger_bytes l) → first_ledger (encoded_line n (ledger_bytes l) ∷ more) ≡ Ok (l, more)
ledger_first n l more keeps countable all =
    then (needed_bytes (encoded_line n (ledger_bytes l) ∷ more)) (ledger_bytes l, more) (λ first. on_ledger (ledger_at first.0) >>= λ k. Ok (k, first.1)) (Ok (l, more)) (needed_first n (ledger_bytes l) more all)
    (ap (λ r. on_ledger r >>= λ k. Ok (k, more)) (ledger_back_alone l keeps countable))

-- ---- headers

pub header_back : (h : Header) → IsHeader h → header_at h.profile (header_bytes h) ≡ Ok (h, [])
header_back h is = ap (header_at h.profile) (sym (append-nil (header_bytes h))) ∙ header_front h [] is

-- ---- calls

-- a call that breaks no rule of calls is read back from its bytes, and is accepted
pub call_back_checked : (c : CallData) → IsAllowedCall c → checked_call (call_bytes c) ≡ Ok c
call_back_checked c is = ap (λ r. on_bytes r >>= λ fields. unless_broken fields (call_fault fields)) (call_back_alone c is.fields) ∙ ap (unless_broken c) is.rules

-- ---- no encoding is empty

more_left : (a b : List ℕ) → 0 < length a → 0 < length (a ++ b)
more_left a b h = omega (arith, length-append a b)

pub ledger_not_empty : (l : Ledger) → 0 < length (ledger_bytes l)
ledger_not_empty l = omega arith

pub header_not_empty : (h : Header) → 0 < length (header_bytes h)
header_not_empty h = omega arith

pub call_not_empty : (c : CallData) → IsAllowedCall c → 0 < length (call_bytes c)
call_not_empty c is =
    more_left _ (programs_bytes c) (more_left _ (lists_bytes c) (more_left _ (target_bytes c)
    (more_left _ (string_bytes c.note) (more_left _ (u64_bytes c.last_valid) (more_left _ (u64_bytes c.first_valid) (more_left c.sender.0 (u64_bytes c.fee) (omega (arith, is.fields.sender))))))))

-- What is shown of an input is read back.
use Rattle.std.proofs.Common.{◌≡◌, ℕ, ◌<◌, List, [], ◌∷◌, All, Option, Some, None, Result, Ok, Err, refl, sym, ap, ◌∙◌, subst}
use Rattle.std.specs.Prelude.{if◌then◌else◌}
use Rattle.std.proofs.lemmas.List.Elements.{All-from_get_or}
use Rattle.sha2.specs.Sha256.{sha256}
use Rattle.hex.specs.Hex.{decode_of}
use Rattle.hex.proofs.HexLemmas.{decode_of-ok}
use Rattle.hex.specs.declared.error.FromHexError.{FromHexError}
use Rattle.base64.specs.GeneralPurpose.{IsBytes}
use Rattle.teal_value.specs.Answer.{◌>>=◌}
use Rattle.avm_ledger.specs.declared.ledger_fault.LedgerFault.{LedgerFault}
use Rattle.avm_ledger.specs.Ledgers.{Ledger}
use Rattle.avm_ledger.specs.LedgerReader.{ledger_at}
use Rattle.avm_ledger.specs.LedgerRules.{KeepsRules}
use Rattle.avm_ledger.proofs.LedgerKept.{ledger_kept}
use Rattle.avm_ledger.proofs.LedgerEncoded.{ledger_encoded}
use Rattle.avm_block.specs.declared.block_fault.BlockFault.{BlockFault}
use Rattle.avm_block.specs.AcceptedCalls.{is_accepted}
use Rattle.avm_block.specs.BlockReader.{block_at}
use Rattle.avm_block.specs.BlockRoundTrip.{IsBlock}
use Rattle.avm_block.specs.BlockEncoding.{body_bytes}
use Rattle.avm_block.specs.Blocks.{Block, calls_of}
use Rattle.avm_block.proofs.BlockEncoded.{block_encoded}
use Rattle.avm_input.specs.BlockLines.{first_ledger, needed_bytes, on_block, on_ledger}
use Rattle.avm_input.specs.DigitLines.{DigitLine, digit_lines, first_bytes, line_bytes, on_digits, with_no_line}
use Rattle.avm_input.specs.Replies.{input_refusal, succeeded}
use Rattle.avm_rule_laws.specs.Rules.{AreBytes, IsCallOfBytes}
use Rattle.json.specs.Json.{Json}
use Rattle.json_documents.specs.Documents.{Document, document}
use Rattle.json_documents.specs.Lines.{lines_text}
use Rattle.json_documents.specs.Reading.{document_of_text, on_value}
use Rattle.json_documents.specs.Replies.{document_reply, lines_reply}
use Rattle.json_views.specs.Documents.{document_text}
use Rattle.json_views.specs.Show.{block_behind, ledger_and_maybe_block, show_reply, shown_both, shown_reply}
use Rattle.json_views.specs.ShownBlocks.{shown_block}
use Rattle.json_views.specs.ShownLedgers.{shown_ledger}
use Rattle.json_laws.specs.OfBytes.{IsWholeLedgerOfBytes}
use Rattle.json_laws.specs.ReadBack.{shown_as}
use Rattle.json_laws.proofs.BlocksBack.{shown_block_back}
use Rattle.json_laws.proofs.LedgersBack.{shown_ledger_back}
use Rattle.json_laws.proofs.ShownBlockTexts.{block_shown}
use Rattle.json_laws.proofs.ShownLedgerTexts.{ledger_shown}
use Rattle.json_laws.proofs.EncodedCalls.{block_parts}
use Rattle.json_laws.proofs.EncodedParts.{front_part, ledger_parts}
use Rattle.json_laws.proofs.TextsBack.{IsTextOf, text_back}

-- ---- what was read

bound : {A B F : Type 0} (r : Result A F) (f : A → Result B F) (y : B) → (r >>= f) ≡ Ok y → (x : A) × (r ≡ Ok x) × (f x ≡ Ok y)
bound (Ok x) f y e = (x, refl, e)
bound (Err e) f y h = absurd cc

ok_same : {A F : Type 0} (x y : A) → ◌≡◌ {A = Result A F} (Ok x) (Ok y) → x ≡ y
ok_same x y e = cc

-- a ledger as it is read from bytes
record IsReadLedger (l : Ledger) : Type 0 where
  rules : KeepsRules l
  of_bytes : IsWholeLedgerOfBytes l

-- a block as it is read from bytes
record IsReadBlock (b : Block) : Type 0 where
  rules : IsBlock is_accepted b
  of_bytes : All IsCallOfBytes (calls_of b)

are_bytes : (s : List ℕ) → IsBytes s → AreBytes s
are_bytes s h = All-from_get_or (λ b. b < 256) s 0 (λ i lt. h i)

digits_read : (number : ℕ) (r : Result (List ℕ) FromHexError) (bytes : List ℕ) → on_digits number r ≡ Ok bytes → r ≡ Ok bytes
digits_read number (Ok s) bytes e = ap Ok (ok_same s bytes e)
digits_read number (Err f) bytes e = absurd cc

line_of_bytes : (line : DigitLine) (bytes : List ℕ) → line_bytes line ≡ Ok bytes → AreBytes bytes
line_of_bytes line bytes e = are_bytes bytes (decode_of-ok line.digits bytes (digits_read line.number (decode_of line.digits) bytes e)).3

ledger_read : (r : Result Ledger LedgerFault) (l : Ledger) → on_ledger r ≡ Ok l → r ≡ Ok l
ledger_read (Ok m) l e = ap Ok (ok_same m l e)
ledger_read (Err f) l e = absurd cc

block_read : (r : Result Block BlockFault) (b : Block) → on_block r ≡ Ok b → r ≡ Ok b
block_read (Ok c) b e = ap Ok (ok_same c b e)
block_read (Err f) b e = absurd cc

ledger_is_read : (lines : List DigitLine) (x : Ledger × List DigitLine) → first_ledger lines ≡ Ok x → IsReadLedger x.0
ledger_is_read [] x e = absurd cc
ledger_is_read (line ∷ more) x e =
    let first = bound (needed_bytes (line ∷ more)) _ x e in
    let bytes = bound (line_bytes line) _ first.0 first.1 in
    let same : bytes.0 ≡ first.0.0 = ap (λ p. p.0) (ok_same (bytes.0, more) first.0 bytes.2) in
    let all : AreBytes first.0.0 = subst AreBytes same (line_of_bytes line bytes.0 bytes.1) in
    let ledger = bound (on_ledger (ledger_at first.0.0)) _ x first.2 in
    let read : ledger_at first.0.0 ≡ Ok x.0 = ledger_read (ledger_at first.0.0) ledger.0 ledger.1 ∙ ap (λ p. Ok p.0) (ok_same (ledger.0, first.0.1) x ledger.2) in
    record { rules = (ledger_kept first.0.0 x.0 all read).0; of_bytes = ledger_parts x.0 (subst AreBytes (sym (ledger_encoded first.0.0 x.0 all read)) all) }

-- the same, where there is a block
IsReadIfThere : Option Block → Type 0
IsReadIfThere None = Unit {0}
IsReadIfThere (Some b) = IsReadBlock b

no_line_left : (lines : List DigitLine) (b c : Option Block) → with_no_line lines b ≡ Ok c → b ≡ c
no_line_left [] b c e = ok_same b c e
no_line_left (line ∷ more) b c e = absurd cc

one_block_is_read : (bytes : List ℕ) (b : Block) → AreBytes bytes → block_at is_accepted bytes ≡ Ok b → IsReadBlock b
one_block_is_read bytes b all e =
    let encoded = block_encoded is_accepted bytes b all e in
    record { rules = encoded.1; of_bytes = block_parts b encoded.1 (front_part (body_bytes b) (sha256 (body_bytes b)) (subst AreBytes (sym encoded.0) all)) }

block_is_read : (bytes : Option (List ℕ)) (rest : List DigitLine) (b : Option Block) → ((s : List ℕ) → bytes ≡ Some s → AreBytes s) → block_behind bytes rest ≡ Ok b → IsReadIfThere b
unfolding IsReadIfThere
block_is_read None rest b all e = subst IsReadIfThere (ok_same None b e) tt
block_is_read (Some s) rest b all e =
    let block = bound (on_block (block_at is_accepted s)) _ b e in
    subst IsReadIfThere (no_line_left rest (Some block.0) b block.2) (one_block_is_read s block.0 (all s refl) (block_read (block_at is_accepted s) block.0 block.1))

second_of_bytes : (lines : List DigitLine) (second : Option (List ℕ) × List DigitLine) → first_bytes lines ≡ Ok second → (s : List ℕ) → second.0 ≡ Some s → AreBytes s
second_of_bytes [] second e s is = let none : None ≡ second.0 = ap (λ p. p.0) (ok_same (None, []) second e) in absurd cc
second_of_bytes (line ∷ more) second e s is =
    let bytes = bound (line_bytes line) _ second e in
    let some : Some bytes.0 ≡ second.0 = ap (λ p. p.0) (ok_same (Some bytes.0, more) second bytes.2) in
    let same : bytes.0 ≡ s = cc in
    subst AreBytes same (line_of_bytes line bytes.0 bytes.1)

both_are_read : (lines : List DigitLine) (l : Ledger) (b : Option Block) → ledger_and_maybe_block lines ≡ Ok (l, b) → IsReadLedger l × IsReadIfThere b
both_are_read lines l b e =
    let ledger = bound (first_ledger lines) _ (l, b) e in
    let second = bound (first_bytes ledger.0.1) _ (l, b) ledger.2 in
    let block = bound (block_behind second.0.0 second.0.1) _ (l, b) second.2 in
    let same = ok_same (ledger.0.0, block.0) (l, b) block.2 in (
      subst IsReadLedger (ap (λ p. p.0) same) (ledger_is_read lines ledger.0 ledger.1),
      subst IsReadIfThere (ap (λ p. p.1) same) (block_is_read second.0.0 second.0.1 block.0 (second_of_bytes ledger.0.1 second.0 second.1) block.1),
    )

-- ---- what is answered

answered : (j : Json) (x : Document) → IsTextOf (document_text j) j → document j ≡ Ok x → lines_reply (document_text j) ≡ record { text = lines_text x; status = succeeded }
answered j x of e =
    ap (λ b. if b then document_reply (document_of_text (document_text j)) else input_refusal) of.utf8 ∙ ap (λ o. document_reply (on_value o)) of.value ∙ ap document_reply e

both_answered : (l : Ledger) (b : Option Block) → IsReadLedger l → IsReadIfThere b → lines_reply (document_text (shown_both l b)) ≡ record { text = lines_text (shown_as l b); status = succeeded }
unfolding IsReadIfThere
both_answered l None ledger block =
    answered (shown_ledger l) _ (text_back (shown_ledger l) (ledger_shown l ledger.rules ledger.of_bytes)) (shown_ledger_back l ledger.rules ledger.of_bytes)
both_answered l (Some b) ledger block =
    answered (shown_block l b) _ (text_back (shown_block l b) (block_shown l b ledger.rules ledger.of_bytes block.rules block.of_bytes)) (shown_block_back l b ledger.rules ledger.of_bytes block.rules block.of_bytes)

pub shown_inputs_back : (input : List ℕ) (l : Ledger) (b : Option Block) → ledger_and_maybe_block (digit_lines input) ≡ Ok (l, b)
    → lines_reply (show_reply input).text ≡ record { text = lines_text (shown_as l b); status = succeeded }
shown_inputs_back input l b e =
    let read = both_are_read (digit_lines input) l b e in
    ap (λ r. lines_reply (shown_reply r).text) e ∙ both_answered l b read.0 read.1

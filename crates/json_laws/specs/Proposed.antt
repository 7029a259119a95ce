-- That `propose` reads the lines of an accepted document. The statements of the laws.
use Rattle.std.specs.Prelude.{◌≡◌, ◌≤◌, ℕ, List, length, Ok}
use Rattle.avm_ledger.specs.LedgerRules.{IsCountable}
use Rattle.avm_input.specs.Answers.{input_limit}
use Rattle.avm_input.specs.DigitLines.{digit_lines}
use Rattle.avm_input.specs.Replies.{Reply, succeeded}
use Rattle.avm_input.specs.ProposeInputs.{ProposeInput, propose_input}
use Rattle.avm_node.specs.ProposeCommands.{IsPoolReply, IsProposeReply}
use Rattle.avm_rule_laws.specs.Rules.{AreBytes}
use Rattle.json.specs.Json.{Json}
use Rattle.json_documents.specs.Documents.{Document, document}
use Rattle.json_documents.specs.Lines.{lines_text}
use Rattle.json_documents.specs.Reading.{document_of_text}
use Rattle.json_documents.specs.Replies.{lines_reply}
use Rattle.json_laws.specs.OfBytes.{HasStringsOfBytes}

-- what a document says, as what `propose` reads
abbrev pub input_of : Document → ProposeInput
input_of x = record { base = x.ledger; header = x.header; calls = x.calls }

-- its lines are read as what it says
abbrev pub IsProposed : Document → Type 0
IsProposed x = propose_input (digit_lines (lines_text x)) ≡ Ok (input_of x)

-- So it is of each accepted document whose strings are of bytes, and whose applications and local states four bytes count.
abbrev pub ProposeReadsDocuments : Type 0
ProposeReadsDocuments = (j : Json) (x : Document) → HasStringsOfBytes j → document j ≡ Ok x → IsCountable x.ledger → IsProposed x

-- So it is of each text of bytes that is an accepted document, and no longer than an input may be.
abbrev pub ProposeReadsTexts : Type 0
ProposeReadsTexts = (text : List ℕ) (x : Document) → AreBytes text → length text ≤ input_limit → document_of_text text ≡ Ok x → IsProposed x

-- So whatever `lines` writes where it succeeds is an input that `propose` reads as the document.
abbrev pub ProposeReadsReplies : Type 0
ProposeReadsReplies = (input : List ℕ) → AreBytes input → length input ≤ input_limit → (lines_reply input).status ≡ succeeded
    → (x : Document) × (document_of_text input ≡ Ok x) × ((lines_reply input).text ≡ lines_text x) × IsProposed x

-- So `propose` answers such lines, where they are no longer than an input may be, with a proposal of the document's calls over
-- its ledger, or that threads or timestamps are wanting, and never that it can't read them. Calls are never too many: those of
-- an accepted document are no more than a block takes.
abbrev pub ProposeAnswersTexts : Type 0
ProposeAnswersTexts =
    (text : List ℕ) (x : Document) (reply : Reply) → AreBytes text → length text ≤ input_limit → document_of_text text ≡ Ok x → IsProposeReply (lines_text x) reply
    → IsPoolReply (input_of x) reply

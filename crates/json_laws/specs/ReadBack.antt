-- That what is shown as JSON is read back. The statements of the laws.
use Rattle.std.specs.Prelude.{◌≡◌, ℕ, List, [], All, Option, None, Some, Ok}
use Rattle.avm_ledger.specs.declared.header.Header.{Header}
use Rattle.avm_ledger.specs.declared.header.Profile.TheVariants.{Three}
use Rattle.avm_ledger.specs.LedgerRules.{KeepsRules}
use Rattle.avm_ledger.specs.Ledgers.{Ledger, empty_ledger}
use Rattle.avm_block.specs.AcceptedCalls.{is_accepted}
use Rattle.avm_block.specs.BlockRoundTrip.{IsBlock}
use Rattle.avm_block.specs.Blocks.{Block, calls_of}
use Rattle.avm_input.specs.DigitLines.{digit_lines}
use Rattle.avm_input.specs.Replies.{succeeded}
use Rattle.avm_rule_laws.specs.Rules.{IsCallOfBytes}
use Rattle.json.specs.Json.{no_members, object}
use Rattle.json_documents.specs.Documents.{Document, document}
use Rattle.json_documents.specs.Lines.{lines_text}
use Rattle.json_documents.specs.Replies.{lines_reply}
use Rattle.json_views.specs.Show.{ledger_and_maybe_block, show_reply}
use Rattle.json_views.specs.ShownBlocks.{shown_block}
use Rattle.json_views.specs.ShownLedgers.{shown_ledger}
use Rattle.json_laws.specs.OfBytes.{IsWholeLedgerOfBytes}

-- the header of a document that gives none
abbrev pub default_header : Header
default_header = record { profile = Three; round = 0; latest_timestamp = 0; min_fee = 1000; min_balance = 100000; max_life = 1000 }

-- What a document says that shows a ledger, and maybe a block: the ledger, and the header and the calls of the block. The profile
-- that is shown is not read, for every document is of profile 3: so the header is the block's own where this is its profile.
abbrev pub shown_as : Ledger → Option Block → Document
shown_as l None = record { ledger = l; header = default_header; calls = [] }
shown_as l (Some b) = record { ledger = l; header = record b.header { profile = Three }; calls = calls_of b }

-- A document without members gives no header: it says the ledger without applications, the default header, and no calls.
abbrev pub EmptyDocumentsAreRead : Type 0
EmptyDocumentsAreRead = document (object no_members) ≡ Ok (shown_as empty_ledger None)

-- A ledger that keeps the rules, and is of bytes, is read back from how it is shown.
abbrev pub ShownLedgersReadBack : Type 0
ShownLedgersReadBack = (l : Ledger) → KeepsRules l → IsWholeLedgerOfBytes l → document (shown_ledger l) ≡ Ok (shown_as l None)

-- So is a block beside it, whose calls break no rule of calls and are of bytes, as its header and its calls.
abbrev pub ShownBlocksReadBack : Type 0
ShownBlocksReadBack = (l : Ledger) (b : Block) → KeepsRules l → IsWholeLedgerOfBytes l → IsBlock is_accepted b → All IsCallOfBytes (calls_of b) → document (shown_block l b) ≡ Ok (shown_as l (Some b))

-- The document that `show` answers to an input, `lines` answers with the lines of what was shown: the ledger, the header and
-- the calls. How long the document is, is not asked here: `lines` refuses one that is longer than an input may be.
abbrev pub ShownInputsReadBack : Type 0
ShownInputsReadBack =
    (input : List ℕ) (l : Ledger) (b : Option Block) → ledger_and_maybe_block (digit_lines input) ≡ Ok (l, b)
    → lines_reply (show_reply input).text ≡ record { text = lines_text (shown_as l b); status = succeeded }

-- What can be read back from a page.
use Rattle.std.specs.Prelude.{◌≡◌, ℕ, List, ◌++◌, Ok, All, Contains, codes}
use Rattle.base64.specs.Engines.{standard}
use Rattle.base64.specs.GeneralPurpose.{IsBytes, decode_of, encode_of}
use Rattle.avm_ledger.specs.Ledgers.{Ledger}
use Rattle.avm_block.specs.Blocks.{Block}
use Rattle.json_views.specs.Documents.{document_text}
use Rattle.json_commands.specs.declared.texts.TheConstants.{BEGINNING, END}
use Rattle.json_commands.specs.declared.traces.Traces.{Traces}
use Rattle.json_commands.specs.Pages.{IsPage, number_of, page_document}

-- the alphabet of base64, and the character that pads
abbrev pub alphabet : List ℕ
alphabet = codes "ABCDEFGHIJKLMNOPQRSTUVWXYZabcdefghijklmnopqrstuvwxyz0123456789+/="

-- characters of the alphabet alone, which are decoded to these bytes
pub record Encodes (symbols bytes : List ℕ) : Type 0 where
  pub alone : All (λ c. Contains alphabet c) symbols
  pub decodes : decode_of standard symbols ≡ Ok bytes

abbrev pub Base64ReadsBack : Type 0
Base64ReadsBack = (bytes : List ℕ) → IsBytes bytes → Encodes (encode_of standard bytes) bytes

-- between the fixed texts of a page stands what encodes the text of its document
abbrev pub PagesReadBack : Type 0
PagesReadBack =
    (traces : Traces) (base : Ledger) (b : Block) (page : List ℕ) → (is : IsPage traces base b page)
    → (symbols : List ℕ) × (page ≡ BEGINNING.now ++ (symbols ++ END.now)) × Encodes symbols (document_text (page_document base b (number_of traces) is.verdict is.trace))

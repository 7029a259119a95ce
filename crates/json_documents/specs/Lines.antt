-- The lines that a document becomes.
use Rattle.std.specs.Prelude.{ℕ, List, ◌++◌, codes}
use Rattle.std.specs.List.{flat_map}
use Rattle.hex.specs.Hex.{encode_lower}
use Rattle.avm_ledger.specs.Encodings.{header_bytes, ledger_bytes}
use Rattle.avm_items.specs.declared.call_data.CallData.{CallData}
use Rattle.avm_call_codec.specs.CallEncoding.{call_bytes}
use Rattle.json_documents.specs.Documents.{Document}

abbrev pub line : List ℕ → List ℕ
line bytes = encode_lower bytes ++ codes "\n"

abbrev pub call_line : CallData → List ℕ
call_line call = line (call_bytes call)

-- what `propose` reads: a line for the ledger, one for the header, and one for each call
abbrev pub lines_text : Document → List ℕ
lines_text x = line (ledger_bytes x.ledger) ++ line (header_bytes x.header) ++ flat_map call_line x.calls

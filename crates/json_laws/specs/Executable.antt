-- That the calls of an accepted document may be executed over its ledger. The statements of the laws.
use Rattle.std.specs.Prelude.{◌≡◌, ℕ, List, take, All, Ok}
use Rattle.avm_call.specs.Replay.{replayed}
use Rattle.avm_rule_laws.specs.Rules.{AreBytes, IsSound, MayCall}
use Rattle.avm_rule_laws.specs.ReadBlocks.{IsReadable}
use Rattle.json.specs.Json.{Json}
use Rattle.json_documents.specs.Documents.{Document, document}
use Rattle.json_documents.specs.Reading.{document_of_text}
use Rattle.json_laws.specs.OfBytes.{HasStringsOfBytes}

-- The ledger keeps the rules and is of bytes, the calls may be made in a block with the header, and any number of them, from
-- the first, lead to a ledger that keeps the rules, and that is read back from its bytes where four bytes count its applications
-- and local states. How many these are after the calls, no law says.
pub record MayBeExecuted (x : Document) : Type 0 where
  pub ledger : IsSound x.ledger
  pub calls : All (λ call. MayCall call x.header) x.calls
  pub after : (n : ℕ) → IsReadable (replayed x.ledger x.header (take n x.calls))

-- So it is of each accepted document whose strings are of bytes.
abbrev pub AcceptedDocumentsMayBeExecuted : Type 0
AcceptedDocumentsMayBeExecuted = (j : Json) (x : Document) → HasStringsOfBytes j → document j ≡ Ok x → MayBeExecuted x

-- So it is of each text of bytes that is an accepted document.
abbrev pub AcceptedTextsMayBeExecuted : Type 0
AcceptedTextsMayBeExecuted = (text : List ℕ) (x : Document) → AreBytes text → document_of_text text ≡ Ok x → MayBeExecuted x

-- What documents that are accepted keep. The statements of the laws.
use Rattle.std.specs.Prelude.{◌≡◌, ◌≤◌, ℕ, List, length, All, Ok, None}
use Rattle.avm_ledger.specs.declared.header.Profile.TheVariants.{Three}
use Rattle.avm_ledger.specs.LedgerRules.{KeepsRules}
use Rattle.avm_items.specs.declared.call_data.CallData.{CallData}
use Rattle.avm_call_codec.specs.CallRoundTrip.{HasFields}
use Rattle.avm_call.specs.CallRules.{call_fault}
use Rattle.avm_block.specs.BlockRoundTrip.{IsHeader}
use Rattle.avm_block.specs.Blocks.{most_calls}
use Rattle.json.specs.Json.{Json}
use Rattle.json_documents.specs.Documents.{Document, document}
use Rattle.json_documents.specs.Reading.{document_of_text}

-- a call whose fields are within their sizes, and break no rule of calls
pub record IsAllowedCall (c : CallData) : Type 0 where
  pub fields : HasFields c
  pub rules : call_fault c ≡ None

-- The ledger keeps the rules of ledgers, the header may stand in a block with calls of all versions, no call breaks a rule
-- of calls, and there are no more calls than a block takes.
pub record KeepsAllRules (x : Document) : Type 0 where
  pub ledger : KeepsRules x.ledger
  pub header : IsHeader x.header
  pub profile : x.header.profile ≡ Three
  pub calls : All IsAllowedCall x.calls
  pub few : length x.calls ≤ most_calls

-- So it is of each accepted document.
abbrev pub AcceptedDocumentsKeepTheRules : Type 0
AcceptedDocumentsKeepTheRules = (j : Json) (x : Document) → document j ≡ Ok x → KeepsAllRules x

-- So it is of each text that is an accepted document.
abbrev pub AcceptedTextsKeepTheRules : Type 0
AcceptedTextsKeepTheRules = (text : List ℕ) (x : Document) → document_of_text text ≡ Ok x → KeepsAllRules x

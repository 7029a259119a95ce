-- What holds of each accepted document holds of each text that is one.
use Rattle.std.proofs.Common.{◌≡◌, ℕ, List, Option, Some, None, Ok, refl}
use Rattle.avm_rule_laws.specs.Rules.{AreBytes}
use Rattle.json.specs.Json.{Json}
use Rattle.json_documents.specs.Documents.{Document, document}
use Rattle.json_documents.specs.Reading.{document_of_text, on_value, value_of_text}
use Rattle.json_laws.specs.Accepted.{KeepsAllRules}
use Rattle.json_laws.specs.Executable.{MayBeExecuted}
use Rattle.json_laws.specs.OfBytes.{IsDocumentOfBytes}
use Rattle.json_laws.proofs.AcceptedDocuments.{accepted_documents_keep_the_rules}
use Rattle.json_laws.proofs.DocumentsOfBytes.{accepted_documents_are_of_bytes}
use Rattle.json_laws.proofs.ExecutableDocuments.{accepted_documents_may_be_executed}
use Rattle.json_laws.proofs.TextsOfBytes.{value_of_bytes}

-- a text that is an accepted document is the text of a value that is one
pub by_value : (P : Type 0) (text : List ℕ) (x : Document) → ((j : Json) → value_of_text text ≡ Some j → document j ≡ Ok x → P) → document_of_text text ≡ Ok x → P
by_value P text x h e = by (value_of_text text) refl e
  where
    by : (o : Option Json) → value_of_text text ≡ o → on_value o ≡ Ok x → P
    by None is e = absurd cc
    by (Some j) is e = h j is e

pub accepted_texts_keep_the_rules : (text : List ℕ) (x : Document) → document_of_text text ≡ Ok x → KeepsAllRules x
accepted_texts_keep_the_rules text x e = by_value (KeepsAllRules x) text x (λ j is said. accepted_documents_keep_the_rules j x said) e

pub accepted_texts_are_of_bytes : (text : List ℕ) (x : Document) → AreBytes text → document_of_text text ≡ Ok x → IsDocumentOfBytes x
accepted_texts_are_of_bytes text x all e = by_value (IsDocumentOfBytes x) text x (λ j is said. accepted_documents_are_of_bytes j x (value_of_bytes text j all is) said) e

pub accepted_texts_may_be_executed : (text : List ℕ) (x : Document) → AreBytes text → document_of_text text ≡ Ok x → MayBeExecuted x
accepted_texts_may_be_executed text x all e = by_value (MayBeExecuted x) text x (λ j is said. accepted_documents_may_be_executed j x (value_of_bytes text j all is) said) e

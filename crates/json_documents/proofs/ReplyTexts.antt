-- Replies, by whether the input is text.
use Rattle.std.proofs.Common.{◌≡◌, ℕ, List, refl}
use Rattle.std.specs.Str.{IsUtf8}
use Rattle.std.proofs.lemmas.Str.{is_utf8-from_IsUtf8}
use Rattle.avm_input.specs.Replies.{input_refusal}
use Rattle.avm_input.proofs.Texts.{is_utf8-false}
use Rattle.json_documents.specs.Reading.{document_of_text}
use Rattle.json_documents.specs.Replies.{document_reply, lines_reply}

-- `lines` refuses an input that is not UTF-8
pub lines_reply-not_utf8 : (input : List ℕ) → (IsUtf8 input → ⊥) → lines_reply input ≡ input_refusal
lines_reply-not_utf8 input fails = rw (is_utf8-false input fails) refl

-- `lines` answers an input in UTF-8 by reading its text as a document
pub lines_reply-utf8 : (input text : List ℕ) → IsUtf8 input → text ≡ input → lines_reply input ≡ document_reply (document_of_text text)
lines_reply-utf8 input text u same = rw (is_utf8-from_IsUtf8 input u, ← same) refl

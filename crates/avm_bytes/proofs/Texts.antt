-- Source text and words, by whether they are UTF-8.
use Rattle.std.proofs.Common.{◌≡◌, ℕ, List, [], Some, refl}
use Rattle.std.specs.Str.{IsUtf8}
use Rattle.std.proofs.lemmas.Str.{is_utf8-from_IsUtf8}
use Rattle.teal_asm.specs.Program.{assembled}
use Rattle.avm_input.proofs.Texts.{is_utf8-false}
use Rattle.avm_bytes.specs.declared.statuses.Status.TheVariants as status
use Rattle.avm_bytes.specs.Answers.{refusal}
use Rattle.avm_bytes.specs.Diagnoses.{of_source, of_text}
use Rattle.avm_bytes.specs.Programs.{assembled_answer, assembly_answer}
use Rattle.avm_bytes.specs.Troubles.{refused_for}
use Rattle.avm_bytes.specs.WordAnswers.{words_in, words_of}

-- source text that is not UTF-8 is refused
pub assembled_answer-not_utf8 : (bytes : List ℕ) → (IsUtf8 bytes → ⊥) → assembled_answer bytes ≡ refusal status.NoText
assembled_answer-not_utf8 bytes fails = rw (is_utf8-false bytes fails) refl

-- source text in UTF-8 is answered with what it assembles to
pub assembled_answer-utf8 : (bytes text : List ℕ) → IsUtf8 bytes → text ≡ bytes → assembled_answer bytes ≡ assembly_answer (assembled text)
assembled_answer-utf8 bytes text u same = rw (is_utf8-from_IsUtf8 bytes u, ← same) refl

-- source text that is not UTF-8 has no line
pub of_text-not_utf8 : (bytes : List ℕ) → (IsUtf8 bytes → ⊥) → of_text bytes ≡ Some (refused_for status.NoText 0)
of_text-not_utf8 bytes fails = rw (is_utf8-false bytes fails) refl

-- of source text in UTF-8 is wrong what is wrong with it as source text
pub of_text-utf8 : (bytes text : List ℕ) → IsUtf8 bytes → text ≡ bytes → of_text bytes ≡ of_source text
of_text-utf8 bytes text u same = rw (is_utf8-from_IsUtf8 bytes u, ← same) refl

-- ---- words

pub words_of-utf8 : (bytes text : List ℕ) → IsUtf8 bytes → text ≡ bytes → words_of bytes ≡ words_in text
words_of-utf8 bytes text u same = rw (is_utf8-from_IsUtf8 bytes u, ← same) refl

pub words_of-not_utf8 : (bytes : List ℕ) → (IsUtf8 bytes → ⊥) → words_of bytes ≡ []
words_of-not_utf8 bytes fails = rw (is_utf8-false bytes fails) refl

-- Replies, by what was read.
use Rattle.std.proofs.Common.{◌≡◌, ℕ, List, Result, refl}
use Rattle.std.specs.Str.{IsUtf8}
use Rattle.std.proofs.lemmas.Str.{is_utf8-from_IsUtf8}
use Rattle.teal_source.specs.declared.fault.AsmFault.{AsmFault}
use Rattle.teal_asm.specs.Program.{assembled}
use Rattle.avm_input.specs.Replies.{input_refusal}
use Rattle.avm_input.proofs.Texts.{is_utf8-false}
use Rattle.avm_commands.specs.Answers.{asm_reply, assembly_reply}

-- `asm` refuses an input that is not UTF-8
pub asm_reply-not_utf8 : (input : List ℕ) → (IsUtf8 input → ⊥) → asm_reply input ≡ input_refusal
asm_reply-not_utf8 input fails = rw (is_utf8-false input fails) refl

-- `asm` answers an input in UTF-8 with what it assembles to
pub asm_reply-utf8 : (input text : List ℕ) (meant : Result (List ℕ) AsmFault) → IsUtf8 input → text ≡ input
    → assembled text ≡ meant → asm_reply input ≡ assembly_reply meant
asm_reply-utf8 input text meant u same means = rw (is_utf8-from_IsUtf8 input u, ← same, means) refl

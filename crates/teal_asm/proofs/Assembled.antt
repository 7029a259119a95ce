-- What the assembler answers, from what the lines of the text mean.
use Rattle.std.proofs.Common.{◌≡◌, ℕ, ◌+◌, List, [], length, Result, Ok, Err, ap, ◌∙◌, arith}
use Rattle.std.specs.Result.{result_unwrap_or}
use Rattle.teal_value.specs.declared.failure.Failure.{Failure}
use Rattle.teal_value.specs.declared.failure.Failure.TheVariants as failure
use Rattle.teal_value.specs.Answer.{◌>>=◌, Fails}
use Rattle.teal_text.specs.declared.fault.TextFault.{TextFault}
use Rattle.teal_text.specs.Lines.{LineTokens, lines_of}
use Rattle.teal_text.specs.Unread.{all_lines}
use Rattle.teal_source.specs.declared.fault.AsmFault.{AsmFault}
use Rattle.teal_asm.specs.Meaning.{Meaning, meaning}
use Rattle.teal_asm.specs.Program.{program, short_program, line_count, assembled}
use Rattle.teal_asm.specs.Reading.{line_total, unread_meaning}

of_meaning : (text : List ℕ) (r : Result Meaning AsmFault) → unread_meaning (all_lines text) ≡ r → assembled text ≡ (r >>= λ m. short_program (line_count text) (program m))
unfolding assembled meaning
of_meaning text r e = ap (λ q. q >>= λ m. short_program (line_count text) (program m)) e

count : (r : Result (List LineTokens) TextFault) (n : ℕ) → (r >>= λ ls. Ok (0 + length ls)) ≡ Ok n → length (result_unwrap_or r []) ≡ n
count (Ok ls) n e = let same : 0 + length ls ≡ n = cc in omega (arith, same)
count (Err f) n e = absurd cc

-- where a text has no meaning, assembling it fails in the same way
pub no_meaning : (text : List ℕ) (d : Failure AsmFault) → Fails d (unread_meaning (all_lines text)) → Fails d (assembled text)
no_meaning text failure.Memory e = tt
no_meaning text (failure.Fault f) e = of_meaning text (Err f) e

-- the assembler answers the program of what the text means, if that is short enough
pub its_program : (text : List ℕ) (m : Meaning) (n : ℕ) → unread_meaning (all_lines text) ≡ Ok m → line_total (all_lines text) ≡ Ok n → assembled text ≡ short_program n (program m)
its_program text m n e total = of_meaning text (Ok m) e ∙ ap (λ k. short_program k (program m)) (count (lines_of text) n total)

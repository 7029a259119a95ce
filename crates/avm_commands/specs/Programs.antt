-- What `dis` and `check` answer to their input: one line of digits, a program.
use Rattle.std.specs.Prelude.{ℕ, ◌++◌, List, [], Option, Some, None, Result, Ok, Err, codes, decimal, length}
use Rattle.teal_value.specs.Answer.{◌>>=◌}
use Rattle.teal_check.specs.declared.fault.CheckFault.{CheckFault}
use Rattle.teal_check.specs.WellFormed.{WellFormed, checked}
use Rattle.teal_dis.specs.Listing.{listing}
use Rattle.avm_input.specs.declared.refusals.Refusal.{Refusal}
use Rattle.avm_input.specs.declared.refusals.Refusal.TheVariants as refusal
use Rattle.avm_input.specs.Replies.{Reply, succeeded}
use Rattle.avm_input.specs.Refusals.{refusal_reply}
use Rattle.avm_input.specs.DigitLines.{DigitLine, digit_lines, first_bytes, with_no_line}

-- where there is no line, there are no bytes
abbrev pub or_no_bytes : Option (List ℕ) → List ℕ
or_no_bytes None = []
or_no_bytes (Some bytes) = bytes

abbrev pub on_check : {A : Type 0} → Result A CheckFault → Result A Refusal
on_check (Ok program) = Ok program
on_check (Err fault) = Err (refusal.Check fault)

-- the program of the first line, and the lines behind it
abbrev pub first_program : List DigitLine → Result (WellFormed × List DigitLine) Refusal
first_program lines =
    first_bytes lines >>= λ first.
    on_check (checked (or_no_bytes first.0)) >>= λ program.
    Ok (program, first.1)

-- the program of the only line
abbrev pub only_program : List DigitLine → Result WellFormed Refusal
only_program lines = first_program lines >>= λ first. with_no_line first.1 first.0

abbrev pub size_text : WellFormed → List ℕ
size_text program = codes "ok instructions " ++ (decimal (length program.placed) ++ (codes " cost " ++ (decimal program.cost ++ codes "\n")))

-- a text about the program, or the refusal
abbrev pub program_reply : (WellFormed → List ℕ) → Result WellFormed Refusal → Reply
program_reply text_of (Ok program) = record { text = text_of program; status = succeeded }
program_reply text_of (Err why) = refusal_reply why

-- what `dis` answers to an input: the listing
abbrev pub dis_reply : List ℕ → Reply
dis_reply input = program_reply listing (only_program (digit_lines input))

-- what `check` answers to an input: how many instructions the program has, and what they cost together
abbrev pub check_reply : List ℕ → Reply
check_reply input = program_reply size_text (only_program (digit_lines input))

-- What is answered of programs and of source text.
use Rattle.std.specs.Prelude.{ℕ, List, Result, Ok, Err, if◌then◌else◌}
use Rattle.std.specs.Str.{is_utf8}
use Rattle.teal_check.specs.declared.fault.CheckFault.{CheckFault}
use Rattle.teal_check.specs.WellFormed.{WellFormed, checked}
use Rattle.teal_source.specs.declared.fault.AsmFault.{AsmFault}
use Rattle.teal_asm.specs.Program.{assembled}
use Rattle.teal_dis.specs.Listing.{listing}
use Rattle.avm_bytes.specs.declared.statuses.Status.{Status}
use Rattle.avm_bytes.specs.declared.statuses.Status.TheVariants as status
use Rattle.avm_bytes.specs.Answers.{Answer, done, refusal}

-- whether bytes are a program
abbrev pub check_status : Result WellFormed CheckFault → Status
check_status (Ok program) = status.Done
check_status (Err fault) = status.NoProgram

-- the program's bytes
abbrev pub assembly_answer : Result (List ℕ) AsmFault → Answer
assembly_answer (Ok program) = done program
assembly_answer (Err fault) = refusal status.NotAssembled

-- what source text assembles to
abbrev pub assembled_answer : List ℕ → Answer
assembled_answer text = if is_utf8 text then assembly_answer (assembled text) else refusal status.NoText

-- the program's listing
abbrev pub listing_answer : Result WellFormed CheckFault → Answer
listing_answer (Ok program) = done (listing program)
listing_answer (Err fault) = refusal status.NoProgram

-- the listing of the program that bytes are
abbrev pub listed_answer : List ℕ → Answer
listed_answer bytes = listing_answer (checked bytes)

-- Programs, as bytes and as source text.
use Rattle.std.specs.Prelude.{ℕ, List, Option, Some, None, Result, Ok, Err}
use Rattle.teal_value.specs.Answer.{◌>>=◌}
use Rattle.teal_check.specs.declared.fault.CheckFault.{CheckFault}
use Rattle.teal_check.specs.WellFormed.{WellFormed, checked}
use Rattle.teal_source.specs.declared.fault.AsmFault.{AsmFault}
use Rattle.teal_asm.specs.Program.{assembled}
use Rattle.json.specs.Json.{Json}
use Rattle.json_documents.specs.declared.document_fault.DocumentFault.TheVariants as what
use Rattle.json_documents.specs.Faults.{Fault, here}
use Rattle.json_documents.specs.Plain.{bytes}

abbrev pub if_checked : List ℕ → Result WellFormed CheckFault → Result (List ℕ) Fault
if_checked code (Ok w) = Ok code
if_checked code (Err f) = Err (here (what.Program f))

-- bytes that keep the rules of programs
abbrev pub checked_code : List ℕ → Result (List ℕ) Fault
checked_code code = if_checked code (checked code)

abbrev pub program : Json → Result (List ℕ) Fault
program j = bytes j >>= checked_code

abbrev pub on_source : Result (List ℕ) AsmFault → Result (List ℕ) Fault
on_source (Ok code) = Ok code
on_source (Err f) = Err (here (what.Source f))

-- the program that a source text means
abbrev pub program_of_source : List ℕ → Result (List ℕ) Fault
program_of_source text = on_source (assembled text) >>= checked_code

-- a program that a source gives, and else what the member says, which is not looked at where there is a source
abbrev pub given_or : Option (List ℕ) → Result (List ℕ) Fault → Result (List ℕ) Fault
given_or (Some code) member = Ok code
given_or None member = member

-- Which fields make a call (AVM specification, application call transactions; the limits are those of Algorand's consensus
-- protocol for such transactions), and the first rule that others break.
use Rattle.std.specs.Prelude.{ℕ, ◌+◌, ◌==◌, Bool, true, false, not, ◌&&◌, ◌||◌, nat_lt, nat_le, if◌then◌else◌, List, [], ◌∷◌, length, Option, Some, None, Result, Ok, Err}
use Rattle.teal_table.specs.declared.shape.Version.TheVariants.{Two, Three}
use Rattle.teal_check.specs.declared.fault.CheckFault.{CheckFault}
use Rattle.teal_check.specs.WellFormed.{WellFormed, checked}
use Rattle.avm_states.specs.declared.schema.Schema.{Schema}
use Rattle.avm_states.specs.Schemas.{most_global_entries, most_local_entries}
use Rattle.avm_ledger.specs.declared.header.Profile.{Profile}
use Rattle.avm_ledger.specs.declared.header.Profile.TheVariants as profile
use Rattle.avm_items.specs.declared.call_data.Completion.{Completion}
use Rattle.avm_items.specs.declared.call_data.Completion.TheVariants as completion
use Rattle.avm_items.specs.declared.call_data.CallData.{CallData}
use Rattle.avm_items.specs.CallFields.{creates, clears}
use Rattle.avm_call.specs.declared.call_fault.CallFault.{CallFault}
use Rattle.avm_call.specs.declared.call_fault.CallFault.TheVariants as fault

abbrev pub total_length : List (List ℕ) → ℕ
total_length [] = 0
total_length (s ∷ ss) = length s + total_length ss

abbrev pub updates : Completion → Bool
updates completion.UpdateApplication = true
updates _ = false

-- a creation and an update bring both programs
abbrev pub brings_programs : CallData → Bool
brings_programs call = creates call || updates call.completion

abbrev pub is_empty : List ℕ → Bool
is_empty bytes = length bytes == 0

abbrev pub lacks_programs : CallData → Bool
lacks_programs call = is_empty call.approval || is_empty call.clear

abbrev pub gives_programs : CallData → Bool
gives_programs call = not (is_empty call.approval && is_empty call.clear)

abbrev pub entries_in : Schema → ℕ
entries_in s = s.uints + s.bytes

-- a creation alone brings schemas
abbrev pub fits_schemas : CallData → Bool
fits_schemas call =
    if creates call then nat_le (entries_in call.global_schema) most_global_entries && nat_le (entries_in call.local_schema) most_local_entries
    else (entries_in call.global_schema == 0) && (entries_in call.local_schema == 0)

-- the first rule on programs and schemas that the fields break, but for those of programs themselves
abbrev pub program_and_schema_fault : CallData → Option CallFault
program_and_schema_fault call =
    if brings_programs call && lacks_programs call then Some fault.ProgramsMissing
    else if not (brings_programs call) && gives_programs call then Some fault.ProgramsGiven
    else if not (fits_schemas call) then Some fault.SchemaSize
    else if creates call && clears call.completion then Some fault.ClearOnCreate
    else None

-- what the lists of a call hold at most, and its note
abbrev pub most_accounts : ℕ
most_accounts = 4

abbrev pub most_arguments : ℕ
most_arguments = 16

abbrev pub most_argument_bytes : ℕ
most_argument_bytes = 2048

abbrev pub most_foreign_applications : ℕ
most_foreign_applications = 2

abbrev pub most_note_bytes : ℕ
most_note_bytes = 1024

-- the first rule that the fields break, but for those of programs
abbrev pub field_fault : CallData → Option CallFault
field_fault call =
    if nat_lt most_accounts (length call.accounts) then Some fault.Accounts
    else if nat_lt most_arguments (length call.arguments) then Some fault.Args
    else if nat_lt most_argument_bytes (total_length call.arguments) then Some fault.ArgBytes
    else if nat_lt most_foreign_applications (length call.foreign_applications) then Some fault.Foreign
    else if nat_lt most_note_bytes (length call.note) then Some fault.Note
    else program_and_schema_fault call

abbrev pub program_fault : Result WellFormed CheckFault → Option CallFault
program_fault (Ok w) = None
program_fault (Err f) = Some (fault.Program f)

abbrev pub or_fault : Option CallFault → Option CallFault → Option CallFault
or_fault (Some f) other = Some f
or_fault None other = other

abbrev pub programs_fault : CallData → Option CallFault
programs_fault call =
    if brings_programs call then or_fault (program_fault (checked call.approval)) (program_fault (checked call.clear)) else None

-- the first rule that the fields break
abbrev pub call_fault : CallData → Option CallFault
call_fault call = or_fault (field_fault call) (programs_fault call)

-- ---- the profile that a call needs: that of the newest version among the programs that it brings

abbrev pub is_three : Result WellFormed CheckFault → Bool
is_three (Ok w) = elim w.version [ Two ↦ false | Three ↦ true ]
is_three (Err f) = false

abbrev pub needed_profile : CallData → Profile
needed_profile call =
    if brings_programs call && (is_three (checked call.approval) || is_three (checked call.clear)) then profile.Three else profile.Two

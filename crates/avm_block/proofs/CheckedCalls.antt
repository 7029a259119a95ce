-- Of a call that breaks no rule of calls: its fields are within their sizes, and a creation brings programs.
use Rattle.std.proofs.Common.{◌≡◌, ℕ, ◌^◌, ◌<◌, ◌≤◌, Bool, true, false, ◌&&◌, ◌||◌, ltb, List, [], ◌∷◌, length, All, None, Result, Ok, Err, refl, sym, ap, ◌∙◌, arith}
use Rattle.std.specs.Prelude.{if◌then◌else◌, not}
use Rattle.std.proofs.lemmas.Bool.{eqb-true, ltb-false}
use Rattle.std.proofs.lemmas.List.Elements.{All-nil, All-cons}
use Rattle.teal_code.specs.Limits.{most_program_bytes}
use Rattle.teal_check.specs.declared.fault.CheckFault.{CheckFault}
use Rattle.teal_check.specs.WellFormed.{WellFormed, checked}
use Rattle.teal_check.proofs.CheckedPrograms.{is_checked}
use Rattle.avm_items.specs.declared.call_data.CallData.{CallData}
use Rattle.avm_items.specs.CallFields.{creates}
use Rattle.avm_call_codec.specs.CallRoundTrip.{IsAddress, IsStringField, IsWord, HasFields}
use Rattle.avm_call.specs.declared.call_fault.CallFault.TheVariants as fault
use Rattle.avm_call.specs.Ends.{is_program}
use Rattle.avm_call.specs.CallRules.{total_length, updates, is_empty, brings_programs, lacks_programs, gives_programs, field_fault, program_fault, or_fault, programs_fault, call_fault, most_note_bytes, most_arguments, most_argument_bytes, most_accounts, most_foreign_applications}
use Rattle.avm_call.proofs.CallFaults.{no_fault, none_of_both, program_passes}

-- what the types of the fields say
pub record HasSizes (c : CallData) : Type 0 where
  pub sender : IsAddress c.sender
  pub fee : IsWord c.fee
  pub first_valid : IsWord c.first_valid
  pub last_valid : IsWord c.last_valid
  pub lease : length c.lease ≡ 32
  pub rekey_to : IsAddress c.rekey_to
  pub application : IsWord c.application
  pub accounts : All IsAddress c.accounts
  pub foreign_applications : All IsWord c.foreign_applications
  pub global_uints : c.global_schema.uints < 256
  pub global_strings : c.global_schema.bytes < 256
  pub local_uints : c.local_schema.uints < 256
  pub local_strings : c.local_schema.bytes < 256

-- ---- programs

program_short : (bytes : List ℕ) (r : Result WellFormed CheckFault) → checked bytes ≡ r → program_fault r ≡ None → length bytes ≤ most_program_bytes
program_short bytes (Ok w) is e = (is_checked bytes w is).short
program_short bytes (Err f) is e = absurd cc

-- what a creation brings
pub creation_programs : (c : CallData) → call_fault c ≡ None → creates c ≡ true → (is_program c.approval ≡ true) × (is_program c.clear ≡ true)
creation_programs c e new =
    let programs = or_fault (program_fault (checked c.approval)) (program_fault (checked c.clear)) in
    let brings : brings_programs c ≡ true = ap (λ b. b || updates c.completion) new in
    let pass : programs ≡ None = sym (ap (λ b. if b then programs else None) brings) ∙ (none_of_both (field_fault c) (programs_fault c) e).1 in
    let parts = none_of_both (program_fault (checked c.approval)) (program_fault (checked c.clear)) pass in
    (program_passes (checked c.approval) parts.0, program_passes (checked c.clear) parts.1)

both_empty : (a b : Bool) → not (a && b) ≡ false → (a ≡ true) × (b ≡ true)
both_empty true true e = (refl, refl)
both_empty true false e = absurd cc
both_empty false b e = absurd cc

empty_short : (bytes : List ℕ) → is_empty bytes ≡ true → length bytes ≤ most_program_bytes
empty_short bytes e = let none : length bytes ≡ 0 = eqb-true (length bytes) 0 e in omega arith

programs_short : (c : CallData) (b : Bool) → brings_programs c ≡ b → (not b && gives_programs c) ≡ false → (if b then or_fault (program_fault (checked c.approval)) (program_fault (checked c.clear)) else None) ≡ None
    → (length c.approval ≤ most_program_bytes) × (length c.clear ≤ most_program_bytes)
programs_short c true is given pass =
    let parts = none_of_both (program_fault (checked c.approval)) (program_fault (checked c.clear)) pass in
    (program_short c.approval (checked c.approval) refl parts.0, program_short c.clear (checked c.clear) refl parts.1)
programs_short c false is given pass =
    let parts = both_empty (is_empty c.approval) (is_empty c.clear) given in
    (empty_short c.approval parts.0, empty_short c.clear parts.1)

-- ---- byte strings

each_short : (ss : List (List ℕ)) (most : ℕ) → total_length ss ≤ most → most < 2 ^ 16 → All IsStringField ss
each_short [] most within small = All-nil IsStringField
each_short (s ∷ ss) most within small = All-cons IsStringField s ss (omega arith) (each_short ss most (omega arith) small)

-- ---- all fields

-- a call whose sizes are those of its types and that breaks no rule has fields within limits
pub fields_fit : (c : CallData) → call_fault c ≡ None → HasSizes c → HasFields c
fields_fit c e sizes =
    let parts = none_of_both (field_fault c) (programs_fault c) e in
    let accounts = no_fault (ltb most_accounts (length c.accounts)) fault.Accounts _ parts.0 in
    let arguments = no_fault (ltb most_arguments (length c.arguments)) fault.Args _ accounts.1 in
    let bytes = no_fault (ltb most_argument_bytes (total_length c.arguments)) fault.ArgBytes _ arguments.1 in
    let foreign = no_fault (ltb most_foreign_applications (length c.foreign_applications)) fault.Foreign _ bytes.1 in
    let note = no_fault (ltb most_note_bytes (length c.note)) fault.Note _ foreign.1 in
    let missing = no_fault (brings_programs c && lacks_programs c) fault.ProgramsMissing _ note.1 in
    let given = no_fault (not (brings_programs c) && gives_programs c) fault.ProgramsGiven _ missing.1 in
    let programs = programs_short c (brings_programs c) refl given.0 parts.1 in
    record {
      sender = sizes.sender;
      fee = sizes.fee;
      first_valid = sizes.first_valid;
      last_valid = sizes.last_valid;
      note = omega (arith, ltb-false most_note_bytes (length c.note) note.0);
      lease = sizes.lease;
      rekey_to = sizes.rekey_to;
      application = sizes.application;
      argument_count = omega (arith, ltb-false most_arguments (length c.arguments) arguments.0);
      arguments = each_short c.arguments most_argument_bytes (ltb-false most_argument_bytes (total_length c.arguments) bytes.0) (omega arith);
      account_count = omega (arith, ltb-false most_accounts (length c.accounts) accounts.0);
      accounts = sizes.accounts;
      foreign_count = omega (arith, ltb-false most_foreign_applications (length c.foreign_applications) foreign.0);
      foreign_applications = sizes.foreign_applications;
      approval = omega (arith, programs.0);
      clear = omega (arith, programs.1);
      global_uints = sizes.global_uints;
      global_strings = sizes.global_strings;
      local_uints = sizes.local_uints;
      local_strings = sizes.local_strings;
    }

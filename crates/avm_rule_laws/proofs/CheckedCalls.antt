-- That a call which breaks no rule of calls brings what it has to.
use Rattle.std.proofs.Common.{◌≡◌, ℕ, ◌≤◌, Bool, true, false, eqb, leb, ◌&&◌, nat_lt, if◌then◌else◌, List, [], ◌∷◌, length, None, refl, sym, ap, ◌∙◌, arith}
use Rattle.std.specs.Prelude.{◌||◌, All, not}
use Rattle.std.proofs.lemmas.Bool.{leb-true, ltb-false, eqb-true, and_parts, or_right}
use Rattle.std.proofs.lemmas.List.Elements.{All-nil, All-cons, All-head, All-tail}
use Rattle.teal_value.specs.declared.address.Address.{Address}
use Rattle.teal_check.specs.WellFormed.{checked}
use Rattle.avm_states.specs.Schemas.{most_global_entries, most_local_entries}
use Rattle.avm_items.specs.declared.call_data.CallData.{CallData}
use Rattle.avm_items.specs.CallFields.{creates}
use Rattle.avm_call.specs.declared.call_fault.CallFault.TheVariants as fault
use Rattle.avm_call.specs.CallRules.{is_empty, total_length, updates, brings_programs, lacks_programs, gives_programs, entries_in, fits_schemas, field_fault, program_fault, or_fault, programs_fault, call_fault, most_note_bytes, most_arguments, most_argument_bytes, most_accounts, most_foreign_applications}
use Rattle.avm_call.specs.Ends.{is_program}
use Rattle.avm_call.proofs.Placed.{program_is_short}
use Rattle.avm_call.proofs.CallFaults.{no_fault, none_of_both, program_passes}
use Rattle.avm_rule_laws.specs.Rules.{IsCallOfBytes, BringsPrograms}
use Rattle.avm_rule_laws.proofs.BoundedRows.{IsShort, IsShortCall}

-- ---- programs

both_pass : (c : CallData) → programs_fault c ≡ None → (b : Bool) → brings_programs c ≡ b → b ≡ true → (is_program c.approval ≡ true) × (is_program c.clear ≡ true)
both_pass c e false is brings = absurd cc
both_pass c e true is brings =
    let programs = or_fault (program_fault (checked c.approval)) (program_fault (checked c.clear)) in
    let parts = none_of_both (program_fault (checked c.approval)) (program_fault (checked c.clear)) (sym (ap (λ b. if b then programs else None) is) ∙ e) in
    (program_passes (checked c.approval) parts.0, program_passes (checked c.clear) parts.1)

-- ---- the fields

-- what the fields of a call keep to, but for its programs
record KeepsFieldRules (c : CallData) : Type 0 where
  arguments : total_length c.arguments ≤ most_argument_bytes
  note : length c.note ≤ most_note_bytes
  given : (not (brings_programs c) && gives_programs c) ≡ false
  schemas : fits_schemas c ≡ true

field_rules : (c : CallData) → field_fault c ≡ None → KeepsFieldRules c
field_rules c e =
    let accounts = no_fault (nat_lt most_accounts (length c.accounts)) fault.Accounts _ e in
    let arguments = no_fault (nat_lt most_arguments (length c.arguments)) fault.Args _ accounts.1 in
    let bytes = no_fault (nat_lt most_argument_bytes (total_length c.arguments)) fault.ArgBytes _ arguments.1 in
    let foreign = no_fault (nat_lt most_foreign_applications (length c.foreign_applications)) fault.Foreign _ bytes.1 in
    let note = no_fault (nat_lt most_note_bytes (length c.note)) fault.Note _ foreign.1 in
    let missing = no_fault (brings_programs c && lacks_programs c) fault.ProgramsMissing _ note.1 in
    let given = no_fault (not (brings_programs c) && gives_programs c) fault.ProgramsGiven _ missing.1 in
    let size = no_fault (not (fits_schemas c)) fault.SchemaSize _ given.1 in
    record {
      arguments = ltb-false most_argument_bytes (total_length c.arguments) bytes.0;
      note = ltb-false most_note_bytes (length c.note) note.0;
      given = given.0;
      schemas = passes (fits_schemas c) size.0;
    }
  where
    passes : (b : Bool) → not b ≡ false → b ≡ true
    passes true h = refl
    passes false h = absurd cc

within : (new : Bool) (g l : ℕ) → (if new then (leb g 64 && leb l 16) else (eqb g 0 && eqb l 0)) ≡ true → (g ≤ 64) × (l ≤ 16)
within true g l e = let both = and_parts (leb g 64) (leb l 16) e in (leb-true g 64 both.0, leb-true l 16 both.1)
within false g l e =
    let both = and_parts (eqb g 0) (eqb l 0) e in
    (omega (arith, eqb-true g 0 both.0), omega (arith, eqb-true l 0 both.1))

-- the schemas of a call that breaks no rule of calls have no more entries than they may
pub schemas_fit : (c : CallData) → call_fault c ≡ None → (entries_in c.global_schema ≤ most_global_entries) × (entries_in c.local_schema ≤ most_local_entries)
schemas_fit c e = within (creates c) (entries_in c.global_schema) (entries_in c.local_schema) (field_rules c (none_of_both (field_fault c) (programs_fault c) e).0).schemas

pub checked_calls_bring_programs : (c : CallData) → call_fault c ≡ None → BringsPrograms c
checked_calls_bring_programs c e =
    let parts = none_of_both (field_fault c) (programs_fault c) e in
    let pass = both_pass c parts.1 (brings_programs c) refl in
    record {
      approval = λ new. (pass (ap (λ b. b || updates c.completion) new)).0;
      clear = λ new. (pass (ap (λ b. b || updates c.completion) new)).1;
      global_schema = λ new. (schemas_fit c e).0;
      local_schema = λ new. (schemas_fit c e).1;
      new_approval = λ is. (pass (ap (λ k. creates c || updates k) is ∙ or_right (creates c) true refl)).0;
      new_clear = λ is. (pass (ap (λ k. creates c || updates k) is ∙ or_right (creates c) true refl)).1;
    }

-- ---- lengths

arguments_short : (ss : List (List ℕ)) → total_length ss ≤ most_argument_bytes → All IsShort ss
arguments_short [] few = All-nil IsShort
arguments_short (s ∷ ss) few = All-cons IsShort s ss (omega (arith, few)) (arguments_short ss (omega (arith, few)))

accounts_short : (accounts : List Address) → All (λ who. length who.0 ≡ 32) accounts → All (λ who. IsShort who.0) accounts
accounts_short [] all = All-nil (λ who. IsShort who.0)
accounts_short (who ∷ others) all =
    All-cons (λ who. IsShort who.0) who others (omega (arith, All-head (λ who. length who.0 ≡ 32) who others all)) (accounts_short others (All-tail (λ who. length who.0 ≡ 32) who others all))

-- a program that is brought is a program, and else there are no bytes
empty_short : (a b : List ℕ) → not (is_empty a && is_empty b) ≡ false → IsShort a × IsShort b
empty_short a b e = by (is_empty a) (is_empty b) refl refl e
  where
    by : (x y : Bool) → is_empty a ≡ x → is_empty b ≡ y → not (x && y) ≡ false → IsShort a × IsShort b
    by true true p q h = (omega (arith, eqb-true (length a) 0 p), omega (arith, eqb-true (length b) 0 q))
    by true false p q h = absurd cc
    by false y p q h = absurd cc

programs_short : (c : CallData) → programs_fault c ≡ None → (b : Bool) → brings_programs c ≡ b → (not b && gives_programs c) ≡ false → IsShort c.approval × IsShort c.clear
programs_short c e true is given =
    let pass = both_pass c e true is refl in
    let approval = program_is_short c.approval pass.0 in
    let clear = program_is_short c.clear pass.1 in
    (omega (arith, approval), omega (arith, clear))
programs_short c e false is given = empty_short c.approval c.clear given

-- a call of bytes that breaks no rule of calls has byte strings of at most 4096 bytes each
pub checked_calls_are_short : (c : CallData) → IsCallOfBytes c → call_fault c ≡ None → IsShortCall c
checked_calls_are_short c of_bytes e =
    let parts = none_of_both (field_fault c) (programs_fault c) e in
    let fields = field_rules c parts.0 in
    let programs = programs_short c parts.1 (brings_programs c) refl fields.given in
    record {
      sender = omega (arith, of_bytes.fields.sender);
      note = omega (arith, fields.note);
      lease = omega (arith, of_bytes.fields.lease);
      rekey_to = omega (arith, of_bytes.fields.rekey_to);
      arguments = arguments_short c.arguments fields.arguments;
      accounts = accounts_short c.accounts of_bytes.fields.accounts;
      approval = programs.0;
      clear = programs.1;
    }

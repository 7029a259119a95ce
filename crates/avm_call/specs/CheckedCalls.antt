-- What a checked call keeps.
use Rattle.std.specs.Prelude.{◌≡◌, if◌then◌else◌, Option, Some, None}
use Rattle.avm_items.specs.declared.call_data.CallData.{CallData}
use Rattle.avm_call.specs.declared.call.Programs.{Programs}
use Rattle.avm_call.specs.CallRules.{brings_programs, call_fault}

-- the programs that it brings
abbrev pub program_pair : CallData → Option Programs
program_pair call = if brings_programs call then Some (record { approval = call.approval; clear = call.clear }) else None

-- It breaks no rule, and its programs are those of its fields.
pub record IsCheckedCall (call : CallData) (programs : Option Programs) : Type 0 where
  pub kept : call_fault call ≡ None
  pub same : programs ≡ program_pair call

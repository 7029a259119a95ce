-- Reading a call from its bytes: its fields in order, in four groups, and the first that no call has or that the bytes end in.
use Rattle.std.specs.Prelude.{ℕ, ◌-◌, ◌==◌, if◌then◌else◌, List, length, drop, Option, Some, None, Result, Ok}
use Rattle.std.specs.Option.{ok_or}
use Rattle.std.specs.Int.{w8, w64}
use Rattle.teal_value.specs.Answer.{◌>>=◌}
use Rattle.avm_ledger.specs.FieldReader.{Front, bytes_at, number_at, string_at, address_at, schema_at, counted_at, alone}
use Rattle.avm_items.specs.declared.call_data.Completion.{Completion}
use Rattle.avm_items.specs.declared.call_data.Completion.TheVariants as completion
use Rattle.avm_items.specs.declared.call_data.CallData.{CallData}
use Rattle.avm_call_codec.specs.declared.call_data_fault.CallDataFault.{CallDataFault}
use Rattle.avm_call_codec.specs.declared.call_data_fault.CallDataFault.TheVariants.{Field, Truncated, Rest}
use Rattle.avm_call_codec.specs.declared.groups.Terms.{Terms}
use Rattle.avm_call_codec.specs.declared.groups.Target.{Target}
use Rattle.avm_call_codec.specs.declared.groups.Lists.{Lists}
use Rattle.avm_call_codec.specs.declared.groups.Programs.{Programs}

-- the completion of a number
abbrev pub completion_of : ℕ → Option Completion
completion_of n =
    if n == 0 then Some completion.NoOp else if n == 1 then Some completion.OptIn else if n == 2 then Some completion.CloseOut
    else if n == 3 then Some completion.ClearState else if n == 4 then Some completion.UpdateApplication
    else if n == 5 then Some completion.DeleteApplication else None

abbrev pub completion_at : List ℕ → Front CallDataFault Completion
completion_at bytes = do
  n ← number_at Truncated w8 bytes
  done ← ok_or (completion_of n.0) Field
  Ok (done, n.1)

abbrev pub terms_at : List ℕ → Front CallDataFault Terms
terms_at bytes = do
  sender ← address_at Truncated bytes
  fee ← number_at Truncated w64 sender.1
  first ← number_at Truncated w64 fee.1
  last ← number_at Truncated w64 first.1
  note ← string_at Truncated last.1
  Ok (record { sender = sender.0; fee = fee.0; first_valid = first.0; last_valid = last.0; note = note.0 }, note.1)

abbrev pub target_at : List ℕ → Front CallDataFault Target
target_at bytes = do
  lease ← bytes_at Truncated 32 bytes
  rekey_to ← address_at Truncated lease.1
  application ← number_at Truncated w64 rekey_to.1
  done ← completion_at application.1
  Ok (record { lease = lease.0; rekey_to = rekey_to.0; application = application.0; completion = done.0 }, done.1)

abbrev pub lists_at : List ℕ → Front CallDataFault Lists
lists_at bytes = do
  arguments ← counted_at Truncated (string_at Truncated) bytes
  accounts ← counted_at Truncated (address_at Truncated) arguments.1
  foreign ← counted_at Truncated (number_at Truncated w64) accounts.1
  Ok (record { arguments = arguments.0; accounts = accounts.0; foreign_applications = foreign.0 }, foreign.1)

abbrev pub programs_at : List ℕ → Front CallDataFault Programs
programs_at bytes = do
  approval ← string_at Truncated bytes
  clear ← string_at Truncated approval.1
  global ← schema_at Truncated clear.1
  local ← schema_at Truncated global.1
  Ok (record { approval = approval.0; clear = clear.0; global_schema = global.0; local_schema = local.0 }, local.1)

abbrev pub call_of_groups : Terms → Target → Lists → Programs → CallData
call_of_groups terms target lists programs =
    record {
      sender = terms.sender;
      fee = terms.fee;
      first_valid = terms.first_valid;
      last_valid = terms.last_valid;
      note = terms.note;
      lease = target.lease;
      rekey_to = target.rekey_to;
      application = target.application;
      completion = target.completion;
      arguments = lists.arguments;
      accounts = lists.accounts;
      foreign_applications = lists.foreign_applications;
      approval = programs.approval;
      clear = programs.clear;
      global_schema = programs.global_schema;
      local_schema = programs.local_schema;
    }

-- the call that the bytes begin with
abbrev pub call_front : List ℕ → Front CallDataFault CallData
call_front bytes = do
  terms ← terms_at bytes
  target ← target_at terms.1
  lists ← lists_at target.1
  programs ← programs_at lists.1
  Ok (call_of_groups terms.0 target.0 lists.0 programs.0, programs.1)

-- the call that begins at a place, and the place behind it
abbrev pub call_from : List ℕ → ℕ → Result (CallData × ℕ) CallDataFault
call_from bytes place = call_front (drop place bytes) >>= λ c. Ok (c.0, length bytes - length c.1)

-- the call that the bytes are
abbrev pub call_at : List ℕ → Result CallData CallDataFault
call_at bytes = call_front bytes >>= alone Rest

-- The bytes of a call: its fields in four groups, each field in its one encoding.
use Rattle.std.specs.Prelude.{ℕ, List, ◌++◌}
use Rattle.teal_value.specs.declared.address.Address.{Address}
use Rattle.avm_ledger.specs.Encodings.{u8_bytes, u64_bytes, string_bytes, counted_bytes, schema_bytes}
use Rattle.avm_items.specs.declared.call_data.CallData.{CallData}
use Rattle.avm_items.specs.CallFields.{completion_number}

abbrev pub address_bytes : Address → List ℕ
address_bytes who = who.0

abbrev pub terms_bytes : CallData → List ℕ
terms_bytes c = c.sender.0 ++ u64_bytes c.fee ++ u64_bytes c.first_valid ++ u64_bytes c.last_valid ++ string_bytes c.note

abbrev pub target_bytes : CallData → List ℕ
target_bytes c = c.lease ++ c.rekey_to.0 ++ u64_bytes c.application ++ u8_bytes (completion_number c.completion)

abbrev pub lists_bytes : CallData → List ℕ
lists_bytes c =
    counted_bytes u8_bytes string_bytes c.arguments ++ counted_bytes u8_bytes address_bytes c.accounts
    ++ counted_bytes u8_bytes u64_bytes c.foreign_applications

abbrev pub programs_bytes : CallData → List ℕ
programs_bytes c = string_bytes c.approval ++ string_bytes c.clear ++ schema_bytes c.global_schema ++ schema_bytes c.local_schema

abbrev pub call_bytes : CallData → List ℕ
call_bytes c = terms_bytes c ++ target_bytes c ++ lists_bytes c ++ programs_bytes c

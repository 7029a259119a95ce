-- Programs by themselves, on which the path and the result are computed: each runs as both programs of a creation by the
-- zero address, with no entries allowed, over a ledger without applications.
use Rattle.std.specs.Prelude.{ℕ, List, [], replicate}
use Rattle.teal_value.specs.declared.address.Address.{Address}
use Rattle.avm_states.specs.declared.schema.Schema.{Schema}
use Rattle.avm_ledger.specs.declared.header.Header.{Header}
use Rattle.avm_ledger.specs.declared.header.Profile.{Profile}
use Rattle.avm_ledger.specs.declared.header.Profile.TheVariants as profile
use Rattle.avm_states.specs.Schemas.{no_entries}
use Rattle.avm_items.specs.declared.call_data.Completion.{Completion}
use Rattle.avm_items.specs.declared.call_data.Completion.TheVariants as completion
use Rattle.avm_items.specs.declared.call_data.CallData.{CallData}
use Rattle.avm_items.specs.declared.item.Item.{Item}
use Rattle.avm_items.specs.declared.item.Item.TheVariants as item
use Rattle.avm_items.specs.declared.item_value.ItemValue.{ItemValue}
use Rattle.avm_items.specs.declared.item_value.ItemValue.TheVariants as value
use Rattle.avm_items.specs.Asks.{result_over}
use Rattle.avm_call.specs.declared.outcome.Outcome.{Outcome}
use Rattle.avm_call.specs.Calls.{call_result}

abbrev pub zero_address : Address
zero_address = record { 0 = replicate 32 0 }

abbrev pub zero_header : Profile → Header
zero_header p = record { profile = p; round = 0; latest_timestamp = 0; min_fee = 0; min_balance = 0; max_life = 0 }

-- a call without arguments
abbrev pub plain_call : Address → ℕ → Completion → CallData
plain_call who id done = record {
  sender = who;
  fee = 0;
  first_valid = 0;
  last_valid = 0;
  note = [];
  lease = replicate 32 0;
  rekey_to = zero_address;
  application = id;
  completion = done;
  arguments = [];
  accounts = [];
  foreign_applications = [];
  approval = [];
  clear = [];
  global_schema = no_entries;
  local_schema = no_entries;
}

-- a creation by the zero address
abbrev pub plain_creation : List ℕ → List ℕ → Schema → Schema → CallData
plain_creation approval clear global local =
    record (plain_call zero_address 0 completion.NoOp) { approval = approval; clear = clear; global_schema = global; local_schema = local }

-- a ledger without applications
abbrev pub no_applications : Item → ItemValue
no_applications item.NextApp = value.NextApp 1
no_applications _ = value.Absent

-- how a program by itself ends, in a block of a profile
abbrev pub end_in : Profile → List ℕ → Outcome
end_in p program = (result_over no_applications (call_result (plain_creation program program no_entries no_entries) (zero_header p))).0

abbrev pub outcome_of_program : List ℕ → Outcome
outcome_of_program = end_in profile.Two

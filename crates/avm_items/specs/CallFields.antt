-- What the fields of a call say.
use Rattle.std.specs.Prelude.{ℕ, ◌-◌, ◌==◌, ◌&&◌, Bool, true, false, if◌then◌else◌, slice_get, Option, Some, None}
use Rattle.teal_value.specs.declared.address.Address.{Address}
use Rattle.avm_items.specs.declared.call_data.Completion.{Completion}
use Rattle.avm_items.specs.declared.call_data.Completion.TheVariants as completion
use Rattle.avm_items.specs.declared.call_data.CallData.{CallData}
use Rattle.avm_items.specs.declared.item.Item.TheVariants as item
use Rattle.avm_items.specs.declared.item_value.ItemValue.TheVariants as value
use Rattle.avm_items.specs.Items.{Known}

abbrev pub completion_number : Completion → ℕ
completion_number completion.NoOp = 0
completion_number completion.OptIn = 1
completion_number completion.CloseOut = 2
completion_number completion.ClearState = 3
completion_number completion.UpdateApplication = 4
completion_number completion.DeleteApplication = 5

-- account 0 is the sender, account i the call's i-th
abbrev pub account : CallData → ℕ → Option Address
account call i = if i == 0 then Some call.sender else slice_get call.accounts (i - 1)

-- a call of application 0 creates one
abbrev pub creates : CallData → Bool
creates call = call.application == 0

abbrev pub clears : Completion → Bool
clears completion.ClearState = true
clears _ = false

-- The keys of the application that a creation makes are absent, without a look at the ledger.
abbrev pub new_keys : CallData → ℕ → Known
new_keys call id (item.Key app key) = if creates call && (app == id) then Some value.Absent else None
new_keys call id _ = None

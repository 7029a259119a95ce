-- The fields of the transaction and the global fields, with their numbers in programs and their names in source text.
use Rattle.std.specs.Prelude.{ℕ, ◌==◌, Bool, true, false, List, [], ◌∷◌, Option, codes, find}
use Rattle.std.specs.Str.{bytes_eq}
use Rattle.teal_table.specs.declared.shape.Version.{Version}
use Rattle.teal_table.specs.declared.shape.Version.TheVariants.{Two, Three}
use Rattle.teal_table.specs.declared.txn_fields.TxnField.{TxnField}
use Rattle.teal_table.specs.declared.txn_fields.TxnField.TheVariants as txn
use Rattle.teal_table.specs.declared.global_fields.GlobalField.{GlobalField}
use Rattle.teal_table.specs.declared.global_fields.GlobalField.TheVariants as global

abbrev pub txn_number : TxnField → ℕ
txn_number txn.Sender = 0
txn_number txn.Fee = 1
txn_number txn.FirstValid = 2
txn_number txn.FirstValidTime = 3
txn_number txn.LastValid = 4
txn_number txn.Note = 5
txn_number txn.Lease = 6
txn_number txn.Receiver = 7
txn_number txn.Amount = 8
txn_number txn.CloseRemainderTo = 9
txn_number txn.Type = 15
txn_number txn.TypeEnum = 16
txn_number txn.GroupIndex = 22
txn_number txn.ApplicationId = 24
txn_number txn.OnCompletion = 25
txn_number txn.ApplicationArgs = 26
txn_number txn.NumAppArgs = 27
txn_number txn.Accounts = 28
txn_number txn.NumAccounts = 29
txn_number txn.ApprovalProgram = 30
txn_number txn.ClearStateProgram = 31
txn_number txn.RekeyTo = 32

abbrev pub txn_name : TxnField → List ℕ
txn_name txn.Sender = codes "Sender"
txn_name txn.Fee = codes "Fee"
txn_name txn.FirstValid = codes "FirstValid"
txn_name txn.FirstValidTime = codes "FirstValidTime"
txn_name txn.LastValid = codes "LastValid"
txn_name txn.Note = codes "Note"
txn_name txn.Lease = codes "Lease"
txn_name txn.Receiver = codes "Receiver"
txn_name txn.Amount = codes "Amount"
txn_name txn.CloseRemainderTo = codes "CloseRemainderTo"
txn_name txn.Type = codes "Type"
txn_name txn.TypeEnum = codes "TypeEnum"
txn_name txn.GroupIndex = codes "GroupIndex"
txn_name txn.ApplicationId = codes "ApplicationID"
txn_name txn.OnCompletion = codes "OnCompletion"
txn_name txn.ApplicationArgs = codes "ApplicationArgs"
txn_name txn.NumAppArgs = codes "NumAppArgs"
txn_name txn.Accounts = codes "Accounts"
txn_name txn.NumAccounts = codes "NumAccounts"
txn_name txn.ApprovalProgram = codes "ApprovalProgram"
txn_name txn.ClearStateProgram = codes "ClearStateProgram"
txn_name txn.RekeyTo = codes "RekeyTo"

abbrev pub txn_fields : List TxnField
txn_fields =
    txn.Sender ∷ txn.Fee ∷ txn.FirstValid ∷ txn.FirstValidTime ∷ txn.LastValid ∷ txn.Note ∷ txn.Lease ∷ txn.Receiver ∷ txn.Amount ∷ txn.CloseRemainderTo ∷ txn.Type ∷ txn.TypeEnum ∷ txn.GroupIndex ∷ txn.ApplicationId ∷ txn.OnCompletion ∷ txn.ApplicationArgs ∷ txn.NumAppArgs ∷ txn.Accounts ∷ txn.NumAccounts ∷ txn.ApprovalProgram ∷ txn.ClearStateProgram ∷ txn.RekeyTo ∷ []

unfoldable pub txn_field_at : ℕ → Option TxnField
txn_field_at number = find (λ f. txn_number f == number) txn_fields

unfoldable pub txn_field_named : List ℕ → Option TxnField
txn_field_named name = find (λ f. bytes_eq (txn_name f) name) txn_fields

-- the fields that are read with an index
abbrev pub is_array : TxnField → Bool
is_array txn.ApplicationArgs = true
is_array txn.Accounts = true
is_array _ = false

abbrev pub global_number : GlobalField → ℕ
global_number global.MinTxnFee = 0
global_number global.MinBalance = 1
global_number global.MaxTxnLife = 2
global_number global.ZeroAddress = 3
global_number global.GroupSize = 4
global_number global.LogicSigVersion = 5
global_number global.Round = 6
global_number global.LatestTimestamp = 7
global_number global.CurrentApplicationId = 8
global_number global.CreatorAddress = 9

abbrev pub global_name : GlobalField → List ℕ
global_name global.MinTxnFee = codes "MinTxnFee"
global_name global.MinBalance = codes "MinBalance"
global_name global.MaxTxnLife = codes "MaxTxnLife"
global_name global.ZeroAddress = codes "ZeroAddress"
global_name global.GroupSize = codes "GroupSize"
global_name global.LogicSigVersion = codes "LogicSigVersion"
global_name global.Round = codes "Round"
global_name global.LatestTimestamp = codes "LatestTimestamp"
global_name global.CurrentApplicationId = codes "CurrentApplicationID"
global_name global.CreatorAddress = codes "CreatorAddress"

abbrev pub global_fields : List GlobalField
global_fields =
    global.MinTxnFee ∷ global.MinBalance ∷ global.MaxTxnLife ∷ global.ZeroAddress ∷ global.GroupSize ∷ global.LogicSigVersion ∷ global.Round ∷ global.LatestTimestamp ∷ global.CurrentApplicationId ∷ global.CreatorAddress ∷ []

unfoldable pub global_field_at : ℕ → Option GlobalField
global_field_at number = find (λ f. global_number f == number) global_fields

unfoldable pub global_field_named : List ℕ → Option GlobalField
global_field_named name = find (λ f. bytes_eq (global_name f) name) global_fields

-- the version of programs that a field came with
abbrev pub global_version : GlobalField → Version
global_version global.CreatorAddress = Three
global_version _ = Two

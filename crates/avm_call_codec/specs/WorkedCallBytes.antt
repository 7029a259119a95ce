-- The bytes of a call, from which the reader is computed.
use Rattle.std.specs.Prelude.{ℕ, List, [], ◌∷◌, ◌++◌}
use Rattle.teal_value.specs.declared.address.Address.{Address}
use Rattle.avm_states.specs.Schemas.{no_entries}
use Rattle.avm_ledger.specs.WorkedLedgers.{zeros}
use Rattle.avm_items.specs.declared.call_data.Completion.TheVariants as completion
use Rattle.avm_items.specs.declared.call_data.CallData.{CallData}

abbrev pub nobody : Address
nobody = record { 0 = zeros 32 }

-- a call of application 5 with the note "a", up to its completion
abbrev pub up_to_completion : List ℕ
up_to_completion = zeros 32 ++ zeros 24 ++ (0 ∷ 1 ∷ 0x61 ∷ []) ++ zeros 64 ++ zeros 7 ++ 5 ∷ []

-- an argument of two bytes, an account, the foreign application 9, no programs and no schemas
abbrev pub behind_completion : List ℕ
behind_completion = (1 ∷ 0 ∷ 2 ∷ 7 ∷ 8 ∷ 1 ∷ []) ++ zeros 32 ++ (1 ∷ []) ++ zeros 7 ++ (9 ∷ []) ++ zeros 8

abbrev pub worked_call : CallData
worked_call = record {
  sender = nobody;
  fee = 0;
  first_valid = 0;
  last_valid = 0;
  note = 0x61 ∷ [];
  lease = zeros 32;
  rekey_to = nobody;
  application = 5;
  completion = completion.CloseOut;
  arguments = (7 ∷ 8 ∷ []) ∷ [];
  accounts = nobody ∷ [];
  foreign_applications = 9 ∷ [];
  approval = [];
  clear = [];
  global_schema = no_entries;
  local_schema = no_entries;
}

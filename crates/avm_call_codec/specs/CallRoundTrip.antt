-- The laws of a call's bytes.
use Rattle.std.specs.Prelude.{◌≡◌, ℕ, ◌+◌, ◌^◌, ◌<◌, List, ◌++◌, length, drop, All, Ok}
use Rattle.teal_value.specs.declared.address.Address.{Address}
use Rattle.avm_items.specs.declared.call_data.CallData.{CallData}
use Rattle.avm_call_codec.specs.CallEncoding.{call_bytes}
use Rattle.avm_call_codec.specs.CallReader.{call_front, call_from, call_at}

-- an account's address has 32 bytes
abbrev pub IsAddress : Address → Type 0
IsAddress who = length who.0 ≡ 32

abbrev pub IsStringField : List ℕ → Type 0
IsStringField s = length s < 2 ^ 16

abbrev pub IsWord : ℕ → Type 0
IsWord n = n < 2 ^ 64

-- The fields of a call, numbers and lengths within their sizes.
pub record HasFields (c : CallData) : Type 0 where
  pub sender : IsAddress c.sender
  pub fee : IsWord c.fee
  pub first_valid : IsWord c.first_valid
  pub last_valid : IsWord c.last_valid
  pub note : IsStringField c.note
  pub lease : length c.lease ≡ 32
  pub rekey_to : IsAddress c.rekey_to
  pub application : IsWord c.application
  pub argument_count : length c.arguments < 256
  pub arguments : All IsStringField c.arguments
  pub account_count : length c.accounts < 256
  pub accounts : All IsAddress c.accounts
  pub foreign_count : length c.foreign_applications < 256
  pub foreign_applications : All IsWord c.foreign_applications
  pub approval : IsStringField c.approval
  pub clear : IsStringField c.clear
  pub global_uints : c.global_schema.uints < 256
  pub global_strings : c.global_schema.bytes < 256
  pub local_uints : c.local_schema.uints < 256
  pub local_strings : c.local_schema.bytes < 256

-- A call is read from its bytes, whatever stands behind them, also at a place of longer bytes.
abbrev pub ReadsBack : Type 0
ReadsBack = (c : CallData) (rest : List ℕ) → HasFields c → call_front (call_bytes c ++ rest) ≡ Ok (c, rest)

abbrev pub ReadsBackAlone : Type 0
ReadsBackAlone = (c : CallData) → HasFields c → call_at (call_bytes c) ≡ Ok c

abbrev pub ReadsBackAtAPlace : Type 0
ReadsBackAtAPlace =
    (before : List ℕ) (c : CallData) (rest : List ℕ) → HasFields c
    → call_from (before ++ (call_bytes c ++ rest)) (length before) ≡ Ok (c, length before + length (call_bytes c))

-- No encoding of a call begins another.
abbrev pub NoneBeginsAnother : Type 0
NoneBeginsAnother = (c d : CallData) (x y : List ℕ) → HasFields c → HasFields d → call_bytes c ++ x ≡ call_bytes d ++ y → (c ≡ d) × (x ≡ y)

-- A call that is read is encoded by those very bytes, and has its fields.
abbrev pub EncodesBack : Type 0
EncodesBack =
    (bytes : List ℕ) (c : CallData) (rest : List ℕ) → All (λ b. b < 256) bytes → call_front bytes ≡ Ok (c, rest) → (call_bytes c ++ rest ≡ bytes) × HasFields c

abbrev pub EncodesBackAlone : Type 0
EncodesBackAlone = (bytes : List ℕ) (c : CallData) → All (λ b. b < 256) bytes → call_at bytes ≡ Ok c → (call_bytes c ≡ bytes) × HasFields c

-- The place behind a call is where its encoding ends.
abbrev pub EncodesBackAtAPlace : Type 0
EncodesBackAtAPlace =
    (bytes : List ℕ) (place : ℕ) (c : CallData) (next : ℕ) → All (λ b. b < 256) bytes → call_from bytes place ≡ Ok (c, next)
    → (call_bytes c ++ drop next bytes ≡ drop place bytes) × HasFields c

-- Reading fields from the front of bytes. A field that the bytes end in has the fault that is named first.
use Rattle.std.specs.Prelude.{ℕ, ◌==◌, nat_lt, if◌then◌else◌, List, length, take, drop, Result, Ok, Err}
use Rattle.std.specs.Int.{Width, w8, w16, byte_len, from_be_bytes}
use Rattle.teal_value.specs.Answer.{◌>>=◌}
use Rattle.teal_value.specs.declared.address.Address.{Address}
use Rattle.avm_states.specs.declared.schema.Schema.{Schema}
use Rattle.teal_code.specs.Reader.{many_at}

-- a value, and the bytes behind it
abbrev pub Front : Type 0 → Type 0 → Type 0
Front F A = Result (A × List ℕ) F

-- so many bytes
abbrev pub bytes_at : {F : Type 0} → F → ℕ → List ℕ → Front F (List ℕ)
bytes_at truncated n bytes = if nat_lt (length bytes) n then Err truncated else Ok (take n bytes, drop n bytes)

-- a number, high byte first
abbrev pub number_at : {F : Type 0} → F → Width → List ℕ → Front F ℕ
number_at truncated w bytes = bytes_at truncated (byte_len w) bytes >>= λ x. Ok (from_be_bytes w x.0, x.1)

-- a byte string behind its length, of one byte or of two
abbrev pub short_string_at : {F : Type 0} → F → List ℕ → Front F (List ℕ)
short_string_at truncated bytes = number_at truncated w8 bytes >>= λ n. bytes_at truncated n.0 n.1

abbrev pub string_at : {F : Type 0} → F → List ℕ → Front F (List ℕ)
string_at truncated bytes = number_at truncated w16 bytes >>= λ n. bytes_at truncated n.0 n.1

abbrev pub address_at : {F : Type 0} → F → List ℕ → Front F Address
address_at truncated bytes = bytes_at truncated 32 bytes >>= λ x. Ok (record { 0 = x.0 }, x.1)

abbrev pub schema_at : {F : Type 0} → F → List ℕ → Front F Schema
schema_at truncated bytes = do
  uints ← number_at truncated w8 bytes
  strings ← number_at truncated w8 uints.1
  Ok (record { uints = uints.0; bytes = strings.0 }, strings.1)

-- a count of one byte, and so many values
abbrev pub counted_at : {A F : Type 0} → F → (List ℕ → Front F A) → List ℕ → Front F (List A)
counted_at truncated one bytes = number_at truncated w8 bytes >>= λ n. many_at one n.0 n.1

-- a value that no bytes stand behind; such bytes have the fault that is named
abbrev pub alone : {A F : Type 0} → F → A × List ℕ → Result A F
alone rest x = if length x.1 == 0 then Ok x.0 else Err rest

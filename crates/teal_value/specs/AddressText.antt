-- The text of an address: base32 of its bytes and of their checksum.
use Rattle.std.specs.Prelude.{ℕ, ◌==◌, ◌&&◌, if◌then◌else◌, List, ◌++◌, length, take, drop, Result, Ok, Err}
use Rattle.std.specs.Str.{bytes_eq}
use Rattle.sha2.specs.Sha512.{sha512_256}
use Rattle.teal_value.specs.declared.address.Address.{Address}
use Rattle.teal_value.specs.declared.address_encoding.AddressFault.{AddressFault}
use Rattle.teal_value.specs.declared.address_encoding.AddressFault.TheVariants as fault
use Rattle.teal_value.specs.declared.base32.BadText.{BadText}
use Rattle.teal_value.specs.Base32.{base32, base32_decoded}

-- the last 4 bytes of the SHA-512/256 digest of the 32 bytes
abbrev pub checksum : List ℕ → List ℕ
checksum key = drop 28 (sha512_256 key)

-- 58 characters
unfoldable pub address_text : Address → List ℕ
address_text a = base32 (a.0 ++ checksum a.0)

-- 36 bytes as an address
abbrev pub address_before_checksum : List ℕ → Result Address AddressFault
address_before_checksum bytes = if bytes_eq (drop 32 bytes) (checksum (take 32 bytes)) then Ok (record { 0 = take 32 bytes }) else Err fault.BadChecksum

-- the bytes that a text of n characters reads as, which are an address if they are 36 without padding
abbrev pub address_in : ℕ → Result (List ℕ) BadText → Result Address AddressFault
address_in n (Ok bytes) = if n == 58 && length bytes == 36 then address_before_checksum bytes else Err fault.BadText
address_in n (Err e) = Err fault.BadText

-- the address that a text writes
unfoldable pub address_of : List ℕ → Result Address AddressFault
address_of text = address_in (length text) (base32_decoded text)

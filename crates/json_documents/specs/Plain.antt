-- Plain values: numbers, texts, bytes and addresses.
use Rattle.std.specs.Prelude.{ℕ, Bool, ◌==◌, ◌&&◌, nat_lt, if◌then◌else◌, slice_index, List, length, Option, None, option_and_then, Result, Ok, Err}
use Rattle.std.specs.Result.{result_ok}
use Rattle.base64.specs.Engines.{standard}
use Rattle.base64.specs.GeneralPurpose.{decode_of}
use Rattle.teal_value.specs.Answer.{◌>>=◌}
use Rattle.teal_value.specs.AddressText.{address_of}
use Rattle.teal_value.specs.declared.address.Address.{Address}
use Rattle.teal_value.specs.declared.address_encoding.AddressFault.{AddressFault}
use Rattle.teal_value.specs.declared.address_encoding.AddressFault.TheVariants as address_fault
use Rattle.teal_text.specs.Numbers.{number_of}
use Rattle.json.specs.Json.{Json}
use Rattle.json.specs.Find.{as_bool, as_number, as_str}
use Rattle.json_documents.specs.declared.document_fault.DocumentFault.{DocumentFault}
use Rattle.json_documents.specs.declared.document_fault.DocumentFault.TheVariants.{NotUint, NotBool, NotText, BadBase64, BadAddress, BadChecksum}
use Rattle.json_documents.specs.Faults.{Fault, here, or_else_fault}

-- zeros stand in front, behind which source text has numbers of another base
abbrev pub has_zero_in_front : List ℕ → Bool
has_zero_in_front digits = nat_lt 1 (length digits) && slice_index digits 0 == 48

-- the number below 2^64 that decimal digits write
abbrev pub decimal_of : List ℕ → Option ℕ
decimal_of digits = if has_zero_in_front digits then None else number_of digits

-- a number below 2^64, without sign, point and exponent
abbrev pub uint_of : Json → Option ℕ
uint_of j = option_and_then decimal_of (as_number j)

abbrev pub uint : Json → Result ℕ Fault
uint j = or_else_fault (uint_of j) NotUint

abbrev pub boolean : Json → Result Bool Fault
boolean j = or_else_fault (as_bool j) NotBool

abbrev pub text : Json → Result (List ℕ) Fault
text j = or_else_fault (as_str j) NotText

-- base64 with the standard alphabet, padded, with spare bits 0 (RFC 4648, section 4)
abbrev pub base64 : List ℕ → Result (List ℕ) Fault
base64 s = or_else_fault (result_ok (decode_of standard s)) BadBase64

abbrev pub bytes : Json → Result (List ℕ) Fault
bytes j = text j >>= base64

abbrev pub address_what : AddressFault → DocumentFault
address_what address_fault.BadText = BadAddress
address_what address_fault.BadChecksum = BadChecksum

abbrev pub on_address : Result Address AddressFault → Result Address Fault
on_address (Ok who) = Ok who
on_address (Err f) = Err (here (address_what f))

-- the text of an address
abbrev pub address : Json → Result Address Fault
address j = text j >>= λ s. on_address (address_of s)

-- Rows worked from the definitions: the test vectors of RFC 4648, section 10, and the zero address.
use Rattle.std.proofs.Common.{◌≡◌, [], codes, replicate, Ok, Err, refl}
use Rattle.sha2.specs.Sha512.{first_words, schedule, rounds, compress, hash_after, digest_bytes, sha512_256}
use Rattle.teal_value.specs.declared.address_encoding.AddressFault.TheVariants.{BadText, BadChecksum}
use Rattle.teal_value.specs.Base32.{groups, base32, bytes_of_digits, base32_decoded}
use Rattle.teal_value.specs.AddressText.{address_text, address_of}

one_byte : base32 (codes "f") ≡ codes "MY"
unfolding groups base32
one_byte = refl

six_bytes : base32 (codes "foobar") ≡ codes "MZXW6YTBOI"
unfolding groups base32
six_bytes = refl

bare : base32_decoded (codes "MZXW6YTBOI") ≡ Ok (codes "foobar")
unfolding groups base32 bytes_of_digits base32_decoded
bare = refl

padded : base32_decoded (codes "MZXW6YTBOI======") ≡ Ok (codes "foobar")
unfolding groups base32 bytes_of_digits base32_decoded
padded = refl

padded_in_part : base32_decoded (codes "MZXW6YTBOI=====") ≡ Err (record {})
unfolding groups base32 bytes_of_digits base32_decoded
padded_in_part = refl

spare_bits : base32_decoded (codes "MZ") ≡ Err (record {})
unfolding groups base32 bytes_of_digits base32_decoded
spare_bits = refl

padding_alone : base32_decoded (codes "====") ≡ Err (record {})
unfolding groups base32 bytes_of_digits base32_decoded
padding_alone = refl

lower_case : base32_decoded (codes "my") ≡ Err (record {})
unfolding groups base32 bytes_of_digits base32_decoded
lower_case = refl

empty : base32_decoded [] ≡ Ok []
unfolding groups base32 bytes_of_digits base32_decoded
empty = refl

zero_address_text : address_text (record { 0 = replicate 32 0 }) ≡ codes "AAAAAAAAAAAAAAAAAAAAAAAAAAAAAAAAAAAAAAAAAAAAAAAAAAAAY5HFKQ"
unfolding groups base32 address_text first_words schedule rounds compress hash_after digest_bytes sha512_256
zero_address_text = refl

other_checksum : address_of (codes "AAAAAAAAAAAAAAAAAAAAAAAAAAAAAAAAAAAAAAAAAAAAAAAAAAAAY5HFKA") ≡ Err BadChecksum
unfolding groups base32 bytes_of_digits base32_decoded address_of first_words schedule rounds compress hash_after digest_bytes sha512_256
other_checksum = refl

spare_bit_in_address : address_of (codes "AAAAAAAAAAAAAAAAAAAAAAAAAAAAAAAAAAAAAAAAAAAAAAAAAAAAY5HFKR") ≡ Err BadText
unfolding groups base32 bytes_of_digits base32_decoded address_of first_words schedule rounds compress hash_after digest_bytes sha512_256
spare_bit_in_address = refl

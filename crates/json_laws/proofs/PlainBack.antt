-- Plain values are read back from how they are shown.
use Rattle.std.proofs.Common.{◌≡◌, ℕ, zero, suc, ◌/◌, ◌^◌, ◌<◌, Bool, true, false, ◌&&◌, ltb, eqb, List, length, get_or, Ok, refl, ap, arith, inl, inr}
use Rattle.std.specs.Prelude.{slice_index, decimal}
use Rattle.std.specs.Int.{w64, to_be_bytes, byte_at, bytes_high_first}
use Rattle.std.proofs.lemmas.Fmt.{decimal_digit, first_decimal}
use Rattle.std.proofs.lemmas.Bool.{cases_lt}
use Rattle.std.proofs.lemmas.Bool.Decides.{nat_tests}
use Rattle.std.proofs.lemmas.List.{get_or_past, length-drop}
use Rattle.std.proofs.Math.Nat.{mod-lt}
use Rattle.std.proofs.lemmas.List.Elements.{All-nil, All-cons, All-append, All-take, All-drop}
use Rattle.base64.specs.Engines.{standard}
use Rattle.base64.specs.GeneralPurpose.{IsBytes}
use Rattle.base64.proofs.EngineFacts.{decode_of-encode_of}
use Rattle.sha2.specs.Sha512.{digest_bytes, sha512_256}
use Rattle.sha2.proofs.Facts512.{length-sha512_256}
use Rattle.teal_value.specs.declared.address.Address.{Address}
use Rattle.teal_value.specs.AddressText.{checksum}
use Rattle.teal_value.proofs.AddressLaw as address_law
use Rattle.teal_text.proofs.ReadBack.{decimal_back}
use Rattle.avm_rule_laws.specs.Rules.{AreBytes}
use Rattle.json_documents.specs.Plain.{address, bytes, has_zero_in_front, on_address, uint}
use Rattle.json_views.specs.Documents as shown

-- ---- numbers

never_both : (b : Bool) → (b && false) ≡ false
never_both true = refl
never_both false = refl

no_zero_in_front : (n : ℕ) → n < 2 ^ 64 → has_zero_in_front (decimal n) ≡ false
no_zero_in_front zero lt = ap has_zero_in_front (decimal_digit 0 (omega arith))
no_zero_in_front (suc k) lt =
    let first = first_decimal (suc k) (omega arith) lt in
    let other : eqb (get_or (decimal (suc k)) 0 0) 48 ≡ false = grind (arith, nat_tests) in
    rw other (never_both (ltb 1 (length (decimal (suc k)))))

-- a number below 2^64 is read back from how it is shown
pub uint_back : (n : ℕ) → n < 2 ^ 64 → uint (shown.uint n) ≡ Ok n
uint_back n lt = rw (no_zero_in_front n lt, decimal_back n lt) refl

-- ---- bytes

pub each_is_byte : (s : List ℕ) → AreBytes s → IsBytes s
each_is_byte s all i = elim (cases_lt i (length s)) [
  | inl lt ↦ all i 0 lt
  | inr past ↦ rw (get_or_past s i 0 past) (omega arith)
]

-- bytes are read back from their base64
pub bytes_back : (s : List ℕ) → AreBytes s → bytes (shown.base64 s) ≡ Ok s
bytes_back s all = rw (decode_of-encode_of standard s refl (each_is_byte s all)) refl

-- ---- addresses

byte_fits : (k n : ℕ) → byte_at k n < 256
byte_fits zero n = mod-lt n (omega arith)
byte_fits (suc k) n = mod-lt (n / 256 ^ suc k) (omega arith)

number_fits : (k n : ℕ) → AreBytes (bytes_high_first k n)
number_fits zero n = All-nil (λ b. b < 256)
number_fits (suc k) n = All-cons (λ b. b < 256) (byte_at k n) (bytes_high_first k n) (byte_fits k n) (number_fits k n)

words_fit : (words : List ℕ) (n : ℕ) → AreBytes (digest_bytes words n)
unfolding digest_bytes
words_fit words zero = All-nil (λ b. b < 256)
words_fit words (suc n) = All-append (λ b. b < 256) (digest_bytes words n) (to_be_bytes w64 (slice_index words n)) (words_fit words n) (number_fits 8 (slice_index words n))

digest_fits : (s : List ℕ) → AreBytes (sha512_256 s)
unfolding sha512_256
digest_fits s = All-take (λ b. b < 256) 32 _ (words_fit _ 8)

-- the checksum of an address is of bytes
pub checksum_fits : (key : List ℕ) → AreBytes (checksum key)
checksum_fits key = All-drop (λ b. b < 256) 28 (sha512_256 key) (digest_fits key)

-- an address of 32 bytes is read back from how it is shown
pub address_back : (who : Address) → length who.0 ≡ 32 → AreBytes who.0 → address (shown.address who) ≡ Ok who
address_back who size all =
    let sum : length (checksum who.0) ≡ 4 = omega (arith, length-drop 28 (sha512_256 who.0), length-sha512_256 who.0) in
    ap on_address (address_law.reads who.0 (checksum who.0) size sum (each_is_byte who.0 all) (each_is_byte (checksum who.0) (checksum_fits who.0)) refl)

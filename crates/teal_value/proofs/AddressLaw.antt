-- An address has one text.
use Rattle.std.proofs.Common.{◌≡◌, ℕ, ◌+◌, ◌*◌, ◌/◌, ◌-◌, Bool, true, false, cond, eqb, List, [], ◌∷◌, ◌++◌, length, take, drop, Result, Ok, Err, refl, sym, ap, ◌∙◌, inl, inr, arith, length-append}
use Rattle.std.specs.Str.{bytes_eq}
use Rattle.std.proofs.Math.Seq.{take-append_seam, drop-append_seam}
use Rattle.std.proofs.Math.ListN.{get_or-append}
use Rattle.std.proofs.lemmas.List.{take-append-drop, take_rest, get_or-append_right, length-map}
use Rattle.std.proofs.lemmas.Slice.Eq.{bytes_eq-Decides}
use Rattle.std.proofs.lemmas.Bool.{cases_lt, and_parts}
use Rattle.std.proofs.lemmas.Bool.Decides.{nat_tests}
use Rattle.teal_value.specs.declared.address.Address.{Address}
use Rattle.teal_value.specs.declared.address_encoding.AddressFault.{AddressFault}
use Rattle.teal_value.specs.declared.base32.BadText.{BadText}
use Rattle.teal_value.specs.Base32.{symbol, groups, base32, padding, IsBytes, base32_decoded}
use Rattle.teal_value.specs.AddressText.{checksum, address_text, address_before_checksum, address_in, address_of}
use Rattle.teal_value.proofs.Base32Law as base32_law

groups_len : (bytes : List ℕ) → length (groups bytes) ≡ (8 * length bytes + 4) / 5
unfolding groups
groups_len [] = refl
groups_len (a ∷ []) = refl
groups_len (a ∷ b ∷ []) = refl
groups_len (a ∷ b ∷ c ∷ []) = refl
groups_len (a ∷ b ∷ c ∷ d ∷ []) = refl
groups_len (a ∷ b ∷ c ∷ d ∷ e ∷ rest) = let more = groups_len rest in omega arith

text_len : (bytes : List ℕ) → length bytes ≡ 36 → length (base32 bytes) ≡ 58
unfolding base32
text_len bytes e = length-map (groups bytes) symbol ∙ groups_len bytes ∙ rw e refl

bytes_append : (xs ys : List ℕ) → IsBytes xs → IsBytes ys → IsBytes (xs ++ ys)
bytes_append xs ys h k i =
    elim (cases_lt i (length xs)) [
      | inl lt ↦ rw (get_or-append xs ys 0 i lt) (h i)
      | inr le ↦ rw (get_or-append_right xs ys (length xs) i 0 refl le) (k (i - length xs))
    ]

equal : (xs : List ℕ) → bytes_eq xs xs ≡ true
equal xs = (bytes_eq-Decides xs xs).1 refl

pub last_four : (digest : List ℕ) → length digest ≡ 32 → take 4 (drop 28 digest) ≡ drop 28 digest
last_four digest e = rw e at (take_rest digest 28)

address_of_parts : (key sum bytes : List ℕ) → take 32 bytes ≡ key → drop 32 bytes ≡ sum → sum ≡ checksum key → address_before_checksum bytes ≡ Ok (record { 0 = key })
address_of_parts key sum bytes front back e = rw (front, back, e, equal (checksum key)) refl

-- the text of an address reads as that address
pub reads : (key sum : List ℕ) → length key ≡ 32 → length sum ≡ 4 → IsBytes key → IsBytes sum → sum ≡ checksum key → address_of (address_text (record { 0 = key })) ≡ Ok (record { 0 = key })
unfolding address_text address_of
reads key sum key_len sum_len key_bytes sum_bytes e =
    let bytes = key ++ sum in
    let len : length bytes ≡ 36 = omega (arith, length-append key sum) in
    let read : base32_decoded (base32 bytes) ≡ Ok bytes = base32_law.reads (base32 bytes) bytes (bytes_append key sum key_bytes sum_bytes, inl refl) in
    let front : take 32 bytes ≡ key = rw (← key_len) (take-append_seam key sum) in
    let back : drop 32 bytes ≡ sum = rw (← key_len) (drop-append_seam key sum) in
    rw (← e, read, text_len bytes len, len) (address_of_parts key sum bytes front back e)

-- what the bytes of a text that reads as an address are
record IsEncoded (n : ℕ) (r : Result (List ℕ) BadText) (a : Address) : Type 0 where
  bytes : List ℕ
  read : r ≡ Ok bytes
  symbols : n ≡ 58
  count : length bytes ≡ 36
  same : a.0 ++ checksum a.0 ≡ bytes

passed : (b : Bool) (r : Result Address AddressFault) (f : AddressFault) (a : Address) → cond b r (Err f) ≡ Ok a → (b ≡ true) × (r ≡ Ok a)
passed true r f a e = (refl, e)
passed false r f a e = absurd cc

abbrev key_of : Result Address AddressFault → List ℕ
key_of (Ok a) = a.0
key_of (Err f) = []

encoded : (n : ℕ) (r : Result (List ℕ) BadText) (a : Address) → address_in n r ≡ Ok a → IsEncoded n r a
encoded n (Err f) a e = absurd cc
encoded n (Ok bytes) a e =
    let lens = passed _ _ _ a e in
    let two = and_parts (eqb n 58) (eqb (length bytes) 36) lens.0 in
    let sums = passed _ _ _ a lens.1 in
    let key : take 32 bytes ≡ a.0 = ap key_of sums.1 in
    record {
      bytes = bytes;
      read = refl;
      symbols = grind (arith, nat_tests);
      count = grind (arith, nat_tests);
      same = rw (← key, ← (bytes_eq-Decides (drop 32 bytes) (checksum (take 32 bytes))).0 sums.0) (take-append-drop 32 bytes);
    }

-- no other text reads as the address
pub only : (text : List ℕ) (a : Address) → address_of text ≡ Ok a → text ≡ address_text a
unfolding address_text address_of
only text a e =
    let s = encoded (length text) (base32_decoded text) a e in
    let len = text_len s.bytes s.count in
    elim (base32_law.reads_back text s.bytes s.read).1 [
      | inl bare ↦ bare ∙ ap base32 (sym s.same)
      | inr padded ↦ absurd (omega (arith, s.symbols, ap length padded, length-append (base32 s.bytes) (padding (length (base32 s.bytes))), ap (λ n. length (padding n)) len, len))
    ]

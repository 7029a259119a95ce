-- The byte literals of source text are of bytes, where the text is.
use Rattle.std.proofs.Common.{◌≡◌, ℕ, ◌+◌, ◌*◌, ◌<◌, Bool, true, false, cond, eqb, List, [], ◌∷◌, length, take, drop, Option, Some, None, Result, Ok, Err, refl, subst, arith, inl, inr}
use Rattle.std.specs.Prelude.{All, codes, nat_eq}
use Rattle.std.specs.List.{position_or_len, starts_with}
use Rattle.std.specs.Option.{ok_or, option_map}
use Rattle.std.specs.Result.{result_ok}
use Rattle.std.proofs.lemmas.Bool.Decides.{nat_tests}
use Rattle.std.proofs.lemmas.List.Elements.{All-nil, All-cons, All-drop, All-from_get_or, All-head, All-tail}
use Rattle.base64.specs.Engines.{standard, standard_no_pad}
use Rattle.base64.specs.GeneralPurpose as base64
use Rattle.hex.specs.Hex as hex
use Rattle.hex.proofs.HexLemmas.{decode_of-ok}
use Rattle.teal_value.specs.Base32.{base32_decoded}
use Rattle.teal_value.specs.Choice.{or_else}
use Rattle.teal_value.specs.AddressText.{address_of}
use Rattle.teal_value.specs.declared.address.Address.{Address}
use Rattle.teal_value.proofs.Base32Law.{reads_back}
use Rattle.teal_value.proofs.Binding.{chosen}
use Rattle.teal_text.specs.declared.string.StringState.{StringState}
use Rattle.teal_text.specs.declared.string.StringState.TheVariants.{Plain, Escape, TwoDigits, OneDigit}
use Rattle.teal_text.specs.Strings.{byte_read, closes, escaped, hex_value, next_state, push_front, string_value, value_from}
use Rattle.teal_text.specs.Tokens.{is_base64_name}
use Rattle.teal_text.specs.Literals.{base64_bytes, enclosed, enclosed_bytes, encoded_bytes, encoded_in, is_base32_name, is_parenthesis, literal_bytes, names_encoding, token_bytes}
use Rattle.teal_source.specs.declared.fault.AsmFaultKind.TheVariants.{BadBytes}
use Rattle.teal_source.specs.Operands.{Literal, Word, address_value, literal_value, literals_in}
use Rattle.avm_rule_laws.specs.Rules.{AreBytes}
use Rattle.json_laws.proofs.AcceptedValues.{address_of_bytes}
use Rattle.json_laws.proofs.DecodedBytes.{decoded_are_bytes, unpadded_are_bytes}

-- ---- encoded texts

ok_value : {A E : Type 0} (r : Result A E) (x : A) → result_ok r ≡ Some x → r ≡ Ok x
ok_value (Ok y) x e = cc
ok_value (Err f) x e = absurd cc

or_bad : {A E : Type 0} (o : Option A) (f : E) (x : A) → ok_or o f ≡ Ok x → o ≡ Some x
or_bad (Some y) f x e = cc
or_bad None f x e = absurd cc

one_of_two : {A : Type 0} (P : A → Type 0) (a b : Option A) (x : A) → or_else a b ≡ Some x → ((y : A) → a ≡ Some y → P y) → ((y : A) → b ≡ Some y → P y) → P x
one_of_two P (Some y) b x e first second = let same : y ≡ x = cc in subst P same (first y refl)
one_of_two P None b x e first second = second x e

from_places : (s : List ℕ) → hex.IsBytes s → AreBytes s
from_places s h = All-from_get_or (λ b. b < 256) s 0 (λ k lt. h k)

base64_are : (s b : List ℕ) → base64_bytes s ≡ Some b → AreBytes b
unfolding base64_bytes
base64_are s b e =
    one_of_two AreBytes (result_ok (base64.decode_of standard s)) (result_ok (base64.decode_of standard_no_pad s)) b e
    (λ y is. decoded_are_bytes s y (ok_value (base64.decode_of standard s) y is)) (λ y is. unpadded_are_bytes s y (ok_value (base64.decode_of standard_no_pad s) y is))

base32_are : (s b : List ℕ) → result_ok (base32_decoded s) ≡ Some b → AreBytes b
base32_are s b e = from_places b (reads_back s b (ok_value (base32_decoded s) b e)).0

hex_are : (s b : List ℕ) → result_ok (hex.decode_of s) ≡ Some b → AreBytes b
hex_are s b e = from_places b (decode_of-ok s b (ok_value (hex.decode_of s) b e)).3

encoded_are : (name s b : List ℕ) → encoded_bytes name s ≡ Some b → AreBytes b
unfolding encoded_bytes
encoded_are name s b e =
    elim (chosen (is_base64_name name) _ _ _ e) [
      | inl (a, one) ↦ base64_are s b one
      | inr (n, other) ↦ elim (chosen (is_base32_name name) _ _ _ other) [
        | inl (c, two) ↦ base32_are s b two
        | inr (m, none) ↦ absurd cc
      ]
    ]

encoded_in_are : (name : List ℕ) (o : Option (List ℕ)) (b : List ℕ) → encoded_in name o ≡ Some b → AreBytes b
encoded_in_are name None b e = absurd cc
encoded_in_are name (Some s) b e = encoded_are name s b e

enclosed_are : (word b : List ℕ) → enclosed_bytes word ≡ Some b → AreBytes b
unfolding enclosed_bytes
enclosed_are word b e = encoded_in_are (take (position_or_len is_parenthesis word) word) (enclosed (drop (position_or_len is_parenthesis word) word)) b e

-- ---- strings

hex_value_small : (c : ℕ) → hex_value c < 16
hex_value_small c = grind (arith, nat_tests)

escaped_small : (c : ℕ) → c < 256 → escaped c < 256
escaped_small c h = grind (arith, nat_tests)

byte_is : (state : StringState) (c x : ℕ) → c < 256 → byte_read state c ≡ Some x → x < 256
byte_is Plain c x h e =
    elim (chosen (eqb c 92) _ _ _ e) [
      | inl (a, none) ↦ absurd cc
      | inr (n, one) ↦ let same : c ≡ x = cc in omega arith
    ]
byte_is Escape c x h e =
    elim (chosen (eqb c 120) _ _ _ e) [
      | inl (a, none) ↦ absurd cc
      | inr (n, one) ↦ let same : escaped c ≡ x = cc in omega (arith, escaped_small c h, same)
    ]
byte_is TwoDigits c x h e = absurd cc
byte_is (OneDigit high) c x h e = let same : hex_value high * 16 + hex_value c ≡ x = cc in omega (arith, hex_value_small high, hex_value_small c, same)

pushed_are : (o : Option ℕ) (s : List ℕ) → ((x : ℕ) → o ≡ Some x → x < 256) → AreBytes s → AreBytes (push_front o s)
pushed_are None s one all = all
pushed_are (Some x) s one all = All-cons (λ b. b < 256) x s (one x refl) all

mapped : (o : Option ℕ) (r : Option (List ℕ)) (b : List ℕ) → option_map (push_front o) r ≡ Some b → (s : List ℕ) × (r ≡ Some s) × (push_front o s ≡ b)
mapped o None b e = absurd cc
mapped o (Some s) b e = (s, refl, cc)

string_are : (state : StringState) (s b : List ℕ) → AreBytes s → string_value state s ≡ Some b → AreBytes b
unfolding string_value
string_are state [] b all e = absurd cc
string_are state (c ∷ cs) b all e =
    let small = All-head (λ x. x < 256) c cs all in
    let rest = All-tail (λ x. x < 256) c cs all in
    at_end (closes state c) small (λ next r is. string_are next cs r rest is) e
  where
    by_state : (next : Option StringState) → c < 256 → ((n : StringState) (r : List ℕ) → string_value n cs ≡ Some r → AreBytes r) → value_from (byte_read state c) next (λ n. string_value n cs) ≡ Some b → AreBytes b
    by_state None small more e = absurd cc
    by_state (Some n) small more e =
        let m = mapped (byte_read state c) (string_value n cs) b e in
        subst AreBytes m.2 (pushed_are (byte_read state c) m.0 (λ x is. byte_is state c x small is) (more n m.0 m.1))

    at_end : (t : Bool) → c < 256 → ((n : StringState) (r : List ℕ) → string_value n cs ≡ Some r → AreBytes r)
        → cond t (cond (eqb (length cs) 0) (Some []) None) (value_from (byte_read state c) (next_state state c) (λ n. string_value n cs)) ≡ Some b → AreBytes b
    at_end true small more e =
        elim (chosen (eqb (length cs) 0) _ _ _ e) [
          | inl (a, one) ↦ let none : [] ≡ b = cc in subst AreBytes none (All-nil (λ x. x < 256))
          | inr (n, other) ↦ absurd cc
        ]
    at_end false small more e = by_state (next_state state c) small more e

-- ---- literals

token_are : (word b : List ℕ) → AreBytes word → token_bytes word ≡ Some b → AreBytes b
unfolding token_bytes
token_are word b all e =
    elim (chosen (starts_with nat_eq word (codes "0x")) _ _ _ e) [
      | inl (a, one) ↦ hex_are (drop 2 word) b one
      | inr (n, other) ↦ elim (chosen (starts_with nat_eq word (codes "\"")) _ _ _ other) [
        | inl (c, two) ↦ string_are Plain (drop 1 word) b (All-drop (λ x. x < 256) 1 word all) two
        | inr (m, three) ↦ enclosed_are word b three
      ]
    ]

-- the bytes of a literal, without the number of words that it takes
abbrev pub IsLiteralOfBytes : Literal → Type 0
IsLiteralOfBytes l = AreBytes l.0

literal_are : (first : Word) (second : Option Word) (b : List ℕ) → AreBytes first → literal_bytes first second ≡ Some b → AreBytes b
literal_are first None b all e = token_are first b all e
literal_are first (Some s) b all e = encoded_are first s b e

-- a literal of bytes has a value of bytes
pub literal_value_are : (l : Literal) (b : List ℕ) → IsLiteralOfBytes l → literal_value l ≡ Ok b → AreBytes b
literal_value_are l b all e = literal_are l.0 l.1 b all (or_bad (literal_bytes l.0 l.1) BadBytes b e)

key_of_bytes : (o : Option Address) (b : List ℕ) → ((who : Address) → o ≡ Some who → AreBytes who.0) → option_map (λ (a : Address). a.0) o ≡ Some b → AreBytes b
key_of_bytes None b h e = absurd cc
key_of_bytes (Some who) b h e = let same : who.0 ≡ b = cc in subst AreBytes same (h who refl)

-- the value of an address literal is of bytes
pub address_value_are : (l : Literal) (b : List ℕ) → address_value l ≡ Ok b → AreBytes b
address_value_are (w, None) b e =
    key_of_bytes (result_ok (address_of w)) b (λ who is. address_of_bytes w who (ok_value (address_of w) who is)) (or_bad (option_map (λ (a : Address). a.0) (result_ok (address_of w))) BadBytes b e)
address_value_are (w, Some t) b e = absurd cc

-- the literals in words of bytes are of bytes
pub literals_are : (ws : List Word) → All AreBytes ws → All IsLiteralOfBytes (literals_in ws)
literals_are [] all = All-nil IsLiteralOfBytes
literals_are (w ∷ []) all = All-cons IsLiteralOfBytes (w, None) [] (All-head AreBytes w [] all) (All-nil IsLiteralOfBytes)
literals_are (w ∷ t ∷ ws) all =
    let first = All-head AreBytes w (t ∷ ws) all in
    let more = All-tail AreBytes w (t ∷ ws) all in
    by (names_encoding w) first (literals_are ws (All-tail AreBytes t ws more)) (literals_are (t ∷ ws) more)
  where
    by : (b : Bool) → AreBytes w → All IsLiteralOfBytes (literals_in ws) → All IsLiteralOfBytes (literals_in (t ∷ ws)) → All IsLiteralOfBytes (cond b ((w, Some t) ∷ literals_in ws) ((w, None) ∷ literals_in (t ∷ ws)))
    by true first skipped next = All-cons IsLiteralOfBytes (w, Some t) (literals_in ws) first skipped
    by false first skipped next = All-cons IsLiteralOfBytes (w, None) (literals_in (t ∷ ws)) first next

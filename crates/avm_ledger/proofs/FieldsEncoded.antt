-- What is read from bytes is encoded by those very bytes.
use Rattle.std.proofs.Common.{◌≡◌, ℕ, zero, suc, ◌%◌, ◌<◌, ◌≤◌, Bool, true, false, cond, ltb, List, [], ◌∷◌, ◌++◌, length, take, drop, get_or, Result, Ok, Err, refl, sym, ap, subst, ◌∙◌, append_assoc, arith}
use Rattle.std.specs.Int.{Width, w8, w16, w32, w64, byte_len, to_be_bytes, from_be_bytes}
use Rattle.std.specs.List.{flat_map}
use Rattle.std.proofs.lemmas.Bool.{ltb-false}
use Rattle.std.proofs.lemmas.List.{take-append-drop}
use Rattle.std.proofs.lemmas.Nat.{be_bytes_2, be_bytes_4, be_bytes_8}
use Rattle.std.proofs.lemmas.List.{length-take-le}
use Rattle.teal_value.specs.Answer.{◌>>=◌}
use Rattle.teal_value.proofs.Binding.{bind_ok}
use Rattle.teal_code.proofs.Bytes.{AllBytes, byte_below, front_bytes, rest_bytes}
use Rattle.teal_code.specs.Reader.{many_at}
use Rattle.teal_value.specs.declared.address.Address.{Address}
use Rattle.avm_states.specs.declared.schema.Schema.{Schema}
use Rattle.avm_ledger.specs.FieldReader.{Front, bytes_at, number_at, short_string_at, string_at, address_at, schema_at, counted_at}
use Rattle.avm_ledger.specs.Encodings.{u8_bytes, u16_bytes, u32_bytes, u64_bytes, short_string_bytes, string_bytes, counted_bytes, schema_bytes}

-- a step that succeeded, for a goal
pub from : {A B F G : Type 0} (r : Result A F) (f : A → Result B F) (y : B) → (r >>= f) ≡ Ok y → ((x : A) → r ≡ Ok x → f x ≡ Ok y → G) → G
from (Ok x) f y e goal = goal x refl e
from (Err d) f y e goal = absurd cc

-- successes that are the same have the same value
pub same_value : {A F : Type 0} (x y : A) → ◌≡◌ {A = Result A F} (Ok x) (Ok y) → x ≡ y
same_value x y e = cc

-- ---- what the bytes begin with

-- the bytes begin with the encoding, and what stands behind it are bytes
pub record IsEncoded (bytes encoding rest : List ℕ) : Type 0 where
  pub same : bytes ≡ encoding ++ rest
  pub rest_are_bytes : AllBytes rest

pub encoded : (bytes encoding rest : List ℕ) → AllBytes bytes → bytes ≡ encoding ++ rest → IsEncoded bytes encoding rest
encoded bytes encoding rest all e = record { same = e; rest_are_bytes = rest_bytes encoding rest (subst AllBytes e all) }

-- an encoding and the one behind it are one encoding
pub join : (bytes s middle t rest : List ℕ) → IsEncoded bytes s middle → IsEncoded middle t rest → IsEncoded bytes (s ++ t) rest
join bytes s middle t rest a b = record { same = a.same ∙ ap (λ xs. s ++ xs) b.same ∙ sym (append_assoc s t rest); rest_are_bytes = b.rest_are_bytes }

-- the encoding of a value and those of the others behind it are the encoding of all
pub one_more : {A : Type 0} (encoding : A → List ℕ) (x : A) (xs : List A) (bytes middle rest : List ℕ) → IsEncoded bytes (encoding x) middle → IsEncoded middle (flat_map encoding xs) rest → IsEncoded bytes (flat_map encoding (x ∷ xs)) rest
one_more encoding x xs bytes middle rest a b = join bytes (encoding x) middle (flat_map encoding xs) rest a b

-- ---- fields

taken : {F : Type 0} (truncated : F) (n : ℕ) (bytes : List ℕ) (b : Bool) → ltb (length bytes) n ≡ b → (x : List ℕ × List ℕ) → ◌≡◌ {A = Front F (List ℕ)} (cond b (Err truncated) (Ok (take n bytes, drop n bytes))) (Ok x)
    → (bytes ≡ x.0 ++ x.1) × (length x.0 ≡ n)
taken truncated n bytes true test x e = absurd cc
taken {F} truncated n bytes false test x e =
    let is : (take n bytes, drop n bytes) ≡ x = same_value {F = F} _ _ e in
    let enough : n ≤ length bytes = ltb-false (length bytes) n test in
    (sym (take-append-drop n bytes) ∙ ap (λ p. p.0 ++ p.1) is, sym (ap (λ p. length p.0) is) ∙ length-take-le n bytes enough)

-- bytes that are read stand at the front, and are as many as were asked for
pub bytes_encoded : {F : Type 0} (truncated : F) (n : ℕ) (bytes : List ℕ) (x : List ℕ × List ℕ) → bytes_at truncated n bytes ≡ Ok x → (bytes ≡ x.0 ++ x.1) × (length x.0 ≡ n)
bytes_encoded truncated n bytes x e = taken truncated n bytes (ltb (length bytes) n) refl x e

number_encoded : {F : Type 0} (truncated : F) (w : Width) (bytes : List ℕ) (x : ℕ × List ℕ) → AllBytes bytes → ((bs : List ℕ) → length bs ≡ byte_len w → ((i : ℕ) → get_or bs i 0 < 256) → to_be_bytes w (from_be_bytes w bs) ≡ bs)
    → number_at truncated w bytes ≡ Ok x → IsEncoded bytes (to_be_bytes w x.0) x.1
number_encoded truncated w bytes x all inverse e =
    let c = bind_ok (bytes_at truncated (byte_len w) bytes) (λ y. Ok (from_be_bytes w y.0, y.1)) x e in
    let parts = bytes_encoded truncated (byte_len w) bytes c.0 c.1 in
    let is : (from_be_bytes w c.0.0, c.0.1) ≡ x = same_value _ _ c.2 in
    let encodes = inverse c.0.0 parts.1 (byte_below c.0.0 (front_bytes c.0.0 c.0.1 (subst AllBytes parts.0 all))) in
    encoded bytes (to_be_bytes w x.0) x.1 all (parts.0 ∙ ap (λ bs. bs ++ c.0.1) (sym encodes) ∙ ap (λ p. to_be_bytes w p.0 ++ p.1) is)

one_byte : (bs : List ℕ) → length bs ≡ 1 → ((i : ℕ) → get_or bs i 0 < 256) → to_be_bytes w8 (from_be_bytes w8 bs) ≡ bs
one_byte [] e all = absurd (omega (arith, e))
one_byte (b ∷ []) e all = let same : b % 256 ≡ b = omega (arith, all 0) in ap (λ c. c ∷ []) same
one_byte (b ∷ c ∷ bs) e all = absurd (omega (arith, e))

-- a field that is read is encoded by the first bytes
pub byte_encoded : {F : Type 0} (truncated : F) (bytes : List ℕ) (x : ℕ × List ℕ) → AllBytes bytes → number_at truncated w8 bytes ≡ Ok x → IsEncoded bytes (u8_bytes x.0) x.1
byte_encoded truncated bytes x all e = number_encoded truncated w8 bytes x all one_byte e

pub u16_encoded : {F : Type 0} (truncated : F) (bytes : List ℕ) (x : ℕ × List ℕ) → AllBytes bytes → number_at truncated w16 bytes ≡ Ok x → IsEncoded bytes (u16_bytes x.0) x.1
u16_encoded truncated bytes x all e = number_encoded truncated w16 bytes x all (λ bs is below. be_bytes_2 bs (from_be_bytes w16 bs) is below refl) e

pub u32_encoded : {F : Type 0} (truncated : F) (bytes : List ℕ) (x : ℕ × List ℕ) → AllBytes bytes → number_at truncated w32 bytes ≡ Ok x → IsEncoded bytes (u32_bytes x.0) x.1
u32_encoded truncated bytes x all e = number_encoded truncated w32 bytes x all (λ bs is below. be_bytes_4 bs (from_be_bytes w32 bs) is below refl) e

pub u64_encoded : {F : Type 0} (truncated : F) (bytes : List ℕ) (x : ℕ × List ℕ) → AllBytes bytes → number_at truncated w64 bytes ≡ Ok x → IsEncoded bytes (u64_bytes x.0) x.1
u64_encoded truncated bytes x all e = number_encoded truncated w64 bytes x all (λ bs is below. be_bytes_8 bs (from_be_bytes w64 bs) is below refl) e

-- a byte string behind its length
behind_length : {F : Type 0} (truncated : F) (count : ℕ → List ℕ) (bytes : List ℕ) (n : ℕ × List ℕ) (x : List ℕ × List ℕ) → IsEncoded bytes (count n.0) n.1 → bytes_at truncated n.0 n.1 ≡ Ok x → IsEncoded bytes (count (length x.0) ++ x.0) x.1
behind_length truncated count bytes n x is e =
    let parts = bytes_encoded truncated n.0 n.1 x e in
    let all = encoded n.1 x.0 x.1 is.rest_are_bytes parts.0 in
    subst (λ m. IsEncoded bytes (count m ++ x.0) x.1) (sym parts.1) (join bytes (count n.0) n.1 x.0 x.1 is all)

pub short_string_encoded : {F : Type 0} (truncated : F) (bytes : List ℕ) (x : List ℕ × List ℕ) → AllBytes bytes → short_string_at truncated bytes ≡ Ok x → IsEncoded bytes (short_string_bytes x.0) x.1
short_string_encoded truncated bytes x all e =
    let n = bind_ok (number_at truncated w8 bytes) (λ n. bytes_at truncated n.0 n.1) x e in
    behind_length truncated u8_bytes bytes n.0 x (byte_encoded truncated bytes n.0 all n.1) n.2

pub string_encoded : {F : Type 0} (truncated : F) (bytes : List ℕ) (x : List ℕ × List ℕ) → AllBytes bytes → string_at truncated bytes ≡ Ok x → IsEncoded bytes (string_bytes x.0) x.1
string_encoded truncated bytes x all e =
    let n = bind_ok (number_at truncated w16 bytes) (λ n. bytes_at truncated n.0 n.1) x e in
    behind_length truncated u16_bytes bytes n.0 x (u16_encoded truncated bytes n.0 all n.1) n.2

pub address_encoded : {F : Type 0} (truncated : F) (bytes : List ℕ) (x : Address × List ℕ) → AllBytes bytes → address_at truncated bytes ≡ Ok x → IsEncoded bytes x.0.0 x.1
address_encoded truncated bytes x all e =
    let a = bind_ok (bytes_at truncated 32 bytes) (λ y. Ok (record { 0 = y.0 }, y.1)) x e in
    let parts = bytes_encoded truncated 32 bytes a.0 a.1 in
    let is : ◌≡◌ {A = Address × List ℕ} (record { 0 = a.0.0 }, a.0.1) x = same_value _ _ a.2 in
    encoded bytes x.0.0 x.1 all (parts.0 ∙ ap (λ p. p.0.0 ++ p.1) is)

pub schema_encoded : {F : Type 0} (truncated : F) (bytes : List ℕ) (x : Schema × List ℕ) → AllBytes bytes → schema_at truncated bytes ≡ Ok x → IsEncoded bytes (schema_bytes x.0) x.1
schema_encoded truncated bytes x all e =
    let u = bind_ok (number_at truncated w8 bytes) _ x e in
    let first = byte_encoded truncated bytes u.0 all u.1 in
    let s = bind_ok (number_at truncated w8 u.0.1) _ x u.2 in
    let second = byte_encoded truncated u.0.1 s.0 first.rest_are_bytes s.1 in
    let is : ◌≡◌ {A = Schema × List ℕ} (record { uints = u.0.0; bytes = s.0.0 }, s.0.1) x = same_value _ _ s.2 in
    subst (λ p. IsEncoded bytes (schema_bytes p.0) p.1) is (join bytes (u8_bytes u.0.0) u.0.1 (u8_bytes s.0.0) s.0.1 first second)

-- where each value read is encoded by the first bytes, so are many in turn, as many as asked for
pub many_encoded : {A F : Type 0} (one : List ℕ → Front F A) (encoding : A → List ℕ) → ((bytes : List ℕ) (x : A × List ℕ) → AllBytes bytes → one bytes ≡ Ok x → IsEncoded bytes (encoding x.0) x.1)
    → (n : ℕ) (bytes : List ℕ) (x : List A × List ℕ) → AllBytes bytes → many_at one n bytes ≡ Ok x → IsEncoded bytes (flat_map encoding x.0) x.1 × (length x.0 ≡ n)
many_encoded {A} {F} one encoding back zero bytes x all e =
    let is : ◌≡◌ {A = List A × List ℕ} ([], bytes) x = same_value {F = F} _ _ e in
    (subst (λ p. IsEncoded bytes (flat_map encoding p.0) p.1) is (encoded bytes [] bytes all refl), sym (ap (λ p. length p.0) is))
many_encoded {A} one encoding back (suc n) bytes x all e =
    let a = bind_ok (one bytes) _ x e in
    let first = back bytes a.0 all a.1 in
    let m = bind_ok (many_at one n a.0.1) _ x a.2 in
    let more = many_encoded one encoding back n a.0.1 m.0 first.rest_are_bytes m.1 in
    let is : ◌≡◌ {A = List A × List ℕ} (a.0.0 ∷ m.0.0, m.0.1) x = same_value _ _ m.2 in (
      subst (λ p. IsEncoded bytes (flat_map encoding p.0) p.1) is (join bytes (encoding a.0.0) a.0.1 (flat_map encoding m.0.0) m.0.1 first more.0),
      sym (ap (λ p. length p.0) is) ∙ ap suc more.1,
    )

-- values that are read behind their count are encoded behind it, where each is encoded
pub counted_encoded : {A F : Type 0} (truncated : F) (one : List ℕ → Front F A) (encoding : A → List ℕ) → ((bytes : List ℕ) (x : A × List ℕ) → AllBytes bytes → one bytes ≡ Ok x → IsEncoded bytes (encoding x.0) x.1)
    → (bytes : List ℕ) (x : List A × List ℕ) → AllBytes bytes → counted_at truncated one bytes ≡ Ok x → IsEncoded bytes (counted_bytes u8_bytes encoding x.0) x.1
counted_encoded truncated one encoding back bytes x all e =
    let n = bind_ok (number_at truncated w8 bytes) (λ n. many_at one n.0 n.1) x e in
    let count = byte_encoded truncated bytes n.0 all n.1 in
    let more = many_encoded one encoding back n.0.0 n.0.1 x count.rest_are_bytes n.2 in
    subst (λ m. IsEncoded bytes (u8_bytes m ++ flat_map encoding x.0) x.1) (sym more.1) (join bytes (u8_bytes n.0.0) n.0.1 (flat_map encoding x.0) x.1 count more.0)

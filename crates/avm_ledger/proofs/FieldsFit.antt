-- What is read from bytes fits its field.
use Rattle.std.proofs.Common.{◌≡◌, ℕ, zero, suc, ◌^◌, ◌<◌, List, [], ◌∷◌, length, get_or, Ok, All, refl, sym, ap, subst, arith}
use Rattle.std.specs.Int.{Width, w8, w16, w32, w64, byte_len, from_be_bytes}
use Rattle.std.proofs.lemmas.List.Elements.{All-cons}
use Rattle.teal_value.specs.declared.address.Address.{Address}
use Rattle.avm_states.specs.declared.schema.Schema.{Schema}
use Rattle.avm_ledger.specs.FieldReader.{Front, bytes_at, number_at, string_at, address_at, schema_at, counted_at}
use Rattle.teal_code.proofs.Bytes.{AllBytes, byte_below, front_bytes}
use Rattle.teal_code.specs.Reader.{many_at}
use Rattle.avm_ledger.proofs.FieldsEncoded.{from, same_value, IsEncoded, bytes_encoded, byte_encoded}

number_fits : {F : Type 0} (truncated : F) (w : Width) (most : ℕ) (bytes : List ℕ) (x : ℕ × List ℕ) → AllBytes bytes → ((bs : List ℕ) → ((i : ℕ) → get_or bs i 0 < 256) → from_be_bytes w bs < most)
    → number_at truncated w bytes ≡ Ok x → x.0 < most
number_fits truncated w most bytes x all fits e =
    from (bytes_at truncated (byte_len w) bytes) _ x e (λ y ey e1.
    let parts = bytes_encoded truncated (byte_len w) bytes y ey in
    let is : (from_be_bytes w y.0, y.1) ≡ x = same_value _ _ e1 in
    subst (λ p. p.0 < most) is (fits y.0 (byte_below y.0 (front_bytes y.0 y.1 (subst AllBytes parts.0 all)))))

-- a field that is read is within its size
pub byte_fits : {F : Type 0} (truncated : F) (bytes : List ℕ) (x : ℕ × List ℕ) → AllBytes bytes → number_at truncated w8 bytes ≡ Ok x → x.0 < 256
byte_fits truncated bytes x all e = number_fits truncated w8 256 bytes x all (λ bs below. below 0) e

pub u16_fits : {F : Type 0} (truncated : F) (bytes : List ℕ) (x : ℕ × List ℕ) → AllBytes bytes → number_at truncated w16 bytes ≡ Ok x → x.0 < 2 ^ 16
u16_fits truncated bytes x all e = number_fits truncated w16 (2 ^ 16) bytes x all (λ bs below. omega (arith, below 0, below 1)) e

pub u32_fits : {F : Type 0} (truncated : F) (bytes : List ℕ) (x : ℕ × List ℕ) → AllBytes bytes → number_at truncated w32 bytes ≡ Ok x → x.0 < 2 ^ 32
u32_fits truncated bytes x all e = number_fits truncated w32 (2 ^ 32) bytes x all (λ bs below. omega (arith, below 0, below 1, below 2, below 3)) e

pub u64_fits : {F : Type 0} (truncated : F) (bytes : List ℕ) (x : ℕ × List ℕ) → AllBytes bytes → number_at truncated w64 bytes ≡ Ok x → x.0 < 2 ^ 64
u64_fits truncated bytes x all e = number_fits truncated w64 (2 ^ 64) bytes x all (λ bs below. omega (arith, below 0, below 1, below 2, below 3, below 4, below 5, below 6, below 7)) e

pub string_fits : {F : Type 0} (truncated : F) (bytes : List ℕ) (x : List ℕ × List ℕ) → AllBytes bytes → string_at truncated bytes ≡ Ok x → length x.0 < 2 ^ 16
string_fits truncated bytes x all e =
    from (number_at truncated w16 bytes) _ x e (λ n en e1.
    let small : n.0 < 2 ^ 16 = u16_fits truncated bytes n all en in
    let same : length x.0 ≡ n.0 = (bytes_encoded truncated n.0 n.1 x e1).1 in
    subst (λ m. m < 2 ^ 16) (sym same) small)

pub address_fits : {F : Type 0} (truncated : F) (bytes : List ℕ) (x : Address × List ℕ) → address_at truncated bytes ≡ Ok x → length x.0.0 ≡ 32
address_fits truncated bytes x e =
    from (bytes_at truncated 32 bytes) _ x e (λ y ey e1.
    let is : ◌≡◌ {A = Address × List ℕ} (record { 0 = y.0 }, y.1) x = same_value _ _ e1 in
    subst (λ p. length p.0.0 ≡ 32) is (bytes_encoded truncated 32 bytes y ey).1)

pub schema_fits : {F : Type 0} (truncated : F) (bytes : List ℕ) (x : Schema × List ℕ) → AllBytes bytes → schema_at truncated bytes ≡ Ok x → (x.0.uints < 256) × (x.0.bytes < 256)
schema_fits truncated bytes x all e =
    from (number_at truncated w8 bytes) _ x e (λ u eu e1.
    from (number_at truncated w8 u.1) _ x e1 (λ s es e2.
    let is : ◌≡◌ {A = Schema × List ℕ} (record { uints = u.0; bytes = s.0 }, s.1) x = same_value _ _ e2 in
    subst (λ p. (p.0.uints < 256) × (p.0.bytes < 256)) is (byte_fits truncated bytes u all eu, byte_fits truncated u.1 s (byte_encoded truncated bytes u all eu).rest_are_bytes es)))

many_fit : {A F : Type 0} (one : List ℕ → Front F A) (encoding : A → List ℕ) (P : A → Type 0) → ((bytes : List ℕ) (x : A × List ℕ) → AllBytes bytes → one bytes ≡ Ok x → IsEncoded bytes (encoding x.0) x.1)
    → ((bytes : List ℕ) (x : A × List ℕ) → AllBytes bytes → one bytes ≡ Ok x → P x.0) → (n : ℕ) (bytes : List ℕ) (x : List A × List ℕ) → AllBytes bytes → many_at one n bytes ≡ Ok x → All P x.0 × (length x.0 ≡ n)
many_fit {A} {F} one encoding P encodes fits zero bytes x all e =
    let is : ◌≡◌ {A = List A × List ℕ} ([], bytes) x = same_value {F = F} _ _ e in
    subst (λ p. All P p.0 × (length p.0 ≡ 0)) is ((λ k d lt. absurd (omega (arith, lt))), refl)
many_fit {A} one encoding P encodes fits (suc n) bytes x all e =
    from (one bytes) _ x e (λ a ea e1.
    from (many_at one n a.1) _ x e1 (λ m em e2.
    let more = many_fit one encoding P encodes fits n a.1 m (encodes bytes a all ea).rest_are_bytes em in
    let is : ◌≡◌ {A = List A × List ℕ} (a.0 ∷ m.0, m.1) x = same_value _ _ e2 in
    subst (λ p. All P p.0 × (length p.0 ≡ suc n)) is (All-cons P a.0 m.0 (fits bytes a all ea) more.0, ap suc more.1)))

-- what holds of each value that is read holds of all behind a count, which are fewer than 256
pub counted_fit : {A F : Type 0} (truncated : F) (one : List ℕ → Front F A) (encoding : A → List ℕ) (P : A → Type 0) → ((bytes : List ℕ) (x : A × List ℕ) → AllBytes bytes → one bytes ≡ Ok x → IsEncoded bytes (encoding x.0) x.1)
    → ((bytes : List ℕ) (x : A × List ℕ) → AllBytes bytes → one bytes ≡ Ok x → P x.0) → (bytes : List ℕ) (x : List A × List ℕ) → AllBytes bytes → counted_at truncated one bytes ≡ Ok x → All P x.0 × (length x.0 < 256)
counted_fit truncated one encoding P encodes fits bytes x all e =
    from (number_at truncated w8 bytes) _ x e (λ n en e1.
    let more = many_fit one encoding P encodes fits n.0 n.1 x (byte_encoded truncated bytes n all en).rest_are_bytes e1 in
    (more.0, subst (λ m. m < 256) (sym more.1) (byte_fits truncated bytes n all en)))

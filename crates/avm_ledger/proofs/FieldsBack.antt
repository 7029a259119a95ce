-- Fields that are encoded read back, whatever stands behind them.
use Rattle.std.proofs.Common.{◌≡◌, ℕ, suc, ◌^◌, ◌<◌, false, ltb, List, [], ◌∷◌, ◌++◌, length, take, drop, Result, Ok, refl, sym, ap, ◌∙◌, append_assoc, length-append, arith}
use Rattle.std.specs.Int.{Width, w8, w16, w32, w64, byte_len, to_be_bytes, from_be_bytes}
use Rattle.std.proofs.lemmas.Bool.{le-ltb}
use Rattle.std.proofs.lemmas.Nat.{from_be_bytes-to_be_bytes_2, from_be_bytes-to_be_bytes_4, from_be_bytes-to_be_bytes_8}
use Rattle.teal_value.specs.Answer.{◌>>=◌}
use Rattle.std.specs.List.{flat_map}
use Rattle.std.specs.List.{All}
use Rattle.std.proofs.lemmas.List.Elements.{All-head, All-tail}
use Rattle.teal_value.specs.declared.address.Address.{Address}
use Rattle.avm_states.specs.declared.schema.Schema.{Schema}
use Rattle.teal_code.specs.Reader.{many_at}
use Rattle.avm_ledger.specs.FieldReader.{Front, address_at, schema_at, counted_at, bytes_at, number_at, short_string_at, string_at}
use Rattle.avm_ledger.specs.Encodings.{u8_bytes, u16_bytes, u32_bytes, u64_bytes}

-- a step that succeeds, and what follows it
pub then : {A B F : Type 0} (r : Result A F) (x : A) (f : A → Result B F) (q : Result B F) → r ≡ Ok x → f x ≡ q → (r >>= f) ≡ q
then r x f q e h = ap (λ s. s >>= f) e ∙ h

take_front : (xs ys : List ℕ) → take (length xs) (xs ++ ys) ≡ xs
take_front [] ys = refl
take_front (x ∷ xs) ys = ap (λ zs. x ∷ zs) (take_front xs ys)

drop_front : (xs ys : List ℕ) → drop (length xs) (xs ++ ys) ≡ ys
drop_front [] ys = refl
drop_front (x ∷ xs) ys = drop_front xs ys

-- as many bytes as are asked for are read as they are, whatever stands behind them
pub bytes_back : {F : Type 0} (truncated : F) (n : ℕ) (xs rest : List ℕ) → length xs ≡ n → bytes_at truncated n (xs ++ rest) ≡ Ok (xs, rest)
bytes_back truncated n xs rest e =
    let enough : ltb (length (xs ++ rest)) n ≡ false = le-ltb (length (xs ++ rest)) n (omega (arith, length-append xs rest)) in
    let front : take n (xs ++ rest) ≡ xs = ap (λ m. take m (xs ++ rest)) (sym e) ∙ take_front xs rest in
    let behind : drop n (xs ++ rest) ≡ rest = ap (λ m. drop m (xs ++ rest)) (sym e) ∙ drop_front xs rest in
    rw (enough, front, behind) refl

number_back : {F : Type 0} (truncated : F) (w : Width) (n : ℕ) (rest : List ℕ) → length (to_be_bytes w n) ≡ byte_len w → from_be_bytes w (to_be_bytes w n) ≡ n
    → number_at truncated w (to_be_bytes w n ++ rest) ≡ Ok (n, rest)
number_back truncated w n rest fills is =
    then (bytes_at truncated (byte_len w) (to_be_bytes w n ++ rest)) (to_be_bytes w n, rest) (λ x. Ok (from_be_bytes w x.0, x.1)) (Ok (n, rest))
    (bytes_back truncated (byte_len w) (to_be_bytes w n) rest fills) (ap (λ m. Ok (m, rest)) is)

pub byte_back : {F : Type 0} (truncated : F) (n : ℕ) (rest : List ℕ) → n < 256 → number_at truncated w8 (u8_bytes n ++ rest) ≡ Ok (n, rest)
byte_back truncated n rest small = number_back truncated w8 n rest refl (omega arith)

pub u16_back : {F : Type 0} (truncated : F) (n : ℕ) (rest : List ℕ) → n < 2 ^ 16 → number_at truncated w16 (u16_bytes n ++ rest) ≡ Ok (n, rest)
u16_back truncated n rest small = number_back truncated w16 n rest refl (from_be_bytes-to_be_bytes_2 n small)

pub u32_back : {F : Type 0} (truncated : F) (n : ℕ) (rest : List ℕ) → n < 2 ^ 32 → number_at truncated w32 (u32_bytes n ++ rest) ≡ Ok (n, rest)
u32_back truncated n rest small = number_back truncated w32 n rest refl (from_be_bytes-to_be_bytes_4 n small)

pub u64_back : {F : Type 0} (truncated : F) (n : ℕ) (rest : List ℕ) → n < 2 ^ 64 → number_at truncated w64 (u64_bytes n ++ rest) ≡ Ok (n, rest)
u64_back truncated n rest small = number_back truncated w64 n rest refl (from_be_bytes-to_be_bytes_8 n small)

pub short_string_back : {F : Type 0} (truncated : F) (s rest : List ℕ) → length s < 256 → short_string_at truncated (u8_bytes (length s) ++ (s ++ rest)) ≡ Ok (s, rest)
short_string_back truncated s rest small =
    then (number_at truncated w8 (u8_bytes (length s) ++ (s ++ rest))) (length s, s ++ rest) (λ n. bytes_at truncated n.0 n.1) (Ok (s, rest))
    (byte_back truncated (length s) (s ++ rest) small) (bytes_back truncated (length s) s rest refl)

pub string_back : {F : Type 0} (truncated : F) (s rest : List ℕ) → length s < 2 ^ 16 → string_at truncated (u16_bytes (length s) ++ (s ++ rest)) ≡ Ok (s, rest)
string_back truncated s rest small =
    then (number_at truncated w16 (u16_bytes (length s) ++ (s ++ rest))) (length s, s ++ rest) (λ n. bytes_at truncated n.0 n.1) (Ok (s, rest))
    (u16_back truncated (length s) (s ++ rest) small) (bytes_back truncated (length s) s rest refl)

pub address_back : {F : Type 0} (truncated : F) (who : Address) (rest : List ℕ) → length who.0 ≡ 32 → address_at truncated (who.0 ++ rest) ≡ Ok (who, rest)
address_back truncated who rest is = then _ _ _ _ (bytes_back truncated 32 who.0 rest is) refl

pub schema_back : {F : Type 0} (truncated : F) (s : Schema) (rest : List ℕ) → s.uints < 256 → s.bytes < 256 → schema_at truncated (u8_bytes s.uints ++ (u8_bytes s.bytes ++ rest)) ≡ Ok (s, rest)
schema_back truncated s rest uints strings =
    then _ _ _ _ (byte_back truncated s.uints (u8_bytes s.bytes ++ rest) uints) (then _ _ _ _ (byte_back truncated s.bytes rest strings) refl)

many_back : {A F : Type 0} (one : List ℕ → Front F A) (encoding : A → List ℕ) (P : A → Type 0) → ((x : A) (rest : List ℕ) → P x → one (encoding x ++ rest) ≡ Ok (x, rest))
    → (xs : List A) (rest : List ℕ) → All P xs → many_at one (length xs) (flat_map encoding xs ++ rest) ≡ Ok (xs, rest)
many_back one encoding P back [] rest all = refl
many_back one encoding P back (x ∷ xs) rest all =
    ap (many_at one (suc (length xs))) (append_assoc (encoding x) (flat_map encoding xs) rest)
    ∙ then _ _ _ _ (back x (flat_map encoding xs ++ rest) (All-head P x xs all))
    (then _ _ _ _ (many_back one encoding P back xs rest (All-tail P x xs all)) refl)

-- fewer than 256 values are read from their count and bytes, where each is read from its own
pub counted_back : {A F : Type 0} (truncated : F) (one : List ℕ → Front F A) (encoding : A → List ℕ) (P : A → Type 0) → ((x : A) (rest : List ℕ) → P x → one (encoding x ++ rest) ≡ Ok (x, rest))
    → (xs : List A) (rest : List ℕ) → All P xs → length xs < 256 → counted_at truncated one (u8_bytes (length xs) ++ (flat_map encoding xs ++ rest)) ≡ Ok (xs, rest)
counted_back truncated one encoding P back xs rest all few =
    then _ _ _ _ (byte_back truncated (length xs) (flat_map encoding xs ++ rest) few) (many_back one encoding P back xs rest all)

-- Digits by their places, and digits of bytes one behind another.
use Rattle.std.proofs.Common.{Bool, true, false, ◌&&◌, nat_lt, ◌≡◌, ◌∙◌, ap, sym, refl, ℕ, zero, suc, ◌+◌, ◌*◌, ◌/◌, ◌%◌, ◌<◌, List, [], ◌∷◌, ◌++◌, length, slice_index, replicate, arith, append_assoc}
use Rattle.std.proofs.lemmas.Bool.{ltb-true}
use Rattle.std.proofs.lemmas.List.{append-nil}
use Rattle.std.proofs.lemmas.Str.{IsAscii-append, IsUtf8-from_ascii}
use Rattle.std.proofs.lemmas.Str.Ascii.{IsAscii-cons, IsAscii-nil}
use Rattle.std.specs.Str.{IsAscii, IsUtf8}
use Rattle.hex.proofs.HexLemmas.{IsAscii-encode_with}
use Rattle.hex.specs.Hex.{encode_lower, encode_with, lower_digits}
use Rattle.avm_input.specs.BlockDigits.{AreDigits, AreHalves, digit_of}

-- whether all are below 128
abbrev all_small : List ℕ → Bool
all_small [] = true
all_small (x ∷ xs) = nat_lt x 128 && all_small xs

-- the digits of joined bytes are their digits joined
pub digits_joined : (xs ys : List ℕ) → encode_lower (xs ++ ys) ≡ encode_lower xs ++ encode_lower ys
unfolding encode_with
digits_joined [] ys = refl
digits_joined (x ∷ xs) ys = ap (λ ds. digit_of (x / 16) ∷ digit_of (x % 16) ∷ ds) (digits_joined xs ys)

-- the first so many bytes have their two digits each
record ArePairs (bytes digits : List ℕ) (count : ℕ) : Type 0 where
  high : (k : ℕ) → k < count → slice_index digits (2 * k) ≡ digit_of (slice_index bytes k / 16)
  low : (k : ℕ) → k < count → slice_index digits (2 * k + 1) ≡ digit_of (slice_index bytes k % 16)

rest_digits : (b a c : ℕ) (bytes digits : List ℕ) (n : ℕ) → ArePairs (b ∷ bytes) (a ∷ c ∷ digits) (suc n) → ArePairs bytes digits n
rest_digits b a c bytes digits n are = record {
  high = λ k lt. ap (slice_index (a ∷ c ∷ digits)) (shift k) ∙ are.high (suc k) (omega (arith, lt));
  low = λ k lt. ap (slice_index (a ∷ c ∷ digits)) (shift_one k) ∙ are.low (suc k) (omega (arith, lt));
}
  where
    shift : (k : ℕ) → suc (suc (2 * k)) ≡ 2 * suc k
    shift k = omega arith

    shift_one : (k : ℕ) → suc (suc (2 * k + 1)) ≡ 2 * suc k + 1
    shift_one k = omega arith

-- digits that are written for every byte are those of the bytes
all_pairs : (bytes digits : List ℕ) → length digits ≡ 2 * length bytes → ArePairs bytes digits (length bytes) → digits ≡ encode_lower bytes
unfolding encode_with
all_pairs [] [] e are = refl
all_pairs [] (d ∷ ds) e are = absurd (omega (arith, e))
all_pairs (b ∷ bs) [] e are = absurd (omega (arith, e))
all_pairs (b ∷ bs) (d ∷ []) e are = absurd (omega (arith, e))
all_pairs (b ∷ bs) (a ∷ c ∷ ds) e are =
    let first : a ≡ digit_of (b / 16) = are.high 0 (omega arith) in
    let second : c ≡ digit_of (b % 16) = are.low 0 (omega arith) in
    let more : ds ≡ encode_lower bs = all_pairs bs ds (omega (arith, e)) (rest_digits b a c bs ds (length bs) are) in
    rw (first, second, more) refl

zeros_below : (n k : ℕ) → slice_index (replicate n 0) k < 16
zeros_below zero k = omega arith
zeros_below (suc n) zero = omega arith
zeros_below (suc n) (suc k) = zeros_below n k

-- at first no halves are written
pub no_halves : (bytes : List ℕ) (n : ℕ) → AreHalves bytes (replicate n 0) 0
no_halves bytes n = record { high = λ k lt. absurd (omega (arith, lt)); low = λ k lt. absurd (omega (arith, lt)); below = zeros_below n }

-- digits that are written for both halves of every byte are those of the bytes
pub all_digits : (bytes halves digits : List ℕ) (n : ℕ) → length bytes ≡ n → length digits ≡ 2 * n → AreHalves bytes halves n → AreDigits halves digits (2 * n) → digits ≡ encode_lower bytes
all_digits bytes halves digits n len twice are written = all_pairs bytes digits (omega (arith, len, twice)) (record {
  high = λ k lt. written (2 * k) (omega (arith, lt, len)) ∙ ap digit_of (are.high k (omega (arith, lt, len)));
  low = λ k lt. written (2 * k + 1) (omega (arith, lt, len)) ∙ ap digit_of (are.low k (omega (arith, lt, len)));
})

-- a block more
pub block_more : (old new digits front back rest all : List ℕ) → new ≡ old ++ digits → digits ≡ encode_lower front → front ++ back ≡ rest → old ++ encode_lower rest ≡ all → new ++ encode_lower back ≡ all
block_more old new digits front back rest all added is whole was =
    ap (λ xs. xs ++ encode_lower back) (added ∙ ap (λ xs. old ++ xs) is) ∙ append_assoc old (encode_lower front) (encode_lower back)
    ∙ ap (λ xs. old ++ xs) (sym (digits_joined front back) ∙ ap encode_lower whole) ∙ was

-- a byte more
pub byte_more : (old one new : List ℕ) (high low byte : ℕ) (back rest all : List ℕ) → one ≡ old ++ high ∷ [] → new ≡ one ++ low ∷ [] → high ≡ digit_of (byte / 16) → low ≡ digit_of (byte % 16) → rest ≡ byte ∷ back
    → old ++ encode_lower rest ≡ all → new ++ encode_lower back ≡ all
unfolding encode_with
byte_more old one new high low byte back rest all added then high_is low_is is was =
    ap (λ xs. xs ++ encode_lower back) (then ∙ ap (λ xs. xs ++ low ∷ []) added) ∙ append_assoc (old ++ high ∷ []) (low ∷ []) (encode_lower back) ∙ append_assoc old (high ∷ []) (low ∷ encode_lower back)
    ∙ ap (λ xs. old ++ xs) (rw (high_is, low_is) refl) ∙ ap (λ xs. old ++ encode_lower xs) (sym is) ∙ was

-- once no bytes are left, all digits are written
pub no_more : (old rest all : List ℕ) → length rest ≡ 0 → old ++ encode_lower rest ≡ all → old ≡ all
unfolding encode_with
no_more old [] all e was = sym (append-nil old) ∙ was
no_more old (x ∷ xs) all e was = absurd (omega (arith, e))

ascii_front : (x : ℕ) (xs : List ℕ) (b : Bool) → nat_lt x 128 ≡ b → (b && all_small xs) ≡ true → (x < 128) × (all_small xs ≡ true)
ascii_front x xs true e all = (ltb-true x 128 e, all)
ascii_front x xs false e all = absurd cc

ascii : (xs : List ℕ) → all_small xs ≡ true → IsAscii xs
ascii [] e = IsAscii-nil
ascii (x ∷ xs) e = let (small, rest) = ascii_front x xs (nat_lt x 128) refl e in IsAscii-cons x xs small (ascii xs rest)

-- a line of digits is text
pub line_is_text : (bytes : List ℕ) → IsUtf8 (encode_lower bytes ++ 10 ∷ [])
line_is_text bytes = IsUtf8-from_ascii _ (IsAscii-append (encode_lower bytes) (10 ∷ []) (IsAscii-encode_with lower_digits bytes (ascii lower_digits refl)) (ascii (10 ∷ []) refl))

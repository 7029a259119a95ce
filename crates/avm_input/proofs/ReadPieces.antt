-- Digits that are read piece by piece.
use Rattle.std.proofs.Common.{Bool, true, false, ◌≡◌, ◌∙◌, ap, refl, sym, ℕ, ◌+◌, ◌*◌, ◌%◌, List, [], ◌∷◌, ◌++◌, length, Option, Some, None, Result, Ok, Err, option_map, arith, append_assoc, length-append}
use Rattle.std.specs.Prelude.{if◌then◌else◌}
use Rattle.std.specs.Result.{result_ok}
use Rattle.hex.specs.Hex.{decode_pairs, hex_digit_value, pair_value, ◌>>=◌}
use Rattle.hex.specs.declared.error.FromHexError.{FromHexError}

-- the byte of two digits' values in front of the bytes behind it
abbrev pair_bytes : Option ℕ → Option ℕ → Option (List ℕ) → Option (List ℕ)
pair_bytes (Some high) (Some low) (Some bytes) = Some ((high * 16 + low) ∷ bytes)
pair_bytes (Some high) (Some low) None = None
pair_bytes (Some high) None bytes = None
pair_bytes None low bytes = None

-- the bytes of pairs of digits, wherever the pairs are
abbrev bytes_of : List ℕ → Option (List ℕ)
bytes_of [] = Some []
bytes_of (digit ∷ []) = None
bytes_of (high ∷ low ∷ rest) = pair_bytes (hex_digit_value high) (hex_digit_value low) (bytes_of rest)

-- the bytes of two pieces
abbrev both : Option (List ℕ) → Option (List ℕ) → Option (List ℕ)
both (Some xs) ys = option_map (λ more. xs ++ more) ys
both None ys = None

pair_is : (a b i : ℕ) (rest : Result (List ℕ) FromHexError) (high low : Option ℕ) → hex_digit_value a ≡ high → hex_digit_value b ≡ low
    → result_ok (pair_value a b i >>= λ byte. rest >>= λ bytes. Ok (byte ∷ bytes)) ≡ pair_bytes high low (result_ok rest)
pair_is a b i (Ok bytes) (Some high) (Some low) first second = rw (first, second) refl
pair_is a b i (Err why) (Some high) (Some low) first second = rw (first, second) refl
pair_is a b i rest (Some high) None first second = rw (first, second) refl
pair_is a b i rest None low first second = rw first refl

bytes_of-is : (i : ℕ) (digits : List ℕ) → result_ok (decode_pairs i digits) ≡ bytes_of digits
unfolding decode_pairs
bytes_of-is i [] = refl
bytes_of-is i (digit ∷ []) = refl
bytes_of-is i (a ∷ b ∷ rest) =
    pair_is a b i (decode_pairs (i + 2) rest) _ _ refl refl ∙ ap (pair_bytes (hex_digit_value a) (hex_digit_value b)) (bytes_of-is (i + 2) rest)

none_before : (ys : Option (List ℕ)) → ys ≡ option_map (λ more. [] ++ more) ys
none_before (Some ys) = refl
none_before None = refl

pair_before : (high low : Option ℕ) (xs ys : Option (List ℕ)) → pair_bytes high low (both xs ys) ≡ both (pair_bytes high low xs) ys
pair_before (Some high) (Some low) (Some xs) (Some ys) = refl
pair_before (Some high) (Some low) (Some xs) None = refl
pair_before (Some high) (Some low) None ys = refl
pair_before (Some high) None xs ys = refl
pair_before None low xs ys = refl

-- an even number of digits in front of others
pieces_joined : (front back : List ℕ) → length front % 2 ≡ 0 → bytes_of (front ++ back) ≡ both (bytes_of front) (bytes_of back)
pieces_joined [] back even = none_before (bytes_of back)
pieces_joined (a ∷ []) back even = absurd (omega (arith, even))
pieces_joined (a ∷ b ∷ front) back even =
    ap (pair_bytes (hex_digit_value a) (hex_digit_value b)) (pieces_joined front back (omega (arith, even)))
    ∙ pair_before (hex_digit_value a) (hex_digit_value b) (bytes_of front) (bytes_of back)

added_before : (old new : List ℕ) (xs ys : Option (List ℕ)) → option_map (λ more. old ++ more) xs ≡ Some new
    → option_map (λ more. old ++ more) (both xs ys) ≡ option_map (λ more. new ++ more) ys
added_before old new (Some xs) (Some ys) added =
    let is : old ++ xs ≡ new = cc added in
    ap Some (sym (append_assoc old xs ys) ∙ ap (λ all. all ++ ys) is)
added_before old new (Some xs) None added = refl
added_before old new None ys added = absurd cc

refused_before : (old : List ℕ) (xs ys : Option (List ℕ)) → option_map (λ more. old ++ more) xs ≡ None → None ≡ option_map (λ more. old ++ more) (both xs ys)
refused_before old (Some xs) ys refused = absurd cc
refused_before old None ys refused = refl

rest_is : (front back rest : List ℕ) → length front % 2 ≡ 0 → front ++ back ≡ rest → result_ok (decode_pairs 0 rest) ≡ both (result_ok (decode_pairs 0 front)) (result_ok (decode_pairs 0 back))
rest_is front back rest even whole =
    bytes_of-is 0 rest ∙ ap bytes_of (sym whole) ∙ pieces_joined front back even ∙ rw (bytes_of-is 0 front, bytes_of-is 0 back) refl

-- a piece more
pub piece_more : (old new front back rest : List ℕ) (all : Option (List ℕ)) (read : Bool) → length rest % 2 ≡ 0 → length front ≡ 2048 → front ++ back ≡ rest
    → option_map (λ more. old ++ more) (result_ok (decode_pairs 0 front)) ≡ (if read then Some new else None) → read ≡ true
    → all ≡ option_map (λ more. old ++ more) (result_ok (decode_pairs 0 rest)) → (length back % 2 ≡ 0) × (all ≡ option_map (λ more. new ++ more) (result_ok (decode_pairs 0 back)))
piece_more old new front back rest all read even len whole added all_read was =
    let sum : length front + length back ≡ length rest = sym (length-append front back) ∙ ap length whole in
    let front_even : length front % 2 ≡ 0 = omega (arith, len) in
    let is : option_map (λ more. old ++ more) (result_ok (decode_pairs 0 front)) ≡ Some new = added ∙ rw all_read refl in (
      omega (arith, even, len, sum),
      was ∙ ap (option_map (λ more. old ++ more)) (rest_is front back rest front_even whole) ∙ added_before old new _ _ is,
    )

-- a piece in which a digit is none
pub piece_refused : (old new front back rest : List ℕ) (all : Option (List ℕ)) (read : Bool) → length front ≡ 2048 → front ++ back ≡ rest
    → option_map (λ more. old ++ more) (result_ok (decode_pairs 0 front)) ≡ (if read then Some new else None) → read ≡ false
    → all ≡ option_map (λ more. old ++ more) (result_ok (decode_pairs 0 rest)) → None ≡ all
piece_refused old new front back rest all read len whole added not_read was =
    let even : length front % 2 ≡ 0 = omega (arith, len) in
    let refused : option_map (λ more. old ++ more) (result_ok (decode_pairs 0 front)) ≡ None = added ∙ rw not_read refl in
    refused_before old _ _ refused ∙ ap (option_map (λ more. old ++ more)) (sym (rest_is front back rest even whole)) ∙ sym was

-- Numbers, bytes and strings read back.
use Rattle.std.proofs.Common.{◌≡◌, ℕ, zero, suc, ◌^◌, ◌<◌, true, false, cond, eqb, ltb, List, [], ◌∷◌, ◌++◌, length, take, get_or, codes, Option, Some, None, is_some, Result, Ok, Err, refl, ap, ◌∙◌, arith}
use Rattle.std.specs.List.{list_all}
use Rattle.std.specs.Option.{option_map}
use Rattle.std.specs.Result.{result_ok}
use Rattle.std.specs.Char.{digit_value, is_digit}
use Rattle.std.specs.Fmt.{decimal}
use Rattle.std.specs.Str.Parse.{AllDigits, IsNumeral, digits_value}
use Rattle.std.proofs.lemmas.Fmt.{decimal_is_IsNumeral, decimal_digit, first_decimal}
use Rattle.std.proofs.lemmas.Bool.Decides.{nat_tests}
use Rattle.base64.specs.GeneralPurpose.{IsBytes}
use Rattle.hex.specs.Hex.{encode_lower}
use Rattle.hex.proofs.HexLemmas.{decode_of-encode_lower}
use Rattle.teal_text.specs.declared.fault.TextFaultKind.{TextFaultKind}
use Rattle.teal_text.specs.declared.string.StringState.{StringState}
use Rattle.teal_text.specs.declared.string.StringState.TheVariants.{Plain}
use Rattle.teal_text.specs.Strings.{closes, next_state, byte_read, value_from, string_value}
use Rattle.teal_text.specs.Tokens.{one_more, unless_bad, string_len}
use Rattle.teal_text.specs.Numbers.{base_of, digits_of, numeral_value, number_of}
use Rattle.teal_text.specs.Literals.{token_bytes}

all_digits : (base : ℕ) (ds : List ℕ) → AllDigits base ds → list_all (λ c. is_digit c base) ds ≡ true
all_digits base [] h = refl
all_digits base (d ∷ ds) h =
    let digit : ltb (digit_value d) base ≡ true = grind (arith, nat_tests, h.0) in
    rw digit (all_digits base ds h.1)

numeral_back : (base n : ℕ) (ds : List ℕ) → IsNumeral base ds → digits_value base ds ≡ n → n < 2 ^ 64 → numeral_value base ds ≡ Some n
unfolding numeral_value
numeral_back base n ds h e lt =
    let some : ltb 0 (length ds) ≡ true = grind (arith, nat_tests, h.0) in
    let small : ltb n (2 ^ 64) ≡ true = grind (arith, nat_tests) in
    rw (some, all_digits base ds h.1, e, small) refl

plain_base : (word : List ℕ) → 48 < get_or word 0 0 → (base_of word ≡ 10) × (digits_of word ≡ word)
unfolding base_of digits_of
plain_base [] h = absurd (omega arith)
plain_base (a ∷ []) h = (refl, refl)
plain_base (a ∷ b ∷ more) h =
    let test : eqb a 48 ≡ false = grind (arith, nat_tests) in
    (rw test refl, rw test refl)

zero_digit : number_of (48 ∷ []) ≡ Some 0
unfolding base_of digits_of numeral_value
zero_digit = refl

-- the decimal numeral of a number below 2^64 reads back as that number
pub decimal_back : (n : ℕ) → n < 2 ^ 64 → number_of (decimal n) ≡ Some n
decimal_back zero lt = ap number_of (decimal_digit 0 (omega arith)) ∙ zero_digit
decimal_back (suc k) lt =
    let base = plain_base (decimal (suc k)) (first_decimal (suc k) (omega arith) lt) in
    let numeral = decimal_is_IsNumeral (suc k) lt in
    rw (base.0, base.1) (numeral_back 10 (suc k) (decimal (suc k)) numeral.0 numeral.1 lt)

-- a constant in hexadecimal reads back as its bytes
pub hexadecimal_back : (bytes : List ℕ) → IsBytes bytes → token_bytes (codes "0x" ++ encode_lower bytes) ≡ Some bytes
unfolding token_bytes
hexadecimal_back bytes h = ap result_ok (decode_of-encode_lower bytes h)

mapped : (f : List ℕ → List ℕ) (o : Option (List ℕ)) → is_some o ≡ true → is_some (option_map f o) ≡ true
mapped f None e = e
mapped f (Some bytes) e = refl

valued : (byte : Option ℕ) (next : StringState) (more : StringState → Option (List ℕ)) → is_some (more next) ≡ true → is_some (value_from byte (Some next) more) ≡ true
valued None next more e = mapped _ (more next) e
valued (Some b) next more e = mapped _ (more next) e

one_less : (r : Result ℕ TextFaultKind) (n : ℕ) → one_more r ≡ Ok n → (m : ℕ) × (r ≡ Ok m) × (suc m ≡ n)
one_less (Ok m) n e = (m, refl, cc)
one_less (Err k) n e = absurd cc

has_value : (state : StringState) (bs : List ℕ) (n : ℕ) → string_len state bs ≡ Ok n → is_some (string_value state (take n bs)) ≡ true
unfolding string_value
has_value state [] n e = absurd cc
has_value state (b ∷ bs) n e =
    elim (closes state b) as (λ x. x ≡ closes state b → cond x (Ok 1) (unless_bad (next_state state b) (λ next. string_len next bs)) ≡ Ok n → is_some (string_value state (take n (b ∷ bs))) ≡ true) [
      | true ↦ λ c h. let one : 1 ≡ n = cc in rw (← one, ← c) refl
      | false ↦ λ c h. elim (next_state state b) as (λ o. o ≡ next_state state b → unless_bad o (λ next. string_len next bs) ≡ Ok n → is_some (string_value state (take n (b ∷ bs))) ≡ true) [
        | None ↦ λ _ g. absurd cc
        | Some next ↦ λ d g.
            let less = one_less (string_len next bs) n g in
            rw (← less.2, ← c, ← d) (valued (byte_read state b) next (λ s. string_value s (take less.0 bs)) (has_value next bs less.0 less.1))
      ] refl h
    ] refl e

-- a string that ends has a value
pub string_back : (bs : List ℕ) (n : ℕ) → string_len Plain bs ≡ Ok n → is_some (token_bytes (codes "\"" ++ take n bs)) ≡ true
unfolding token_bytes
string_back bs n e = has_value Plain bs n e

-- Rows worked from the definitions.
use Rattle.std.proofs.Common.{◌≡◌, [], ◌∷◌, ◌++◌, codes, false, Some, None, Ok, Err, refl}
use Rattle.teal_text.specs.declared.fault.TextFaultKind.TheVariants.{Unclosed, BadEscape, Glued}
use Rattle.teal_text.specs.Tokens.{blank_len, announces_base64, first_token, tokens_from, tokens_of}
use Rattle.teal_text.specs.Lines.{lines_from, lines_of}
use Rattle.teal_text.specs.Numbers.{base_of, digits_of, numeral_value, number_of}
use Rattle.teal_text.specs.Strings.{string_value}
use Rattle.teal_text.specs.Literals.{literal_bytes, token_bytes}

-- a carriage return before a line feed goes; one at the end stays in its word
carriage_returns : lines_of (codes "a\r\n" ++ codes "b\r") ≡ Ok (record { number = 1; tokens = record { start = 0; end = 1; string = false } ∷ [] } ∷ record { number = 2; tokens = record { start = 3; end = 5; string = false } ∷ [] } ∷ [])
unfolding lines_from tokens_of tokens_from first_token announces_base64 blank_len
carriage_returns = refl

-- behind `base64` a word may begin with `//`
base64_word : tokens_of 0 (codes "b64 //8= x//y") ≡ Ok (record { start = 0; end = 3; string = false } ∷ record { start = 4; end = 8; string = false } ∷ record { start = 9; end = 10; string = false } ∷ [])
unfolding tokens_of tokens_from first_token announces_base64 blank_len
base64_word = refl

-- a comment that cuts off the word `base64` ends the line
base64_cut_off : tokens_of 0 (codes "base64//x y") ≡ Ok (record { start = 0; end = 6; string = false } ∷ [])
unfolding tokens_of tokens_from first_token announces_base64 blank_len
base64_cut_off = refl

unknown_escape : lines_of (codes "\n\"\\q\"x") ≡ Err (record { line = 2; kind = BadEscape })
unfolding lines_from tokens_of tokens_from first_token announces_base64 blank_len
unknown_escape = refl

cut_off_escape : lines_of (codes "\"\\x4\n") ≡ Err (record { line = 1; kind = Unclosed })
unfolding lines_from tokens_of tokens_from first_token announces_base64 blank_len
cut_off_escape = refl

mark_in_escape : lines_of (codes "\"\\x\"") ≡ Err (record { line = 1; kind = BadEscape })
unfolding lines_from tokens_of tokens_from first_token announces_base64 blank_len
mark_in_escape = refl

glued : lines_of (codes "\"a\"\"b\"") ≡ Err (record { line = 1; kind = Glued })
unfolding lines_from tokens_of tokens_from first_token announces_base64 blank_len
glued = refl

hidden : lines_of (codes "x // \"\\q\n") ≡ Ok (record { number = 1; tokens = record { start = 0; end = 1; string = false } ∷ [] } ∷ [])
unfolding lines_from tokens_of tokens_from first_token announces_base64 blank_len
hidden = refl

octal : number_of (codes "010") ≡ Some 8
unfolding base_of digits_of numeral_value
octal = refl

no_octal : number_of (codes "08") ≡ None
unfolding base_of digits_of numeral_value
no_octal = refl

hexadecimal : number_of (codes "0Xff") ≡ Some 255
unfolding base_of digits_of numeral_value
hexadecimal = refl

no_digits : number_of (codes "0x") ≡ None
unfolding base_of digits_of numeral_value
no_digits = refl

largest : number_of (codes "18446744073709551615") ≡ Some 18446744073709551615
unfolding base_of digits_of numeral_value
largest = refl

too_large : number_of (codes "18446744073709551616") ≡ None
unfolding base_of digits_of numeral_value
too_large = refl

escapes : literal_bytes (codes "\"a\\x0a\\t\\\"\"") None ≡ Some (97 ∷ 10 ∷ 9 ∷ 34 ∷ [])
unfolding token_bytes string_value
escapes = refl

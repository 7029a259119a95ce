-- Lines of hexadecimal digits: each is read back as a line, is not blank, and gives its bytes.
use Rattle.std.proofs.Common.{◌≡◌, ℕ, ◌-◌, ◌/◌, ◌%◌, ◌<◌, ◌≤◌, false, eqb, leb, List, [], ◌∷◌, ◌++◌, length, slice_index, Ok, refl, ap, ◌∙◌, arith, inl, inr}
use Rattle.std.specs.Prelude.{All}
use Rattle.std.specs.List.{list_all, slice_split}
use Rattle.std.specs.Str.Lines.{lines, lines_of_parts, strip_carriage_return}
use Rattle.std.proofs.lemmas.Bool.{cases_lt, leb-true}
use Rattle.std.proofs.lemmas.Bool.Decides.{nat_tests}
use Rattle.std.proofs.lemmas.List.Elements.{All-nil, All-cons, All-get_or, All-head, All-tail, All-weaker}
use Rattle.std.proofs.lemmas.List.Splits.{slice_split_at}
use Rattle.std.proofs.Math.ListN.{get_or-eq_default}
use Rattle.base64.proofs.Tables.{all_below_at}
use Rattle.hex.specs.Hex.{decode_of, encode_lower, encode_with, lower_digits}
use Rattle.hex.proofs.HexLemmas.{decode_of-encode_lower}
use Rattle.teal_text.specs.Lines.{is_line_feed}
use Rattle.teal_text.specs.Tokens.{is_blank}
use Rattle.teal_text.proofs.LineReading.{has_first}
use Rattle.avm_rule_laws.specs.Rules.{AreBytes}

-- ---- digits

-- a byte that is not blank, for blanks are below 48
abbrev IsDigit : ℕ → Type 0
IsDigit c = 48 ≤ c

digit_in_table : (n : ℕ) → n < 16 → IsDigit (slice_index lower_digits n)
digit_in_table n lt = leb-true 48 (slice_index lower_digits n) (all_below_at (λ k. leb 48 (slice_index lower_digits k)) 16 n refl lt)

are_digits : (bytes : List ℕ) → AreBytes bytes → All IsDigit (encode_lower bytes)
unfolding encode_with
are_digits [] all = All-nil IsDigit
are_digits (b ∷ bs) all =
    let small = All-head (λ x. x < 256) b bs all in
    All-cons IsDigit (slice_index lower_digits (b / 16)) (slice_index lower_digits (b % 16) ∷ encode_lower bs) (digit_in_table (b / 16) (omega arith))
    (All-cons IsDigit (slice_index lower_digits (b % 16)) (encode_lower bs) (digit_in_table (b % 16) (omega arith)) (are_digits bs (All-tail (λ x. x < 256) b bs all)))

no_feed : (c : ℕ) → IsDigit c → is_line_feed c ≡ false
no_feed c h = grind (arith, nat_tests)

no_blank : (c : ℕ) → IsDigit c → is_blank c ≡ false
no_blank c h = grind (arith, nat_tests)

-- ---- lines

parts_first : (text : List ℕ) (parts : List (List ℕ)) → ((y : List ℕ) × (ys : List (List ℕ)) × (parts ≡ y ∷ ys)) → lines_of_parts (text ∷ parts) ≡ strip_carriage_return text ∷ lines_of_parts parts
parts_first text parts (y, ys, e) = rw e refl

nothing_stripped : (text : List ℕ) → All IsDigit text → strip_carriage_return text ≡ text
nothing_stripped [] all = refl
nothing_stripped (c ∷ cs) all =
    let last : IsDigit (slice_index (c ∷ cs) (length (c ∷ cs) - 1)) = All-get_or IsDigit (c ∷ cs) (length (c ∷ cs) - 1) 0 (omega arith) all in
    let test : eqb (slice_index (c ∷ cs) (length (c ∷ cs) - 1)) 13 ≡ false = other (slice_index (c ∷ cs) (length (c ∷ cs) - 1)) last in
    rw test refl
  where
    other : (n : ℕ) → IsDigit n → eqb n 13 ≡ false
    other n h = grind (arith, nat_tests)

line_first : (text rest : List ℕ) → All IsDigit text → lines (text ++ 10 ∷ rest) ≡ text ∷ lines rest
line_first text rest all =
    let split : slice_split is_line_feed (text ++ 10 ∷ rest) ≡ text ∷ slice_split is_line_feed rest = slice_split_at is_line_feed text 10 rest (All-weaker IsDigit (λ c. is_line_feed c ≡ false) (λ c h. no_feed c h) text all) refl in
    ap lines_of_parts split ∙ parts_first text (slice_split is_line_feed rest) (has_first is_line_feed rest) ∙ ap (λ t. t ∷ lines rest) (nothing_stripped text all)

-- the line of some bytes, before others
pub digits_first : (bytes rest : List ℕ) → AreBytes bytes → lines (encode_lower bytes ++ 10 ∷ rest) ≡ encode_lower bytes ∷ lines rest
digits_first bytes rest all = line_first (encode_lower bytes) rest (are_digits bytes all)

first_blank : (c : ℕ) (cs : List ℕ) → is_blank c ≡ false → list_all is_blank (c ∷ cs) ≡ false
first_blank c cs e = rw e refl

-- the digits of some bytes are no blank line
pub not_blank : (bytes : List ℕ) → AreBytes bytes → 0 < length bytes → list_all is_blank (encode_lower bytes) ≡ false
unfolding encode_with
not_blank [] all some = absurd (omega (arith, some))
not_blank (b ∷ bs) all some =
    let small = All-head (λ x. x < 256) b bs all in
    first_blank (slice_index lower_digits (b / 16)) (slice_index lower_digits (b % 16) ∷ encode_lower bs) (no_blank (slice_index lower_digits (b / 16)) (digit_in_table (b / 16) (omega (arith, small))))

-- ---- bytes

-- bytes are read back from their digits
pub digits_back : (bytes : List ℕ) → AreBytes bytes → decode_of (encode_lower bytes) ≡ Ok bytes
digits_back bytes all = decode_of-encode_lower bytes each
  where
    each : (i : ℕ) → slice_index bytes i < 256
    each i =
        elim (cases_lt i (length bytes)) [
          | inl lt ↦ All-get_or (λ b. b < 256) bytes i 0 lt all
          | inr le ↦ rw (get_or-eq_default bytes 0 le) (omega arith)
        ]

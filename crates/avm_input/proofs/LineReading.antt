-- The first of an input's lines, and those behind it.
use Rattle.std.proofs.Common.{◌≡◌, ◌∙◌, ap, ℕ, ◌+◌, ◌<◌, Bool, true, false, eqb, List, [], ◌∷◌, length, take, drop, length-drop, Some, None, Result, Ok, Err, refl, not, arith, inl, inr}
use Rattle.std.specs.Result.{result_ok}
use Rattle.std.specs.List.{list_all, slice_split}
use Rattle.std.specs.Str.Lines.{lines, lines_of_parts, strip_carriage_return}
use Rattle.std.proofs.lemmas.List.{drop_all, nil_from_length}
use Rattle.std.proofs.lemmas.List.Sums.{prefix_len_passes, prefix_len-le-length}
use Rattle.std.proofs.lemmas.List.Splits.{slice_split_none, slice_split_first}
use Rattle.std.proofs.lemmas.List.Elements.{All-from_get_or}
use Rattle.std.proofs.lemmas.Bool.{cases_lt, eqb-true}
use Rattle.std.proofs.lemmas.Bool.Decides.{nat_tests}
use Rattle.teal_text.specs.Tokens.{is_blank}
use Rattle.teal_text.specs.Lines.{is_line_feed, line_len, line_text}
use Rattle.teal_text.proofs.LineReading.{has_first, line_text_before, line_text_whole, not_false}
use Rattle.hex.specs.declared.error.FromHexError.{FromHexError}
use Rattle.avm_input.specs.DigitLines.{lines_after, on_digits}
use Rattle.avm_input.specs.declared.refusals.Refusal.TheVariants as refusal

abbrev behind : List ℕ → List ℕ
behind bytes = drop (line_len bytes + 1) bytes

parts_first : (text : List ℕ) (parts : List (List ℕ)) → ((y : List ℕ) × (ys : List (List ℕ)) × (parts ≡ y ∷ ys))
    → lines_of_parts (text ∷ parts) ≡ strip_carriage_return text ∷ lines_of_parts parts
parts_first text parts (y, ys, e) = rw e refl

first_ended : (bytes : List ℕ) → line_len bytes < length bytes → lines bytes ≡ line_text bytes ∷ lines (behind bytes)
first_ended bytes lt =
    let split = slice_split_first is_line_feed bytes 0 lt in
    let first = parts_first (take (line_len bytes) bytes) (slice_split is_line_feed (behind bytes)) (has_first is_line_feed (behind bytes)) in
    ap lines_of_parts split ∙ first ∙ rw (line_text_before bytes lt) refl

last_line : (bytes : List ℕ) → 0 < length bytes → line_len bytes ≡ length bytes → lines bytes ≡ line_text bytes ∷ lines (behind bytes)
last_line [] some e = absurd (omega arith)
last_line (b ∷ bs) some e =
    let bytes = b ∷ bs in
    let none : slice_split is_line_feed bytes ≡ bytes ∷ [] = slice_split_none is_line_feed bytes (All-from_get_or (λ x. is_line_feed x ≡ false) bytes 0 (λ i h. not_false _ (prefix_len_passes (λ x. not (is_line_feed x)) bytes i 0 (omega (arith, e))))) in
    let gone : behind bytes ≡ [] = drop_all (line_len bytes + 1) bytes (omega (arith, e)) in
    let test : eqb (length bytes) 0 ≡ false = grind (arith, nat_tests) in
    rw (line_text_whole bytes e, gone, none, test) refl

lines_first : (bytes : List ℕ) → 0 < length bytes → lines bytes ≡ line_text bytes ∷ lines (behind bytes)
lines_first bytes some =
    elim (cases_lt (line_len bytes) (length bytes)) [
      | inl lt ↦ first_ended bytes lt
      | inr le ↦ last_line bytes some (omega (arith, prefix_len-le-length (λ x. not (is_line_feed x)) bytes))
    ]

-- a blank first line is counted and left out, and any other is the first of those that are kept
pub blank_first : (before : ℕ) (bytes text rest : List ℕ) → 0 < length bytes → text ≡ line_text bytes → rest ≡ drop (line_len bytes + 1) bytes → list_all is_blank text ≡ true
    → lines_after before (lines bytes) ≡ lines_after (before + 1) (lines rest)
blank_first before bytes text rest some text-is rest-is blank =
    ap (lines_after before) (lines_first bytes some) ∙ rw (← text-is, ← rest-is, blank) refl

pub digits_first : (before : ℕ) (bytes text rest : List ℕ) → 0 < length bytes → text ≡ line_text bytes → rest ≡ drop (line_len bytes + 1) bytes → list_all is_blank text ≡ false
    → lines_after before (lines bytes) ≡ record { number = before + 1; digits = text } ∷ lines_after (before + 1) (lines rest)
digits_first before bytes text rest some text-is rest-is other =
    ap (lines_after before) (lines_first bytes some) ∙ rw (← text-is, ← rest-is, other) refl

-- where there are bytes, fewer are left after the first line
pub fewer_behind : (bytes rest : List ℕ) → 0 < length bytes → rest ≡ drop (line_len bytes + 1) bytes → length rest < length bytes
fewer_behind bytes rest some e = rw e (omega (arith, length-drop (line_len bytes + 1) bytes))

-- where no bytes are left, no lines are
pub none_left : (before : ℕ) (bytes : List ℕ) → eqb (length bytes) 0 ≡ true → lines_after before (lines bytes) ≡ []
none_left before bytes e = let none : bytes ≡ [] = nil_from_length bytes (eqb-true (length bytes) 0 e) in rw none refl

pub some_bytes : (bytes : List ℕ) (none : Bool) → none ≡ eqb (length bytes) 0 → none ≡ false → 0 < length bytes
some_bytes bytes none e f = grind (arith, nat_tests)

-- a line's bytes, or its refusal, by what was read
pub line_read : (number : ℕ) (meant : Result (List ℕ) FromHexError) (bytes : List ℕ) → Some bytes ≡ result_ok meant → on_digits number meant ≡ Ok bytes
line_read number (Ok read) bytes e = cc
line_read number (Err why) bytes e = absurd cc

pub line_refused : (number : ℕ) (meant : Result (List ℕ) FromHexError) → None ≡ result_ok meant → on_digits number meant ≡ Err (refusal.Hex number)
line_refused number (Ok read) e = absurd cc
line_refused number (Err why) e = refl

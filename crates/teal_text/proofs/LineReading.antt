-- Reading a text line by line.
use Rattle.std.proofs.Common.{◌≡◌, ℕ, ◌+◌, ◌<◌, ◌≤◌, Bool, true, false, not, cond, eqb, List, [], ◌∷◌, ◌++◌, length, take, drop, Result, Ok, refl, ap, ◌∙◌, arith, inl, inr, ◌-◌}
use Rattle.std.specs.List.{slice_split, onto_first}
use Rattle.std.specs.Str.Lines.{strip_carriage_return}
use Rattle.std.proofs.lemmas.List.{drop_all, nil_from_length}
use Rattle.std.proofs.lemmas.List.Folds.{length-prefix_len}
use Rattle.std.proofs.lemmas.List.Sums.{prefix_len_passes, prefix_len-le-length}
use Rattle.std.proofs.lemmas.List.Splits.{slice_split_none, slice_split_first}
use Rattle.std.proofs.lemmas.List.Elements.{All-from_get_or}
use Rattle.std.proofs.lemmas.Bool.{cases_lt}
use Rattle.std.proofs.lemmas.Bool.Decides.{nat_tests}
use Rattle.teal_value.specs.declared.failure.Failure.{Failure}
use Rattle.teal_value.specs.declared.failure.Failure.TheVariants as failure
use Rattle.teal_text.specs.declared.fault.TextFault.{TextFault}
use Rattle.teal_text.specs.declared.token.Token.{Token}
use Rattle.teal_value.specs.Answer.{◌>>=◌, Fails}
use Rattle.teal_text.specs.Tokens.{tokens_of}
use Rattle.teal_text.specs.Lines.{LineTokens, on_line, with_line, lines_from, is_line_feed, line_len, line_text}
use Rattle.teal_text.specs.Unread.{all_lines, unread_behind}

-- a split list has at least one part
pub has_first : (p : ℕ → Bool) (xs : List ℕ) → (y : List ℕ) × (ys : List (List ℕ)) × (slice_split p xs ≡ y ∷ ys)
has_first p [] = ([], [], refl)
has_first p (x ∷ xs) =
    let r = has_first p xs in
    elim (p x) as (λ b. (y : List ℕ) × (ys : List (List ℕ)) × (cond b ([] ∷ slice_split p xs) (onto_first x (slice_split p xs)) ≡ y ∷ ys)) [
      | true ↦ ([], slice_split p xs, refl)
      | false ↦ (x ∷ r.0, r.1, ap (onto_first x) r.2)
    ]

pub not_false : (b : Bool) → not b ≡ true → b ≡ false
not_false true e = absurd cc
not_false false e = refl

-- a line before a line feed is without the carriage return at its end
pub line_text_before : (rest : List ℕ) → line_len rest < length rest → line_text rest ≡ strip_carriage_return (take (line_len rest) rest)
unfolding line_text
line_text_before rest lt =
    let test : eqb (line_len rest) (length rest) ≡ false = grind (arith, nat_tests) in
    rw test refl

-- a last line without a line feed is all that is left
pub line_text_whole : (rest : List ℕ) → line_len rest ≡ length rest → line_text rest ≡ rest
unfolding line_text
line_text_whole rest e =
    let test : eqb (line_len rest) (length rest) ≡ true = grind (arith, nat_tests) in
    rw test refl

-- what one line and those behind it give
abbrev then_lines : ℕ → ℕ → List ℕ → Result (List Token) TextFault → Result (List LineTokens) TextFault
then_lines number place rest ts = ts >>= λ tokens. with_line (record { number = number; tokens = tokens }) (lines_from (number + 1) (place + line_len rest + 1) (slice_split is_line_feed (drop (line_len rest + 1) rest)))

first_line_lem : (number place : ℕ) (rest : List ℕ) → line_len rest < length rest → lines_from number place (slice_split is_line_feed rest) ≡ then_lines number place rest (on_line number (tokens_of place (line_text rest)))
unfolding lines_from
first_line_lem number place rest lt =
    let split = slice_split_first is_line_feed rest 0 lt in
    let f = has_first is_line_feed (drop (line_len rest + 1) rest) in
    let read = on_line number (tokens_of place (strip_carriage_return (take (line_len rest) rest))) in
    rw (line_text_before rest lt, split, f.2) (ap (λ (n : ℕ). read >>= λ tokens. with_line (record { number = number; tokens = tokens }) (lines_from (number + 1) (place + n + 1) (f.0 ∷ f.1))) (length-prefix_len (λ x. not (is_line_feed x)) rest))

last_line_lem : (number place : ℕ) (rest : List ℕ) → 0 < length rest → line_len rest ≡ length rest → lines_from number place (slice_split is_line_feed rest) ≡ then_lines number place rest (on_line number (tokens_of place (line_text rest)))
unfolding lines_from
last_line_lem number place [] some e = absurd (omega arith)
last_line_lem number place (b ∷ bs) some e =
    let none : slice_split is_line_feed (b ∷ bs) ≡ (b ∷ bs) ∷ [] = slice_split_none is_line_feed (b ∷ bs) (All-from_get_or (λ x. is_line_feed x ≡ false) (b ∷ bs) 0 (λ i h. not_false _ (prefix_len_passes (λ x. not (is_line_feed x)) (b ∷ bs) i 0 (omega (arith, e))))) in
    let gone : drop (line_len (b ∷ bs) + 1) (b ∷ bs) ≡ [] = drop_all (line_len (b ∷ bs) + 1) (b ∷ bs) (omega (arith, e)) in
    rw (line_text_whole (b ∷ bs) e, gone, none) refl

next_line : (number place : ℕ) (rest : List ℕ) → 0 < length rest → lines_from number place (slice_split is_line_feed rest) ≡ then_lines number place rest (on_line number (tokens_of place (line_text rest)))
next_line number place rest some =
    elim (cases_lt (line_len rest) (length rest)) [
      | inl lt ↦ first_line_lem number place rest lt
      | inr le ↦ last_line_lem number place rest some (omega (arith, prefix_len-le-length (λ x. not (is_line_feed x)) rest))
    ]

-- the place of a rest that is empty doesn't count
any_place : (number p q : ℕ) (rest : List ℕ) → rest ≡ [] → lines_from number p (slice_split is_line_feed rest) ≡ lines_from number q (slice_split is_line_feed rest)
unfolding lines_from
any_place number p q rest e = rw e refl

same_place : (number p q len : ℕ) (rest next : List ℕ) → (len < length rest → q ≡ p) → (length rest ≤ len → next ≡ []) → lines_from number p (slice_split is_line_feed next) ≡ lines_from number q (slice_split is_line_feed next)
same_place number p q len rest next e gone =
    elim (cases_lt len (length rest)) [
      | inl lt ↦ rw (e lt) refl
      | inr le ↦ any_place number p q next (gone le)
    ]

-- behind no lines, all lines of the text are left
pub from_top : (text : List ℕ) → unread_behind 0 text text ≡ all_lines text
from_top text =
    let place : length text - length text ≡ 0 = omega arith in
    ap (λ p. record { text = text; read = 0; left = length text; lines = lines_from 1 p (slice_split is_line_feed text) }) place

-- the first line is read, and the lines behind it are those of what follows it
pub takes : (number place at : ℕ) (rest next : List ℕ) (tokens : List Token) → 0 < length rest → on_line number (tokens_of place (line_text rest)) ≡ Ok tokens → next ≡ drop (line_len rest + 1) rest → (line_len rest < length rest → at ≡ place + line_len rest + 1)
    → lines_from number place (slice_split is_line_feed rest) ≡ with_line (record { number = number; tokens = tokens }) (lines_from (number + 1) at (slice_split is_line_feed next))
takes number place at rest next tokens some e next-is at-is =
    let line : LineTokens = record { number = number; tokens = tokens } in
    let one : lines_from number place (slice_split is_line_feed rest) ≡ with_line line (lines_from (number + 1) (place + line_len rest + 1) (slice_split is_line_feed (drop (line_len rest + 1) rest))) = next_line number place rest some ∙ ap (then_lines number place rest) e in
    let there = same_place (number + 1) (place + line_len rest + 1) at (line_len rest) rest (drop (line_len rest + 1) rest) at-is (λ le. drop_all (line_len rest + 1) rest (omega (arith, le))) in
    rw next-is (one ∙ ap (with_line line) there)

-- a failure of the first line is that of all lines
pub refuses : (d : Failure TextFault) (number place : ℕ) (rest : List ℕ) → 0 < length rest → Fails d (on_line number (tokens_of place (line_text rest))) → Fails d (lines_from number place (slice_split is_line_feed rest))
refuses failure.Memory number place rest some e = tt
refuses (failure.Fault f) number place rest some e = next_line number place rest some ∙ ap (then_lines number place rest) e

pub none_left : (number place : ℕ) (rest : List ℕ) → length rest ≡ 0 → lines_from number place (slice_split is_line_feed rest) ≡ Ok []
unfolding lines_from
none_left number place rest e = rw (nil_from_length rest e) refl

-- ---- all lines of a text

-- lines in front of those that are left, or the fault of these
abbrev pub with_lines : List LineTokens → Result (List LineTokens) TextFault → Result (List LineTokens) TextFault
with_lines before left = left >>= λ ls. Ok (before ++ ls)

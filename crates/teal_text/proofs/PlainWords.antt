-- A text of plain words reads as its lines and words.
use Rattle.std.proofs.Common.{◌≡◌, ℕ, zero, suc, ◌+◌, ◌-◌, ◌<◌, Bool, true, false, not, ◌&&◌, ◌||◌, cond, eqb, ltb, List, [], ◌∷◌, ◌++◌, length, map, drop, get_or, slice_range, Option, Some, Result, Ok, refl, sym, ap, ◌∙◌, append_assoc, length-append, arith, All}
use Rattle.std.specs.List.{list_all, slice_split}
use Rattle.std.specs.Str.Lines.{strip_carriage_return}
use Rattle.std.proofs.Math.Nat.{add-sub_cancel_left}
use Rattle.std.proofs.Math.Seq.{take-append_seam, drop-append_seam}
use Rattle.std.proofs.lemmas.List.Folds.{list_all-append}
use Rattle.std.proofs.lemmas.List.Sums.{AllPass-from_list_all}
use Rattle.std.proofs.lemmas.List.Splits.{slice_split_at}
use Rattle.std.proofs.lemmas.Bool.Decides.{nat_tests}
use Rattle.std.proofs.lemmas.Bool.{and_parts, not-true}
use Rattle.teal_value.specs.Answer.{◌>>=◌}
use Rattle.teal_text.specs.declared.fault.TextFaultKind.{TextFaultKind}
use Rattle.teal_text.specs.declared.scan.FirstToken.{FirstToken}
use Rattle.teal_text.specs.declared.token.Token.{Token}
use Rattle.teal_text.specs.Tokens.{is_blank, blank_len, begins_comment, word_len, is_base64_word, announces_base64, first_token, tokens_from, tokens_of}
use Rattle.teal_text.specs.Lines.{LineTokens, on_line, with_line, lines_from, is_line_feed}
use Rattle.teal_text.specs.PlainWords.{has_comment, is_plain_byte, is_plain_word, is_plain_line, spaced, line_of_words, text_of_lines, tokens_of_words, lines_of_words, words_at}
use Rattle.teal_text.proofs.Reading.{step}
use Rattle.teal_text.proofs.LineReading.{has_first}

-- what a plain byte is not
record IsPlain (b : ℕ) : Type 0 where
  blank : is_blank b ≡ false
  feed : eqb b 10 ≡ false
  return : eqb b 13 ≡ false
  mark : eqb b 34 ≡ false

none_of : (p q r s : Bool) → not (((p || q) || r) || s) ≡ true → (p ≡ false) × (q ≡ false) × (r ≡ false) × (s ≡ false)
none_of true q r s e = absurd cc
none_of false true r s e = absurd cc
none_of false false true s e = absurd cc
none_of false false false true e = absurd cc
none_of false false false false e = (refl, refl, refl, refl)

plain : (b : ℕ) → is_plain_byte b ≡ true → IsPlain b
plain b e =
    let n = none_of (is_blank b) (eqb b 10) (eqb b 13) (eqb b 34) e in
    record { blank = n.0; feed = n.1; return = n.2; mark = n.3 }

-- a word that is not empty, of plain bytes, in which no comment begins
record IsWord (word : List ℕ) : Type 0 where
  some : 0 < length word
  bytes : list_all is_plain_byte word ≡ true
  comment : has_comment word ≡ false

is_word : (word : List ℕ) → is_plain_word word ≡ true → IsWord word
is_word word p =
    let first = and_parts (ltb 0 (length word)) _ p in
    let more = and_parts (list_all is_plain_byte word) (not (has_comment word)) first.1 in
    record { some = grind (arith, nat_tests, first.0); bytes = more.0; comment = not-true _ more.1 }

neither : (a b : Bool) → a || b ≡ false → (a ≡ false) × (b ≡ false)
neither true b e = absurd cc
neither false b e = (refl, e)

-- what may follow a word
abbrev ends_word : List ℕ → Bool
ends_word [] = true
ends_word (b ∷ bs) = is_blank b

spaced_ends : (words : List (List ℕ)) → ends_word (spaced words) ≡ true
spaced_ends [] = refl
spaced_ends (word ∷ words) = refl

blank_is : (b : ℕ) → is_blank b ≡ true → eqb 47 b ≡ false
blank_is b e = elim (eqb b 32) as (λ x. x ≡ eqb b 32 → x || eqb b 9 ≡ true → eqb 47 b ≡ false) [
  | true ↦ λ h _. grind (arith, nat_tests)
  | false ↦ λ h tab. grind (arith, nat_tests)
] refl e

and_false : (a : Bool) → a && false ≡ false
and_false true = refl
and_false false = refl

no_comment : (b : ℕ) (bs rest : List ℕ) → begins_comment (b ∷ bs) ≡ false → ends_word rest ≡ true → begins_comment (b ∷ (bs ++ rest)) ≡ false
no_comment b [] [] e ends = e
no_comment b [] (r ∷ rs) e ends = rw (blank_is r ends) (and_false (eqb 47 b))
no_comment b (c ∷ cs) rest e ends = e

stays : (p q r : Bool) (n : ℕ) → p ≡ false → r ≡ false → cond (p || (q && r)) 0 (suc n) ≡ suc n
stays true q r n e f = absurd cc
stays false true true n e f = absurd cc
stays false true false n e f = refl
stays false false r n e f = refl

stops : (p q : Bool) (n : ℕ) → p ≡ true → cond (p || q) 0 (suc n) ≡ 0
stops true q n e = refl
stops false q n e = absurd cc

word_len_of : (base64 : Bool) (word rest : List ℕ) → list_all is_plain_byte word ≡ true → has_comment word ≡ false → ends_word rest ≡ true → word_len base64 (word ++ rest) ≡ length word
word_len_of base64 [] [] p c ends = refl
word_len_of base64 [] (b ∷ bs) p c ends = stops (is_blank b) (not base64 && begins_comment (b ∷ bs)) (word_len base64 bs) ends
word_len_of base64 (b ∷ bs) rest p c ends =
    let here = and_parts (is_plain_byte b) (list_all is_plain_byte bs) p in
    let is = plain b here.0 in
    let free = neither (begins_comment (b ∷ bs)) (has_comment bs) c in
    let more = word_len_of base64 bs rest here.1 free.1 ends in
    stays (is_blank b) (not base64) (begins_comment (b ∷ (bs ++ rest))) (word_len base64 (bs ++ rest)) is.blank (no_comment b bs rest free.0 ends) ∙ ap (λ n. suc n) more

not_ended : (none q comment : Bool) → none ≡ false → comment ≡ false → none || (q && comment) ≡ false
not_ended true q comment e f = absurd cc
not_ended false true true e f = absurd cc
not_ended false true false e f = refl
not_ended false false comment e f = refl

abbrev found : ℕ → Result (Option FirstToken) TextFaultKind
found n = Ok (Some (record { len = n; string = false }))

first_token_of : (base64 : Bool) (word rest : List ℕ) → is_plain_word word ≡ true → ends_word rest ≡ true → first_token base64 (word ++ rest) ≡ found (length word)
unfolding first_token
first_token_of base64 [] rest p ends = absurd cc
first_token_of base64 (b ∷ bs) rest p ends =
    let word = is_word (b ∷ bs) p in
    let is = plain b (and_parts (is_plain_byte b) (list_all is_plain_byte bs) word.bytes).0 in
    let free = neither (begins_comment (b ∷ bs)) (has_comment bs) word.comment in
    let some : eqb (length (b ∷ (bs ++ rest))) 0 ≡ false = grind (arith, nat_tests) in
    let open_line = not_ended (eqb (length (b ∷ (bs ++ rest))) 0) (not base64) (begins_comment (b ∷ (bs ++ rest))) some (no_comment b bs rest free.0 ends) in
    let len = word_len_of (is_base64_word base64 (b ∷ (bs ++ rest))) (b ∷ bs) rest word.bytes word.comment ends in
    rw (open_line, is.mark, len) refl

-- the tokens from a plain word on
one_word : (n : ℕ) (base64 : Bool) (place gap : ℕ) (bs word rest : List ℕ) → blank_len bs ≡ gap → drop gap bs ≡ word ++ rest → is_plain_word word ≡ true → ends_word rest ≡ true
    → tokens_from (suc n) base64 place bs ≡ (tokens_from n (announces_base64 word rest) (place + gap + length word) rest >>= λ tokens. Ok (record { start = place + gap; end = place + gap + length word; string = false } ∷ tokens))
one_word n base64 place gap bs word rest gap-is rest-is p ends =
    let first : first_token base64 (drop (blank_len bs) bs) ≡ found (length word) = rw (gap-is, rest-is) (first_token_of base64 word rest p ends) in
    step n base64 place bs (found (length word)) first ∙ rw (gap-is, rest-is, take-append_seam word rest, drop-append_seam word rest) refl

no_words : (n : ℕ) (base64 : Bool) (place : ℕ) → 0 < n → tokens_from n base64 place [] ≡ Ok []
unfolding tokens_from blank_len first_token
no_words zero base64 place some = absurd (omega arith)
no_words (suc n) base64 place some = refl

blank_len_none : (word rest : List ℕ) → is_plain_word word ≡ true → blank_len (word ++ rest) ≡ 0
unfolding blank_len
blank_len_none [] rest p = absurd cc
blank_len_none (b ∷ bs) rest p =
    let is = plain b (and_parts (is_plain_byte b) (list_all is_plain_byte bs) (is_word (b ∷ bs) p).bytes).0 in
    rw is.blank refl

blank_len_one : (word rest : List ℕ) → is_plain_word word ≡ true → blank_len (32 ∷ (word ++ rest)) ≡ 1
unfolding blank_len
blank_len_one word rest p = ap (λ n. 1 + n) (blank_len_none word rest p)

spaced_tokens : (n : ℕ) (base64 : Bool) (place : ℕ) (words : List (List ℕ)) → length (spaced words) < n → is_plain_line words ≡ true → tokens_from n base64 place (spaced words) ≡ Ok (tokens_of_words (place + 1) words)
spaced_tokens n base64 place [] lt p = no_words n base64 place (omega arith)
spaced_tokens zero base64 place (word ∷ words) lt p = absurd (omega arith)
spaced_tokens (suc n) base64 place (word ∷ words) lt p =
    let parts = and_parts (is_plain_word word) (is_plain_line words) p in
    let len = length-append word (spaced words) in
    let more = spaced_tokens n (announces_base64 word (spaced words)) (place + 1 + length word) words (omega arith) parts.1 in
    one_word n base64 place 1 (spaced (word ∷ words)) word (spaced words) (blank_len_one word (spaced words) parts.0) refl parts.0 (spaced_ends words) ∙ rw more refl

tokens_read : (place : ℕ) (words : List (List ℕ)) → is_plain_line words ≡ true → tokens_of place (line_of_words words) ≡ Ok (tokens_of_words place words)
unfolding tokens_of
tokens_read place [] p = no_words 1 false place (omega arith)
tokens_read place (word ∷ words) p =
    let parts = and_parts (is_plain_word word) (is_plain_line words) p in
    let line = word ++ spaced words in
    let len = length-append word (spaced words) in
    let some = (is_word word parts.0).some in
    let start : place + 0 ≡ place = omega arith in
    let more = spaced_tokens (length line) (announces_base64 word (spaced words)) (place + length word) words (omega arith) parts.1 in
    one_word (length line) false place 0 line word (spaced words) (blank_len_none word (spaced words) parts.0) refl parts.0 (spaced_ends words) ∙ rw (start, more) refl

-- a line of plain words has plain bytes and spaces
abbrev in_line : ℕ → Bool
in_line b = is_plain_byte b || eqb b 32

weaker : (p q : Bool) → p ≡ true → p || q ≡ true
weaker true q e = refl
weaker false q e = absurd cc

word_in_line : (word : List ℕ) → list_all is_plain_byte word ≡ true → list_all in_line word ≡ true
word_in_line [] p = refl
word_in_line (b ∷ bs) p =
    let parts = and_parts (is_plain_byte b) (list_all is_plain_byte bs) p in
    rw (weaker (is_plain_byte b) (eqb b 32) parts.0) (word_in_line bs parts.1)

spaced_in_line : (words : List (List ℕ)) → is_plain_line words ≡ true → list_all in_line (spaced words) ≡ true
spaced_in_line [] p = refl
spaced_in_line (word ∷ words) p =
    let parts = and_parts (is_plain_word word) (is_plain_line words) p in
    rw (list_all-append in_line word (spaced words), word_in_line word (is_word word parts.0).bytes) (spaced_in_line words parts.1)

line_in_line : (words : List (List ℕ)) → is_plain_line words ≡ true → list_all in_line (line_of_words words) ≡ true
line_in_line [] p = refl
line_in_line (word ∷ words) p =
    let parts = and_parts (is_plain_word word) (is_plain_line words) p in
    rw (list_all-append in_line word (spaced words), word_in_line word (is_word word parts.0).bytes) (spaced_in_line words parts.1)

no_end : (b : ℕ) → in_line b ≡ true → (eqb b 10 ≡ false) × (eqb b 13 ≡ false)
no_end b e = elim (is_plain_byte b) as (λ x. x ≡ is_plain_byte b → x || eqb b 32 ≡ true → (eqb b 10 ≡ false) × (eqb b 13 ≡ false)) [
  | true ↦ λ h _. let is = plain b (sym h) in (is.feed, is.return)
  | false ↦ λ h space. (grind (arith, nat_tests), grind (arith, nat_tests))
] refl e

no_feed : (line : List ℕ) → list_all in_line line ≡ true → All (λ b. is_line_feed b ≡ false) line
no_feed line p k d lt = (no_end (get_or line k d) (AllPass-from_list_all in_line line p k d lt)).0

kept : (line : List ℕ) → list_all in_line line ≡ true → strip_carriage_return line ≡ line
kept [] p = refl
kept (b ∷ bs) p =
    let line = b ∷ bs in
    let last = (no_end (get_or line (length line - 1) 0) (AllPass-from_list_all in_line line p (length line - 1) 0 (omega arith))).1 in
    rw last refl

lines_from_more : (number place : ℕ) (line next : List ℕ) (more : List (List ℕ)) → lines_from number place (line ∷ next ∷ more)
    ≡ (on_line number (tokens_of place (strip_carriage_return line)) >>= λ tokens. with_line (record { number = number; tokens = tokens }) (lines_from (number + 1) (place + length line + 1) (next ∷ more)))
unfolding lines_from
lines_from_more number place line next more = refl

next_line : (number place : ℕ) (line : List ℕ) (parts : List (List ℕ)) (tokens : List Token) (read : List LineTokens) → ((y : List ℕ) × (ys : List (List ℕ)) × (parts ≡ y ∷ ys)) → strip_carriage_return line ≡ line → tokens_of place line ≡ Ok tokens
    → lines_from (number + 1) (place + length line + 1) parts ≡ Ok read → lines_from number place (line ∷ parts) ≡ Ok (record { number = number; tokens = tokens } ∷ read)
next_line number place line parts tokens read (y, ys, e) same tokens-are more =
    let later : lines_from (number + 1) (place + length line + 1) (y ∷ ys) ≡ Ok read = ap (lines_from (number + 1) (place + length line + 1)) (sym e) ∙ more in
    ap (λ x. lines_from number place (line ∷ x)) e ∙ lines_from_more number place line y ys ∙ rw (same, tokens-are, later) refl

-- a text of plain words is read, line by line, as the tokens of its words
pub lines_read : (number place : ℕ) (lines : List (List (List ℕ))) → list_all is_plain_line lines ≡ true → lines_from number place (slice_split is_line_feed (text_of_lines lines)) ≡ Ok (lines_of_words number place lines)
unfolding lines_from
lines_read number place [] p = refl
lines_read number place (words ∷ lines) p =
    let parts = and_parts (is_plain_line words) (list_all is_plain_line lines) p in
    let line = line_of_words words in
    let in_one = line_in_line words parts.0 in
    let split : slice_split is_line_feed (line ++ 10 ∷ text_of_lines lines) ≡ line ∷ slice_split is_line_feed (text_of_lines lines) = slice_split_at is_line_feed line 10 (text_of_lines lines) (no_feed line in_one) refl in
    let more = lines_read (number + 1) (place + length line + 1) lines parts.1 in
    rw split (next_line number place line (slice_split is_line_feed (text_of_lines lines)) (tokens_of_words place words) (lines_of_words (number + 1) (place + length line + 1) lines) (has_first is_line_feed (text_of_lines lines)) (kept line in_one) (tokens_read place words parts.0) more)

abbrev word_at : List ℕ → Token → List ℕ
word_at text token = slice_range text token.start token.end

one_word_at : (before word rest : List ℕ) (place : ℕ) → length before ≡ place → slice_range (before ++ (word ++ rest)) place (place + length word) ≡ word
one_word_at before word rest place e =
    rw (add-sub_cancel_left place (length word), ← e, drop-append_seam before (word ++ rest)) (take-append_seam word rest)

words_of_line : (text before after : List ℕ) (place : ℕ) (words : List (List ℕ)) → text ≡ before ++ (line_of_words words ++ after) → length before ≡ place → map (word_at text) (tokens_of_words place words) ≡ words
words_of_line text before after place [] e len = refl
words_of_line text before after place (word ∷ []) e len =
    let split : text ≡ before ++ (word ++ after) = e ∙ ap (λ x. before ++ x) (simp append_assoc) in
    ap (λ x. x ∷ []) (ap (λ x. slice_range x place (place + length word)) split ∙ one_word_at before word after place len)
words_of_line text before after place (word ∷ next ∷ words) e len =
    let rest = 32 ∷ (line_of_words (next ∷ words) ++ after) in
    let split : text ≡ before ++ (word ++ rest) = e ∙ ap (λ x. before ++ x) (simp append_assoc) in
    let deeper : text ≡ (before ++ (word ++ 32 ∷ [])) ++ (line_of_words (next ∷ words) ++ after) = split ∙ simp append_assoc in
    let more = words_of_line text (before ++ (word ++ 32 ∷ [])) after (place + length word + 1) (next ∷ words) deeper (omega (arith, length-append before (word ++ 32 ∷ []), length-append word (32 ∷ []))) in
    let here : word_at text (record { start = place; end = place + length word; string = false }) ≡ word = ap (λ x. slice_range x place (place + length word)) split ∙ one_word_at before word rest place len in
    rw (here, more) refl

words_from : (text before : List ℕ) (number place : ℕ) (lines : List (List (List ℕ))) → text ≡ before ++ text_of_lines lines → length before ≡ place → map (words_at text) (lines_of_words number place lines) ≡ lines
words_from text before number place [] e len = refl
words_from text before number place (words ∷ lines) e len =
    let line = line_of_words words in
    let deeper : text ≡ (before ++ (line ++ 10 ∷ [])) ++ text_of_lines lines = e ∙ simp append_assoc in
    let more = words_from text (before ++ (line ++ 10 ∷ [])) (number + 1) (place + length line + 1) lines deeper (omega (arith, length-append before (line ++ 10 ∷ []), length-append line (10 ∷ []))) in
    let here = words_of_line text before (10 ∷ text_of_lines lines) place words e len in
    rw (here, more) refl

-- in a text made of lines of words, the words stand where their tokens lie
pub words_read : (lines : List (List (List ℕ))) → map (words_at (text_of_lines lines)) (lines_of_words 1 0 lines) ≡ lines
words_read lines = words_from (text_of_lines lines) [] 1 0 lines refl refl

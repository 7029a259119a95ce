-- Texts of plain words: what a listing is made of.
use Rattle.std.specs.Prelude.{ℕ, ◌+◌, ◌==◌, Bool, false, not, ◌&&◌, ◌||◌, nat_lt, List, [], ◌∷◌, ◌++◌, length, map, slice_range}
use Rattle.std.specs.List.{list_all}
use Rattle.teal_text.specs.declared.token.Token.{Token}
use Rattle.teal_text.specs.Tokens.{begins_comment, is_blank}
use Rattle.teal_text.specs.Lines.{LineTokens}

-- a byte that ends no word and no line, and with which no string begins
abbrev pub is_plain_byte : ℕ → Bool
is_plain_byte b = not (((is_blank b || b == 10) || b == 13) || b == 34)

-- whether a comment begins in a word
abbrev pub has_comment : List ℕ → Bool
has_comment [] = false
has_comment (b ∷ bs) = begins_comment (b ∷ bs) || has_comment bs

abbrev pub is_plain_word : List ℕ → Bool
is_plain_word word = nat_lt 0 (length word) && (list_all is_plain_byte word && not (has_comment word))

abbrev pub is_plain_line : List (List ℕ) → Bool
is_plain_line words = list_all is_plain_word words

-- each word behind a space
abbrev pub spaced : List (List ℕ) → List ℕ
spaced [] = []
spaced (word ∷ words) = 32 ∷ (word ++ spaced words)

-- words with one space between them
abbrev pub line_of_words : List (List ℕ) → List ℕ
line_of_words [] = []
line_of_words (word ∷ words) = word ++ spaced words

-- lines that end with a line feed each
abbrev pub text_of_lines : List (List (List ℕ)) → List ℕ
text_of_lines [] = []
text_of_lines (words ∷ lines) = line_of_words words ++ 10 ∷ text_of_lines lines

-- the tokens of words that stand from a place of the text on
abbrev pub tokens_of_words : ℕ → List (List ℕ) → List Token
tokens_of_words place [] = []
tokens_of_words place (word ∷ words) = record { start = place; end = place + length word; string = false } ∷ tokens_of_words (place + length word + 1) words

abbrev pub lines_of_words : ℕ → ℕ → List (List (List ℕ)) → List LineTokens
lines_of_words number place [] = []
lines_of_words number place (words ∷ lines) = record { number = number; tokens = tokens_of_words place words } ∷ lines_of_words (number + 1) (place + length (line_of_words words) + 1) lines

-- the words that stand in a text where a line's tokens lie
abbrev pub words_at : List ℕ → LineTokens → List (List ℕ)
words_at text line = map (λ token. slice_range text token.start token.end) line.tokens

-- The tokens of one line, which is a list of bytes without its line end.
use Rattle.std.specs.Prelude.{ℕ, zero, suc, ◌+◌, ◌<◌, ◌≤◌, ◌==◌, Bool, true, false, not, ◌&&◌, ◌||◌, if◌then◌else◌, List, [], ◌∷◌, length, take, drop, slice_index, codes, nat_eq, Option, Some, None, Result, Ok, Err}
use Rattle.std.specs.List.{prefix_len, starts_with}
use Rattle.std.specs.Str.{bytes_eq}
use Rattle.teal_value.specs.Answer.{◌>>=◌}
use Rattle.teal_text.specs.declared.fault.TextFaultKind.{TextFaultKind}
use Rattle.teal_text.specs.declared.fault.TextFaultKind.TheVariants.{Unclosed, BadEscape, Glued}
use Rattle.teal_text.specs.declared.string.StringState.{StringState}
use Rattle.teal_text.specs.declared.string.StringState.TheVariants.{Plain}
use Rattle.teal_text.specs.Strings.{closes, next_state}
use Rattle.teal_text.specs.declared.scan.FirstToken.{FirstToken}
use Rattle.teal_text.specs.declared.token.Token.{Token}

-- a space or a tab
abbrev pub is_blank : ℕ → Bool
is_blank b = b == 32 || b == 9

-- how many blanks a line begins with
unfoldable pub blank_len : List ℕ → ℕ
blank_len bs = prefix_len is_blank bs

abbrev pub begins_comment : List ℕ → Bool
begins_comment bs = starts_with nat_eq bs (codes "//")

-- how long the word at the front is: up to a blank, or up to a comment unless it is a base64 word
abbrev pub word_len : Bool → List ℕ → ℕ
word_len base64 [] = 0
word_len base64 (b ∷ bs) = if is_blank b || (not base64 && begins_comment (b ∷ bs)) then 0 else suc (word_len base64 bs)

abbrev pub one_more : Result ℕ TextFaultKind → Result ℕ TextFaultKind
one_more (Ok n) = Ok (suc n)
one_more (Err e) = Err e

abbrev pub unless_bad : Option StringState → (StringState → Result ℕ TextFaultKind) → Result ℕ TextFaultKind
unless_bad None f = Err BadEscape
unless_bad (Some state) f = one_more (f state)

-- how many bytes of a string are left, with the quotation mark that ends it
abbrev pub string_len : StringState → List ℕ → Result ℕ TextFaultKind
string_len state [] = Err Unclosed
string_len state (b ∷ bs) = if closes state b then Ok 1 else unless_bad (next_state state b) (λ next. string_len next bs)

-- nothing is left but a comment
abbrev pub is_ended : Bool → List ℕ → Bool
is_ended base64 bs = length bs == 0 || (not base64 && begins_comment bs)

-- what may stand behind a string
abbrev pub may_follow_string : List ℕ → Bool
may_follow_string bs = length bs == 0 || is_blank (slice_index bs 0) || begins_comment bs

-- a word in which `//` begins no comment: one that was announced, or that begins as a base64 literal in one word does
abbrev pub is_base64_word : Bool → List ℕ → Bool
is_base64_word announced bs = announced || starts_with nat_eq bs (codes "base64(") || starts_with nat_eq bs (codes "b64(")

abbrev pub is_base64_name : List ℕ → Bool
is_base64_name word = bytes_eq word (codes "base64") || bytes_eq word (codes "b64")

-- A token, and what follows it: the next word is a base64 word, unless a comment cuts the token off.
unfoldable pub announces_base64 : List ℕ → List ℕ → Bool
announces_base64 word rest = is_base64_name word && not (begins_comment rest)

-- the token that a line's rest begins with, where no blank stands before it
unfoldable pub first_token : Bool → List ℕ → Result (Option FirstToken) TextFaultKind
first_token base64 bs =
    if is_ended base64 bs then Ok None
    else if slice_index bs 0 == 34 then (string_len Plain (drop 1 bs) >>= λ n.
    if may_follow_string (drop (n + 1) bs) then Ok (Some (record { len = n + 1; string = true })) else Err Glued)
    else Ok (Some (record { len = word_len (is_base64_word base64 bs) bs; string = false }))

-- the tokens from the first one on, if there is one
abbrev pub with_token : ℕ → Option FirstToken → (FirstToken → Result (List Token) TextFaultKind) → Result (List Token) TextFaultKind
with_token place None more = Ok []
with_token place (Some first) more = more first >>= λ tokens.
    Ok (record { start = place; end = place + first.len; string = first.string } ∷ tokens)

-- at most n tokens of a line's rest, which stands at a place of the text
unfoldable pub tokens_from : ℕ → Bool → ℕ → List ℕ → Result (List Token) TextFaultKind
tokens_from zero base64 place bs = Ok []
tokens_from (suc n) base64 place bs =
    let gap = blank_len bs in
    let rest = drop gap bs in
    first_token base64 rest >>= λ found. with_token (place + gap) found (λ first.
    tokens_from n (announces_base64 (take first.len rest) (drop first.len rest)) (place + gap + first.len) (drop first.len rest))

-- all of them: each takes a byte at least
unfoldable pub tokens_of : ℕ → List ℕ → Result (List Token) TextFaultKind
tokens_of place bs = tokens_from (suc (length bs)) false place bs

-- a token that takes a byte at least and lies between two places of the text
abbrev pub LiesWithin : ℕ → ℕ → Token → Type 0
LiesWithin low high token = (low ≤ token.start) × (token.start < token.end) × (token.end ≤ high)

-- The text of a document has the tokens of the value that it shows.
use Rattle.std.proofs.Common.{◌≡◌, ℕ, zero, suc, ◌*◌, Bool, true, false, cond, ◌&&◌, List, [], ◌∷◌, ◌++◌, replicate, refl, sym, subst, ap, ap₂, ◌∙◌, append_assoc, append-nil, map, inl, inr}
use Rattle.std.specs.Prelude.{codes}
use Rattle.json.specs.Token.{Token, begin_object, end_object, begin_array, end_array, key, string, number, boolean, null, bad}
use Rattle.json.specs.Word.{ends_word, word}
use Rattle.json.specs.Lex.{Lexeme, token, comma, colon, string_token, lex, between, fresh, punctuate, tokens}
use Rattle.json.specs.Print.{escape, quoted, token_text, begins, ends, separator, IsPrintable, ArePrintable}
use Rattle.json.specs.Layout.{Last, nothing, bracket, name, value, is_value, gap, depth_at, after, step, pretty_from, pretty}
use Rattle.json.specs.Spaced.{IsGap, AreGaps, print_spaced}
use Rattle.json.proofs.Printed.Strings.{content-escape, lex-escape}
use Rattle.json.proofs.Printed.Numbers.{lex-number, in_word-ended}
use Rattle.json.proofs.Printed.Tokens.{tokens-print_spaced}

-- ---- the layout puts gaps before tokens

-- each token with the gap before it
abbrev spaced : Last × ℕ → List Token → List (List ℕ × Token)
spaced s [] = []
spaced s (t ∷ ts) = (gap s.0 (begins t) (depth_at s.1 t), t) ∷ spaced (step s t) ts

spaces : (n : ℕ) → IsGap (replicate n 32)
spaces zero = tt
spaces (suc n) = (inl refl, spaces n)

pub is_gap : (l : Last) (opens : Bool) (depth : ℕ) → IsGap (gap l opens depth)
is_gap nothing opens depth = tt
is_gap bracket true depth = (inr refl, spaces (2 * depth))
is_gap bracket false depth = tt
is_gap name opens depth = (inl refl, tt)
is_gap value opens depth = (inr refl, spaces (2 * depth))

are_gaps : (s : Last × ℕ) (ts : List Token) → AreGaps (spaced s ts)
are_gaps s [] = tt
are_gaps s (t ∷ ts) = (is_gap s.0 (begins t) (depth_at s.1 t), are_gaps (step s t) ts)

their_tokens : (s : Last × ℕ) (ts : List Token) → map (λ p. p.1) (spaced s ts) ≡ ts
their_tokens s [] = refl
their_tokens s (t ∷ ts) = ap (λ us. t ∷ us) (their_tokens (step s t) ts)

value_ends : (t : Token) (depth : ℕ) → is_value (after t depth).0 ≡ ends t
value_ends begin_object depth = refl
value_ends end_object depth = refl
value_ends begin_array depth = refl
value_ends end_array depth = refl
value_ends (key s) depth = refl
value_ends (string s) depth = refl
value_ends (number s) depth = refl
value_ends (boolean b) depth = refl
value_ends null depth = refl
value_ends bad depth = refl

pretty_is_spaced : (s : Last × ℕ) (ts : List Token) → pretty_from s ts ≡ print_spaced (is_value s.0) (spaced s ts)
unfolding pretty_from print_spaced
pretty_is_spaced s [] = refl
pretty_is_spaced s (t ∷ ts) =
    let g = gap s.0 (begins t) (depth_at s.1 t) in
    let more : pretty_from (step s t) ts ≡ print_spaced (ends t) (spaced (step s t) ts) =
    pretty_is_spaced (step s t) ts ∙ ap (λ b. print_spaced b (spaced (step s t) ts)) (value_ends t (depth_at s.1 t)) in
    append_assoc (separator (is_value s.0) t) (g ++ token_text t) (pretty_from (step s t) ts)
    ∙ ap (λ l. separator (is_value s.0) t ++ l) (append_assoc g (token_text t) (pretty_from (step s t) ts) ∙ ap (λ l. g ++ (token_text t ++ l)) more)

-- ---- a line feed behind them changes nothing

token_lexemes : Token → List Lexeme
token_lexemes begin_object = token begin_object ∷ []
token_lexemes end_object = token end_object ∷ []
token_lexemes begin_array = token begin_array ∷ []
token_lexemes end_array = token end_array ∷ []
token_lexemes (key s) = token (string s) ∷ colon ∷ []
token_lexemes (string s) = token (string s) ∷ []
token_lexemes (number s) = token (number s) ∷ []
token_lexemes (boolean b) = token (boolean b) ∷ []
token_lexemes null = token null ∷ []
token_lexemes bad = []

lex_quoted : (s r : List ℕ) → lex between (quoted s ++ r) ≡ token (string s) ∷ lex between r
unfolding lex
lex_quoted s r = ap (λ l. lex between (34 ∷ l)) (append_assoc (escape s) (34 ∷ []) r) ∙ ap₂ (λ o l. token (string_token o) ∷ l) (content-escape s r) (lex-escape s r)

lex_token : (t : Token) (r : List ℕ) → IsPrintable t → (ends t ≡ true → ends_word r ≡ true) → lex between (token_text t ++ r) ≡ token_lexemes t ++ lex between r
unfolding lex word token_lexemes
lex_token begin_object r h ended = refl
lex_token end_object r h ended = refl
lex_token begin_array r h ended = refl
lex_token end_array r h ended = refl
lex_token (key s) r h ended = ap (lex between) (append_assoc (quoted s) (58 ∷ []) r) ∙ lex_quoted s (58 ∷ r)
lex_token (string s) r h ended = lex_quoted s r
lex_token (number s) r h ended = lex-number s r h (ended refl)
lex_token (boolean true) r h ended = ap₂ (λ b l. token (cond b (boolean true) bad) ∷ l) (ended refl) (in_word-ended r (ended refl))
lex_token (boolean false) r h ended = ap₂ (λ b l. token (cond b (boolean false) bad) ∷ l) (ended refl) (in_word-ended r (ended refl))
lex_token null r h ended = ap₂ (λ b l. token (cond b null bad) ∷ l) (ended refl) (in_word-ended r (ended refl))
lex_token bad r h ended = absurd h

lex_gap : (g r : List ℕ) → IsGap g → lex between (g ++ r) ≡ lex between r
unfolding lex
lex_gap [] r h = refl
lex_gap (x ∷ g) r (inl e, h) = rw e (lex_gap g r h)
lex_gap (x ∷ g) r (inr e, h) = rw e (lex_gap g r h)

lex_separator : (b : Bool) (r : List ℕ) → lex between (cond b (44 ∷ []) [] ++ r) ≡ cond b (comma ∷ []) [] ++ lex between r
unfolding lex
lex_separator true r = refl
lex_separator false r = refl

gap_ends : (g r : List ℕ) → IsGap g → ends_word r ≡ true → ends_word (g ++ r) ≡ true
gap_ends [] r h e = e
gap_ends (x ∷ g) r (inl is, h) e = rw is
gap_ends (x ∷ g) r (inr is, h) e = rw is

lexemes : Bool → List (List ℕ × Token) → List Lexeme → List Lexeme
lexemes c [] more = more
lexemes c (p ∷ ps) more = cond (c && begins p.1) (comma ∷ []) [] ++ (token_lexemes p.1 ++ lexemes (ends p.1) ps more)

module _ (r : List ℕ) (ended : ends_word r ≡ true) where
  rest_ends : (ps : List (List ℕ × Token)) → AreGaps ps → ends_word (print_spaced true ps ++ r) ≡ true
  unfolding print_spaced
  rest_ends [] h = ended
  rest_ends ((g, begin_object) ∷ ps) h = refl
  rest_ends ((g, end_object) ∷ ps) h = ap ends_word (append_assoc g (125 ∷ print_spaced true ps) r) ∙ gap_ends g _ h.0 refl
  rest_ends ((g, begin_array) ∷ ps) h = refl
  rest_ends ((g, end_array) ∷ ps) h = ap ends_word (append_assoc g (93 ∷ print_spaced true ps) r) ∙ gap_ends g _ h.0 refl
  rest_ends ((g, key s) ∷ ps) h = refl
  rest_ends ((g, string s) ∷ ps) h = refl
  rest_ends ((g, number s) ∷ ps) h = refl
  rest_ends ((g, boolean b) ∷ ps) h = refl
  rest_ends ((g, null) ∷ ps) h = refl
  rest_ends ((g, bad) ∷ ps) h = refl

  lex_spaced : (c : Bool) (ps : List (List ℕ × Token)) → AreGaps ps → ArePrintable (map (λ p. p.1) ps) → lex between (print_spaced c ps ++ r) ≡ lexemes c ps (lex between r)
  unfolding print_spaced ArePrintable lexemes
  lex_spaced c [] gaps h = refl
  lex_spaced c (p ∷ ps) gaps h =
      let rest = print_spaced (ends p.1) ps in
      ap (lex between) (split (separator c p.1) p.0 (token_text p.1) rest)
      ∙ lex_separator (c && begins p.1) (p.0 ++ (token_text p.1 ++ (rest ++ r)))
      ∙ ap (λ l. cond (c && begins p.1) (comma ∷ []) [] ++ l)
      (lex_gap p.0 (token_text p.1 ++ (rest ++ r)) gaps.0 ∙ lex_token p.1 (rest ++ r) h.0 (λ e. ap (λ b. ends_word (print_spaced b ps ++ r)) e ∙ rest_ends ps gaps.1)
      ∙ ap (λ l. token_lexemes p.1 ++ l) (lex_spaced (ends p.1) ps gaps.1 h.1))
    where
      split : (a b c d : List ℕ) → (a ++ (b ++ (c ++ d))) ++ r ≡ a ++ (b ++ (c ++ (d ++ r)))
      split a b c d = simp append_assoc

-- spaced tokens, and a line feed behind them
same_lexemes : (ps : List (List ℕ × Token)) → AreGaps ps → ArePrintable (map (λ p. p.1) ps) → lex between (print_spaced false ps ++ 10 ∷ []) ≡ lex between (print_spaced false ps)
unfolding lex
same_lexemes ps gaps h =
    lex_spaced (10 ∷ []) refl false ps gaps h ∙ sym (lex_spaced [] refl false ps gaps h) ∙ ap (lex between) (append-nil (print_spaced false ps))

-- printable tokens are read back from their text
pub tokens_back : (ts : List Token) → ArePrintable ts → tokens (pretty ts ++ codes "\n") ≡ ts
tokens_back ts h =
    let ps = spaced (nothing, 0) ts in
    let printable : ArePrintable (map (λ p. p.1) ps) = subst ArePrintable (sym (their_tokens (nothing, 0) ts)) h in
    ap (λ l. tokens (l ++ codes "\n")) (pretty_is_spaced (nothing, 0) ts)
    ∙ ap (punctuate fresh) (same_lexemes ps (are_gaps (nothing, 0) ts) printable)
    ∙ tokens-print_spaced ps (are_gaps (nothing, 0) ts) printable
    ∙ their_tokens (nothing, 0) ts

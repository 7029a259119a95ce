-- The strings of the value that a text of bytes is are of bytes.
use Rattle.std.proofs.Common.{◌≡◌, ℕ, ◌<◌, Bool, true, false, cond, eqb, List, [], ◌∷◌, length, take, ◌-◌, Option, Some, None, refl, inl, inr}
use Rattle.std.specs.Prelude.{All}
use Rattle.std.specs.List.{list_all}
use Rattle.std.proofs.lemmas.List.Elements.{All-nil, All-cons, All-head, All-tail}
use Rattle.teal_value.proofs.Binding.{chosen}
use Rattle.avm_rule_laws.specs.Rules.{AreBytes}
use Rattle.json.specs.Token.{Token, begin_object, end_object, begin_array, end_array, key, string, number, boolean, null, bad}
use Rattle.json.specs.Text.{content, plain}
use Rattle.json.specs.Ascii as ascii
use Rattle.json.specs.Word.{after_number, ends_word, head, number_before, word}
use Rattle.json.specs.Lex.{Class, Lexeme, Mode, Place, after_comma, after_key, after_value, backslash, begins_colon, between, class, colon, comma, fresh, if_allowed, in_escape, in_string, in_word, lex, lex_byte, may_begin, may_close, operator, operator_lexeme, other, place_token, punctuate, quote, space, string_token, token, tokens}
use Rattle.json.specs.Json.{Json}
use Rattle.json_documents.specs.Reading.{is_in_range, value_of_text}
use Rattle.json_laws.specs.OfBytes.{HasStringsOfBytes, ItemsHaveStringsOfBytes, MembersHaveStringsOfBytes}
use Rattle.json_laws.proofs.ContentBytes.{content_are}
use Rattle.json_laws.proofs.ReadTokens.{IsClosed, lone_value_takes}

-- ---- tokens

-- the strings among tokens are of bytes
abbrev IsTokenOfBytes : Token → Type 0
IsTokenOfBytes begin_object = Unit {0}
IsTokenOfBytes end_object = Unit {0}
IsTokenOfBytes begin_array = Unit {0}
IsTokenOfBytes end_array = Unit {0}
IsTokenOfBytes (key s) = Unit {0}
IsTokenOfBytes (string s) = AreBytes s
IsTokenOfBytes (number s) = Unit {0}
IsTokenOfBytes (boolean b) = Unit {0}
IsTokenOfBytes null = Unit {0}
IsTokenOfBytes bad = Unit {0}

-- a lexeme of bytes
abbrev IsLexemeOfBytes : Lexeme → Type 0
IsLexemeOfBytes (token t) = IsTokenOfBytes t
IsLexemeOfBytes comma = Unit {0}
IsLexemeOfBytes colon = Unit {0}

either_token : (b : Bool) (t u : Token) → IsTokenOfBytes t → IsTokenOfBytes u → IsTokenOfBytes (cond b t u)
either_token true t u h k = h
either_token false t u h k = k

either_lexeme : (b : Bool) (t u : Lexeme) → IsLexemeOfBytes t → IsLexemeOfBytes u → IsLexemeOfBytes (cond b t u)
either_lexeme true t u h k = h
either_lexeme false t u h k = k

number_is : (t : List ℕ) (o : Option (List ℕ)) → IsTokenOfBytes (number_before t o)
number_is t None = tt
number_is t (Some rest) = either_token (ends_word rest) (number (take (length t - length rest) t)) bad tt tt

word_is : (t : List ℕ) → IsTokenOfBytes (word t)
unfolding word
word_is t =
    either_token (eqb (head t) ascii.lower_t) _ _ (either_token _ (boolean true) bad tt tt)
    (either_token (eqb (head t) ascii.lower_f) _ _ (either_token _ (boolean false) bad tt tt)
    (either_token (eqb (head t) ascii.lower_n) _ _ (either_token _ null bad tt tt) (number_is t (after_number t))))

operator_is : (x : ℕ) → IsLexemeOfBytes (operator_lexeme x)
operator_is x =
    either_lexeme (eqb x ascii.open_brace) _ _ tt (either_lexeme (eqb x ascii.close_brace) _ _ tt (either_lexeme (eqb x ascii.open_bracket) _ _ tt (either_lexeme (eqb x ascii.close_bracket) _ _ tt (either_lexeme (eqb x ascii.comma) comma colon tt tt))))

string_is : (o : Option (List ℕ)) → ((s : List ℕ) → o ≡ Some s → AreBytes s) → IsTokenOfBytes (string_token o)
string_is None h = tt
string_is (Some s) h = h s refl

byte_lexed : (m : Mode) (c : Class) (x : ℕ) (xs : List ℕ) (k : Mode → List Lexeme) → AreBytes xs → ((n : Mode) → All IsLexemeOfBytes (k n)) → All IsLexemeOfBytes (lex_byte m c x xs k)
byte_lexed between quote x xs k all more = All-cons IsLexemeOfBytes (token (string_token (content plain xs))) (k in_string) (string_is (content plain xs) (content_are plain xs tt all)) (more in_string)
byte_lexed between backslash x xs k all more = All-cons IsLexemeOfBytes (token bad) (k in_word) tt (more in_word)
byte_lexed between operator x xs k all more = All-cons IsLexemeOfBytes (operator_lexeme x) (k between) (operator_is x) (more between)
byte_lexed between space x xs k all more = more between
byte_lexed between other x xs k all more = All-cons IsLexemeOfBytes (token (word (x ∷ xs))) (k in_word) (word_is (x ∷ xs)) (more in_word)
byte_lexed in_word quote x xs k all more = more in_word
byte_lexed in_word backslash x xs k all more = more in_word
byte_lexed in_word operator x xs k all more = All-cons IsLexemeOfBytes (operator_lexeme x) (k between) (operator_is x) (more between)
byte_lexed in_word space x xs k all more = more between
byte_lexed in_word other x xs k all more = more in_word
byte_lexed in_string quote x xs k all more = more between
byte_lexed in_string backslash x xs k all more = more in_escape
byte_lexed in_string operator x xs k all more = more in_string
byte_lexed in_string space x xs k all more = more in_string
byte_lexed in_string other x xs k all more = more in_string
byte_lexed in_escape c x xs k all more = more in_string

lexemes_are : (m : Mode) (xs : List ℕ) → AreBytes xs → All IsLexemeOfBytes (lex m xs)
unfolding lex
lexemes_are m [] all = All-nil IsLexemeOfBytes
lexemes_are m (x ∷ xs) all = let rest = All-tail (λ y. y < 256) x xs all in byte_lexed m (class x) x xs (λ next. lex next xs) rest (λ next. lexemes_are next xs rest)

one_bad : All IsTokenOfBytes (bad ∷ [])
one_bad = All-cons IsTokenOfBytes bad [] tt (All-nil IsTokenOfBytes)

allowed : (b : Bool) (t : Token) (k : Place → List Token) (p : Place) → IsTokenOfBytes t → ((q : Place) → All IsTokenOfBytes (k q)) → All IsTokenOfBytes (if_allowed b t k p)
allowed true t k p h more = All-cons IsTokenOfBytes t (k p) h (more p)
allowed false t k p h more = one_bad

placed : (p : Place) (t : Token) (b : Bool) (k : Place → List Token) → IsTokenOfBytes t → ((q : Place) → All IsTokenOfBytes (k q)) → All IsTokenOfBytes (place_token p t b k)
placed p begin_object b k h more = allowed (may_begin p) begin_object k fresh tt more
placed p end_object b k h more = allowed (may_close p) end_object k after_value tt more
placed p begin_array b k h more = allowed (may_begin p) begin_array k fresh tt more
placed p end_array b k h more = allowed (may_close p) end_array k after_value tt more
placed p (key s) b k h more = one_bad
placed p (string s) true k h more = allowed (may_begin p) (key s) k after_key tt more
placed p (string s) false k h more = allowed (may_begin p) (string s) k after_value h more
placed p (number s) b k h more = allowed (may_begin p) (number s) k after_value tt more
placed p (boolean c) b k h more = allowed (may_begin p) (boolean c) k after_value tt more
placed p null b k h more = allowed (may_begin p) null k after_value tt more
placed p bad b k h more = one_bad

punctuated : (p : Place) (ls : List Lexeme) → All IsLexemeOfBytes ls → All IsTokenOfBytes (punctuate p ls)
unfolding punctuate
punctuated fresh [] all = All-nil IsTokenOfBytes
punctuated after_value [] all = All-nil IsTokenOfBytes
punctuated after_comma [] all = one_bad
punctuated after_key [] all = one_bad
punctuated fresh (token t ∷ ls) all = placed fresh t (begins_colon ls) (λ next. punctuate next ls) (All-head IsLexemeOfBytes (token t) ls all) (λ next. punctuated next ls (All-tail IsLexemeOfBytes (token t) ls all))
punctuated after_value (token t ∷ ls) all = placed after_value t (begins_colon ls) (λ next. punctuate next ls) (All-head IsLexemeOfBytes (token t) ls all) (λ next. punctuated next ls (All-tail IsLexemeOfBytes (token t) ls all))
punctuated after_comma (token t ∷ ls) all = placed after_comma t (begins_colon ls) (λ next. punctuate next ls) (All-head IsLexemeOfBytes (token t) ls all) (λ next. punctuated next ls (All-tail IsLexemeOfBytes (token t) ls all))
punctuated after_key (token t ∷ ls) all = placed after_key t (begins_colon ls) (λ next. punctuate next ls) (All-head IsLexemeOfBytes (token t) ls all) (λ next. punctuated next ls (All-tail IsLexemeOfBytes (token t) ls all))
punctuated fresh (comma ∷ ls) all = one_bad
punctuated after_value (comma ∷ ls) all = punctuated after_comma ls (All-tail IsLexemeOfBytes comma ls all)
punctuated after_comma (comma ∷ ls) all = one_bad
punctuated after_key (comma ∷ ls) all = one_bad
punctuated fresh (colon ∷ ls) all = one_bad
punctuated after_value (colon ∷ ls) all = one_bad
punctuated after_comma (colon ∷ ls) all = one_bad
punctuated after_key (colon ∷ ls) all = punctuated fresh ls (All-tail IsLexemeOfBytes colon ls all)

tokens_are : (text : List ℕ) → AreBytes text → All IsTokenOfBytes (tokens text)
tokens_are text all = punctuated fresh (lex between text) (lexemes_are between text all)

-- ---- values

-- of tokens of bytes, a value with P is read, and tokens of bytes are left
abbrev TakesBytes : {A : Type 0} → (A → Type 0) → A → List Token → List Token → Type 0
TakesBytes P x ts rest = All IsTokenOfBytes ts → P x × All IsTokenOfBytes rest

closed : IsClosed (TakesBytes HasStringsOfBytes) (TakesBytes ItemsHaveStringsOfBytes) (TakesBytes MembersHaveStringsOfBytes)
closed = record {
  is_null = λ ts all. (tt, All-tail IsTokenOfBytes null ts all);
  is_boolean = λ b ts all. (tt, All-tail IsTokenOfBytes (boolean b) ts all);
  is_number = λ s ts all. (tt, All-tail IsTokenOfBytes (number s) ts all);
  is_string = λ s ts all. (All-head IsTokenOfBytes (string s) ts all, All-tail IsTokenOfBytes (string s) ts all);
  is_array = λ js ts rest in_it all. in_it (All-tail IsTokenOfBytes begin_array ts all);
  is_object = λ ms ts rest in_it all. in_it (All-tail IsTokenOfBytes begin_object ts all);
  no_more_items = λ ts all. (tt, All-tail IsTokenOfBytes end_array ts all);
  one_item = λ j js ts left rest first more all. let a = first all in let b = more a.1 in ((a.0, b.0), b.1);
  no_more_members = λ ts all. (tt, All-tail IsTokenOfBytes end_object ts all);
  one_member = λ k j ms ts left rest first more all. let a = first (All-tail IsTokenOfBytes (key k) ts all) in let b = more a.1 in ((a.0, b.0), b.1);
}

-- ---- texts

-- the value of a text of bytes has strings of bytes
pub value_of_bytes : (text : List ℕ) (j : Json) → AreBytes text → value_of_text text ≡ Some j → HasStringsOfBytes j
value_of_bytes text j all e =
    elim (chosen (list_all is_in_range (tokens text)) _ _ _ e) [
      | inl (fits, one) ↦ (lone_value_takes closed (tokens text) j one (tokens_are text all)).0
      | inr (beyond, none) ↦ absurd cc
    ]

-- How many elements arrays have in all, in a value, in its parts, and in the value that a text is.
use Rattle.std.proofs.Common.{◌≡◌, ℕ, suc, ◌+◌, ◌≤◌, Bool, true, false, cond, List, [], ◌∷◌, length, Option, Some, None, refl, sym, ap, subst, arith, inl, inr}
use Rattle.std.specs.List.{list_all}
use Rattle.std.specs.Str.{bytes_eq}
use Rattle.teal_value.proofs.Binding.{chosen}
use Rattle.json.specs.Token.{Token, begin_object, end_object, begin_array, end_array, key, string, number, boolean, null, bad}
use Rattle.json.specs.Lex.{Class, Lexeme, Mode, Place, after_comma, after_key, after_value, backslash, begins_colon, between, class, colon, comma, fresh, if_allowed, in_escape, in_string, in_word, lex, lex_byte, may_begin, may_close, operator, other, place_token, punctuate, quote, space, token, tokens}
use Rattle.json.specs.Find.{as_array, get, get_member, later_or}
use Rattle.json.specs.Json.{Json, Items, Members, Parse, after_end_array, if_last, items, items_step, members, members_step, no_items, no_members, item, member, parse_map, read_key, value, value_with, array, object}
use Rattle.json.specs.Json as json
use Rattle.json_documents.specs.Reading.{is_in_range, value_of_text}
use Rattle.json_laws.proofs.ReadTokens.{IsClosed, lone_value_takes}

-- how many elements the arrays of a value have in all
abbrev mutual
  pub weight : Json → ℕ
  weight json.null = 0
  weight (json.boolean b) = 0
  weight (json.number s) = 0
  weight (json.string s) = 0
  weight (array js) = items_weight js
  weight (object ms) = members_weight ms

  pub items_weight : Items → ℕ
  items_weight no_items = 0
  items_weight (item j js) = 1 + (weight j + items_weight js)

  pub members_weight : Members → ℕ
  members_weight no_members = 0
  members_weight (member k j ms) = weight j + members_weight ms

-- ---- parts

later : (o : Option Json) (b : Bool) (j k : Json) (n : ℕ) → ((i : Json) → o ≡ Some i → weight i ≤ n) → later_or o (cond b (Some j) None) ≡ Some k → weight k ≤ weight j + n
later (Some i) b j k n more e = let same : i ≡ k = cc in subst (λ x. weight x ≤ weight j + n) same (omega (arith, more i refl))
later None true j k n more e = let same : j ≡ k = cc in subst (λ x. weight x ≤ weight j + n) same (omega arith)
later None false j k n more e = absurd cc

member_weight : (name : List ℕ) (ms : Members) (k : Json) → get_member name ms ≡ Some k → weight k ≤ members_weight ms
member_weight name no_members k e = absurd cc
member_weight name (member own j ms) k e = later (get_member name ms) (bytes_eq own name) j k (members_weight ms) (λ i is. member_weight name ms i is) e

-- the arrays in the value of a member have no more elements in all than those of the object
pub got_weight : (name : List ℕ) (j k : Json) → get name j ≡ Some k → weight k ≤ weight j
got_weight name json.null k e = absurd cc
got_weight name (json.boolean b) k e = absurd cc
got_weight name (json.number s) k e = absurd cc
got_weight name (json.string s) k e = absurd cc
got_weight name (array js) k e = absurd cc
got_weight name (object ms) k e = member_weight name ms k e

pub elements_weight : (j : Json) (js : Items) → as_array j ≡ Some js → items_weight js ≡ weight j
elements_weight json.null js e = absurd cc
elements_weight (json.boolean b) js e = absurd cc
elements_weight (json.number s) js e = absurd cc
elements_weight (json.string s) js e = absurd cc
elements_weight (array ks) js e = let same : ks ≡ js = cc in ap items_weight (sym same)
elements_weight (object ms) js e = absurd cc

-- ---- values of tokens

-- each element takes a token at least, and a value one more
abbrev TakesWeight : {A : Type 0} → (A → ℕ) → A → List Token → List Token → Type 0
TakesWeight w x ts rest = suc (w x + length rest) ≤ length ts

closed : IsClosed (TakesWeight weight) (TakesWeight items_weight) (TakesWeight members_weight)
closed = record {
  is_null = λ ts. omega arith;
  is_boolean = λ b ts. omega arith;
  is_number = λ s ts. omega arith;
  is_string = λ s ts. omega arith;
  is_array = λ js ts rest in_it. omega (arith, in_it);
  is_object = λ ms ts rest in_it. omega (arith, in_it);
  no_more_items = λ ts. omega arith;
  one_item = λ j js ts left rest first more. omega (arith, first, more);
  no_more_members = λ ts. omega arith;
  one_member = λ k j ms ts left rest first more. omega (arith, first, more);
}

-- ---- tokens of texts

byte_lexed : (m : Mode) (c : Class) (x : ℕ) (xs : List ℕ) (k : Mode → List Lexeme) (n : ℕ) → ((next : Mode) → length (k next) ≤ n) → length (lex_byte m c x xs k) ≤ suc n
byte_lexed between quote x xs k n more = omega (arith, more in_string)
byte_lexed between backslash x xs k n more = omega (arith, more in_word)
byte_lexed between operator x xs k n more = omega (arith, more between)
byte_lexed between space x xs k n more = omega (arith, more between)
byte_lexed between other x xs k n more = omega (arith, more in_word)
byte_lexed in_word quote x xs k n more = omega (arith, more in_word)
byte_lexed in_word backslash x xs k n more = omega (arith, more in_word)
byte_lexed in_word operator x xs k n more = omega (arith, more between)
byte_lexed in_word space x xs k n more = omega (arith, more between)
byte_lexed in_word other x xs k n more = omega (arith, more in_word)
byte_lexed in_string quote x xs k n more = omega (arith, more between)
byte_lexed in_string backslash x xs k n more = omega (arith, more in_escape)
byte_lexed in_string operator x xs k n more = omega (arith, more in_string)
byte_lexed in_string space x xs k n more = omega (arith, more in_string)
byte_lexed in_string other x xs k n more = omega (arith, more in_string)
byte_lexed in_escape c x xs k n more = omega (arith, more in_string)

lexemes_few : (m : Mode) (xs : List ℕ) → length (lex m xs) ≤ length xs
unfolding lex
lexemes_few m [] = omega arith
lexemes_few m (x ∷ xs) = byte_lexed m (class x) x xs (λ next. lex next xs) (length xs) (λ next. lexemes_few next xs)

allowed : (b : Bool) (t : Token) (k : Place → List Token) (p : Place) (n : ℕ) → ((q : Place) → length (k q) ≤ n) → length (if_allowed b t k p) ≤ suc n
allowed true t k p n more = omega (arith, more p)
allowed false t k p n more = omega arith

placed : (p : Place) (t : Token) (b : Bool) (k : Place → List Token) (n : ℕ) → ((q : Place) → length (k q) ≤ n) → length (place_token p t b k) ≤ suc n
placed p begin_object b k n more = allowed (may_begin p) begin_object k fresh n more
placed p end_object b k n more = allowed (may_close p) end_object k after_value n more
placed p begin_array b k n more = allowed (may_begin p) begin_array k fresh n more
placed p end_array b k n more = allowed (may_close p) end_array k after_value n more
placed p (key s) b k n more = omega arith
placed p (string s) true k n more = allowed (may_begin p) (key s) k after_key n more
placed p (string s) false k n more = allowed (may_begin p) (string s) k after_value n more
placed p (number s) b k n more = allowed (may_begin p) (number s) k after_value n more
placed p (boolean c) b k n more = allowed (may_begin p) (boolean c) k after_value n more
placed p null b k n more = allowed (may_begin p) null k after_value n more
placed p bad b k n more = omega arith

punctuated : (p : Place) (ls : List Lexeme) → length (punctuate p ls) ≤ suc (length ls)
unfolding punctuate
punctuated fresh [] = omega arith
punctuated after_value [] = omega arith
punctuated after_comma [] = omega arith
punctuated after_key [] = omega arith
punctuated fresh (token t ∷ ls) = placed fresh t (begins_colon ls) (λ next. punctuate next ls) (suc (length ls)) (λ next. punctuated next ls)
punctuated after_value (token t ∷ ls) = placed after_value t (begins_colon ls) (λ next. punctuate next ls) (suc (length ls)) (λ next. punctuated next ls)
punctuated after_comma (token t ∷ ls) = placed after_comma t (begins_colon ls) (λ next. punctuate next ls) (suc (length ls)) (λ next. punctuated next ls)
punctuated after_key (token t ∷ ls) = placed after_key t (begins_colon ls) (λ next. punctuate next ls) (suc (length ls)) (λ next. punctuated next ls)
punctuated fresh (comma ∷ ls) = omega arith
punctuated after_value (comma ∷ ls) = omega (arith, punctuated after_comma ls)
punctuated after_comma (comma ∷ ls) = omega arith
punctuated after_key (comma ∷ ls) = omega arith
punctuated fresh (colon ∷ ls) = omega arith
punctuated after_value (colon ∷ ls) = omega arith
punctuated after_comma (colon ∷ ls) = omega arith
punctuated after_key (colon ∷ ls) = omega (arith, punctuated fresh ls)

-- ---- texts

-- a text has at least as many bytes as the arrays in its value have elements
pub text_weight : (text : List ℕ) (j : Json) → value_of_text text ≡ Some j → weight j ≤ length text
text_weight text j e =
    elim (chosen (list_all is_in_range (tokens text)) _ _ _ e) [
      | inl (fits, one) ↦ omega (arith, lone_value_takes closed (tokens text) j one, punctuated fresh (lex between text), lexemes_few between text)
      | inr (beyond, none) ↦ absurd cc
    ]

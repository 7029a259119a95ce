-- A value is read back from the text of its document.
use Rattle.std.proofs.Common.{◌≡◌, ℕ, suc, ◌^◌, ◌<◌, ◌≤◌, true, ◌&&◌, List, [], ◌∷◌, ◌++◌, All, map, Some, None, IsUtf8, refl, sym, ap, ap₂, ◌∙◌, arith, append-nil}
use Rattle.std.specs.Prelude.{codes, decimal, option_and_then, if◌then◌else◌}
use Rattle.std.specs.List.{AllByRecursion, list_all}
use Rattle.std.specs.Str.{is_utf8}
use Rattle.std.proofs.lemmas.Fmt.{IsAscii-decimal}
use Rattle.std.proofs.lemmas.List.Elements.{All-head, All-tail}
use Rattle.std.proofs.lemmas.Str.{IsUtf8-append, IsUtf8-from_ascii, IsUtf8-nil, is_utf8-from_IsUtf8}
use Rattle.json.specs.Token.{Token}
use Rattle.json.specs.Token as token
use Rattle.json.specs.Lex.{tokens}
use Rattle.json.specs.Json.{Json, Members, if_last, member, no_members, object, value}
use Rattle.json.specs.Layout.{Last, gap, depth_at, is_value, nothing, piece, pretty, pretty_from, step}
use Rattle.json.specs.Print.{ArePrintable, IsPrintable, begins, separator, token_text}
use Rattle.json.specs.Tree.{depth, items_depth, items_tokens, json_tokens, members_depth, members_tokens}
use Rattle.json.proofs.Printed.Decimals.{IsNumber-decimal}
use Rattle.json.proofs.Printed.Trees.{value-json_tokens}
use Rattle.json.proofs.Printed.Utf8.{IsUtf8-IsGap, IsUtf8-are_ascii, are_ascii, IsUtf8-key, IsUtf8-quoted, IsUtf8-separator}
use Rattle.json_documents.specs.Reading.{is_in_range, lone_value, most_nested, value_of_text}
use Rattle.json_views.specs.Documents.{Member, array_of, document_text, items_of, members_of, text, uint}
use Rattle.json_laws.proofs.FiniteNumbers.{number_finite}
use Rattle.json_laws.proofs.TokensBack.{is_gap, tokens_back}

-- ---- tokens that are written and read back

-- a token that is read back from its text, which is UTF-8
record IsPlain (t : Token) : Type 0 where
  printable : IsPrintable t
  ranged : is_in_range t ≡ true
  utf8 : IsUtf8 (token_text t)

-- tokens of which each is so
abbrev ArePlain : List Token → Type 0
ArePlain ts = AllByRecursion IsPlain ts

plain_both : (ts us : List Token) → ArePlain ts → ArePlain us → ArePlain (ts ++ us)
plain_both [] us h k = k
plain_both (t ∷ ts) us h k = (h.0, plain_both ts us h.1 k)

printable_all : (ts : List Token) → ArePlain ts → ArePrintable ts
unfolding ArePrintable
printable_all [] h = tt
printable_all (t ∷ ts) h = (h.0.printable, printable_all ts h.1)

ranged_all : (ts : List Token) → ArePlain ts → list_all is_in_range ts ≡ true
ranged_all [] h = refl
ranged_all (t ∷ ts) h = ap₂ (λ a b. a && b) h.0.ranged (ranged_all ts h.1)

utf8_all : (s : Last × ℕ) (ts : List Token) → ArePlain ts → IsUtf8 (pretty_from s ts)
unfolding pretty_from
utf8_all s [] h = IsUtf8-nil
utf8_all s (t ∷ ts) h =
    let g = gap s.0 (begins t) (depth_at s.1 t) in
    IsUtf8-append (piece s t) (pretty_from (step s t) ts)
    (IsUtf8-append (separator (is_value s.0) t) (g ++ token_text t) (IsUtf8-separator (is_value s.0) t) (IsUtf8-append g (token_text t) (IsUtf8-IsGap g (is_gap s.0 (begins t) (depth_at s.1 t))) h.0.utf8))
    (utf8_all (step s t) ts h.1)

-- ---- values of plain tokens, that nest no deeper than d

-- a value with a text that is read back
pub record IsShown (d : ℕ) (j : Json) : Type 0 where
  plain : ArePlain (json_tokens j)
  shallow : depth j ≤ d

-- the text is UTF-8, and is the text of this value
pub record IsTextOf (s : List ℕ) (j : Json) : Type 0 where
  pub utf8 : is_utf8 s ≡ true
  pub value : value_of_text s ≡ Some j

-- a value of plain tokens, nested no deeper than may be, is read back from its text
pub text_back : (j : Json) → IsShown most_nested j → IsTextOf (document_text j) j
text_back j h =
    let ts = json_tokens j in
    let read : tokens (document_text j) ≡ ts = tokens_back ts (printable_all ts h.plain) in
    let found : value 127 ts ≡ Some (j, []) = ap (value 127) (sym (append-nil ts)) ∙ value-json_tokens j 127 [] h.shallow in
    record {
      utf8 = is_utf8-from_IsUtf8 (document_text j) (IsUtf8-append (pretty ts) (codes "\n") (utf8_all (nothing, 0) ts h.plain) (IsUtf8-are_ascii (codes "\n") refl));
      value =
          ap (λ us. if list_all is_in_range us then lone_value us else None) read
          ∙ ap (λ b. if b then lone_value ts else None) (ranged_all ts h.plain)
          ∙ ap (option_and_then (λ p. if_last p.0 p.1)) found;
    }

-- ---- what is shown

-- what is nested no deeper than d is nested no deeper than any larger number
pub deeper : (d e : ℕ) (j : Json) → d ≤ e → IsShown d j → IsShown e j
deeper d e j le h = record { plain = h.plain; shallow = omega (arith, h.shallow) }

bracket_plain : (t : Token) → IsPrintable t → is_in_range t ≡ true → are_ascii (token_text t) ≡ true → IsPlain t
bracket_plain t printable ranged small = record { printable = printable; ranged = ranged; utf8 = IsUtf8-are_ascii (token_text t) small }

-- a string in UTF-8 has a text that is read back
pub text_shown : (d : ℕ) (s : List ℕ) → IsUtf8 s → IsShown d (text s)
text_shown d s u = record { plain = (record { printable = tt; ranged = refl; utf8 = IsUtf8-quoted s u }, tt); shallow = omega arith }

pub uint_shown : (d n : ℕ) → n < 2 ^ 64 → IsShown d (uint n)
uint_shown d n small = record {
  plain = (record { printable = IsNumber-decimal n small; ranged = number_finite n small; utf8 = IsUtf8-from_ascii (decimal n) (IsAscii-decimal n small) }, tt);
  shallow = omega arith;
}

-- a fact, and others
pub beside : {A B : Type 0} → A → B → A × B
beside a b = (a, b)

-- each name is ASCII, and each value is shown
abbrev MembersShown : ℕ → Members → Type 0
MembersShown d no_members = Unit {0}
MembersShown d (member name j ms) = ((are_ascii name ≡ true) × IsShown d j) × MembersShown d ms

-- members of which each has a text
abbrev pub AreShown : ℕ → List Member → Type 0
AreShown d ms = MembersShown d (members_of ms)

members_plain : (d : ℕ) (ms : Members) → MembersShown d ms → ArePlain (members_tokens ms) × (members_depth ms ≤ d)
members_plain d no_members h = ((bracket_plain token.end_object tt refl refl, tt), omega arith)
members_plain d (member name j ms) h =
    let more = members_plain d ms h.1 in
    let first = h.0.1 in (
      (record { printable = tt; ranged = refl; utf8 = IsUtf8-key name (IsUtf8-are_ascii name h.0.0) }, plain_both (json_tokens j) (members_tokens ms) first.plain more.0),
      omega (arith, first.shallow, more.1),
    )

-- an object is nested at most one deeper than its members
pub object_shown : (d : ℕ) (ms : Members) → MembersShown d ms → IsShown (suc d) (object ms)
object_shown d ms h =
    let inner = members_plain d ms h in
    record { plain = (bracket_plain token.begin_object tt refl refl, inner.0); shallow = omega (arith, inner.1) }

items_plain : {A : Type 0} (d : ℕ) (shown : A → Json) (xs : List A) → All (λ x. IsShown d (shown x)) xs
    → ArePlain (items_tokens (items_of (map shown xs))) × (items_depth (items_of (map shown xs)) ≤ d)
items_plain d shown [] h = ((bracket_plain token.end_array tt refl refl, tt), omega arith)
items_plain d shown (x ∷ xs) h =
    let first = All-head (λ y. IsShown d (shown y)) x xs h in
    let more = items_plain d shown xs (All-tail (λ y. IsShown d (shown y)) x xs h) in
    (plain_both (json_tokens (shown x)) (items_tokens (items_of (map shown xs))) first.plain more.0, omega (arith, first.shallow, more.1))

-- an array is nested at most one deeper than its elements
pub array_shown : {A : Type 0} (d : ℕ) (shown : A → Json) (xs : List A) → All (λ x. IsShown d (shown x)) xs → IsShown (suc d) (array_of shown xs)
array_shown d shown xs h =
    let inner = items_plain d shown xs h in
    record { plain = (bracket_plain token.begin_array tt refl refl, inner.0); shallow = omega (arith, inner.1) }

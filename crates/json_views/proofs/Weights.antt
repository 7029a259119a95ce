-- The text of tokens is no shorter than they weigh.
use Rattle.std.proofs.Common.{◌≡◌, ℕ, ◌+◌, ◌≤◌, Bool, true, false, cond, List, [], ◌∷◌, ◌++◌, length, length-append, arith}
use Rattle.std.specs.Prelude.{nat_lt, ◌/◌, ◌%◌}
use Rattle.std.specs.Char.{digit_char}
use Rattle.json.specs.Json.{Json}
use Rattle.json.specs.Token.{Token, begin_object, end_object, begin_array, end_array, key, string, number, boolean, null, bad}
use Rattle.json.specs.Tree.{json_tokens}
use Rattle.json.specs.Print.{begins, escape, escape_byte, escape_letter, quoted, separator, token_text}
use Rattle.json.specs.Layout.{Last, depth_at, gap, is_value, piece, pretty, pretty_from, step}
use Rattle.json_views.specs.Documents.{document_text}
use Rattle.json_views.specs.Weights.{token_weight, tokens_weight}

pub weight-append : (ts us : List Token) → tokens_weight (ts ++ us) ≡ tokens_weight ts + tokens_weight us
weight-append [] us = omega arith
weight-append (t ∷ ts) us = omega (arith, weight-append ts us)

-- an escaped byte takes no less than one
some_bytes : (b : ℕ) → 1 ≤ length (escape_byte b)
unfolding escape_byte
some_bytes b =
    by (nat_lt 0 (escape_letter b)) (nat_lt b 32) (92 ∷ escape_letter b ∷ []) (92 ∷ 117 ∷ 48 ∷ 48 ∷ digit_char (b / 16) ∷ digit_char (b % 16) ∷ []) (omega arith) (omega arith)
  where
    by : (short low : Bool) (x y : List ℕ) → 1 ≤ length x → 1 ≤ length y → 1 ≤ length (cond short x (cond low y (b ∷ [])))
    by true low x y px py = px
    by false true x y px py = py
    by false false x y px py = omega arith

escape_longer : (s : List ℕ) → length s ≤ length (escape s)
escape_longer [] = omega arith
escape_longer (b ∷ bs) = omega (arith, escape_longer bs, some_bytes b, length-append (escape_byte b) (escape bs))

token_fits : (t : Token) → token_weight t ≤ length (token_text t)
token_fits begin_object = omega arith
token_fits end_object = omega arith
token_fits begin_array = omega arith
token_fits end_array = omega arith
token_fits (key s) = omega (arith, escape_longer s, length-append (escape s) (34 ∷ []), length-append (quoted s) (58 ∷ []))
token_fits (string s) = omega (arith, escape_longer s, length-append (escape s) (34 ∷ []))
token_fits (number s) = omega arith
token_fits (boolean true) = omega arith
token_fits (boolean false) = omega arith
token_fits null = omega arith
token_fits bad = omega arith

-- ---- the text

piece_fits : (s : Last × ℕ) (t : Token) → token_weight t ≤ length (piece s t)
piece_fits s t =
    let comma = separator (is_value s.0) t in
    let space = gap s.0 (begins t) (depth_at s.1 t) in
    omega (arith, token_fits t, length-append comma (space ++ token_text t), length-append space (token_text t))

pretty_fits : (s : Last × ℕ) (ts : List Token) → tokens_weight ts ≤ length (pretty_from s ts)
unfolding pretty_from
pretty_fits s [] = omega arith
pretty_fits s (t ∷ ts) = omega (arith, piece_fits s t, pretty_fits (step s t) ts, length-append (piece s t) (pretty_from (step s t) ts))

-- the text of a document is no shorter than its tokens weigh
pub text_fits : (document : Json) → tokens_weight (json_tokens document) ≤ length (document_text document)
text_fits document = omega (arith, pretty_fits (Last.nothing, 0) (json_tokens document), length-append (pretty (json_tokens document)) (10 ∷ []))

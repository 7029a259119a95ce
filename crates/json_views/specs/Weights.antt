-- How many bytes the text of tokens surely has, without its spaces, line feeds, commas and escapes.
use Rattle.std.specs.Prelude.{ℕ, ◌+◌, ◌<◌, List, [], ◌∷◌, ◌++◌, length}
use Rattle.json.specs.Json.{Json}
use Rattle.json.specs.Token.{Token, begin_object, end_object, begin_array, end_array, key, string, number, boolean, null, bad}
use Rattle.json.specs.Tree.{json_tokens}

abbrev pub token_weight : Token → ℕ
token_weight begin_object = 1
token_weight end_object = 1
token_weight begin_array = 1
token_weight end_array = 1
token_weight (key s) = length s + 3
token_weight (string s) = length s + 2
token_weight (number s) = length s
token_weight (boolean b) = 4
token_weight null = 4
token_weight bad = 0

abbrev pub tokens_weight : List Token → ℕ
tokens_weight [] = 0
tokens_weight (t ∷ ts) = token_weight t + tokens_weight ts

-- how many bytes the text of a trace or a run may have
abbrev pub most_text : ℕ
most_text = 67108864

-- Behind these tokens the text is too long, whichever document of this kind is written.
abbrev pub IsTooLongBehind : List Token → (Json → Type 0) → Type 0
IsTooLongBehind old Is = (document : Json) → Is document → most_text < tokens_weight (old ++ json_tokens document)

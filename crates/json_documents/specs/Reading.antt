-- Documents read from text.
use Rattle.std.specs.Prelude.{ℕ, Bool, true, false, if◌then◌else◌, List, Option, Some, None, option_and_then, Result, Err}
use Rattle.std.specs.List.{list_all}
use Rattle.std.specs.Float.{Float, binary64, float_is_finite}
use Rattle.std.specs.Float.Parse.{parse_float}
use Rattle.json.specs.Token.{Token}
use Rattle.json.specs.Token as token
use Rattle.json.specs.Lex.{tokens}
use Rattle.json.specs.Json.{Json, if_last, value}
use Rattle.json_documents.specs.declared.document_fault.DocumentFault.TheVariants.{Syntax}
use Rattle.json_documents.specs.Faults.{Fault, here}
use Rattle.json_documents.specs.Documents.{Document, document}

abbrev pub is_finite : Option Float → Bool
is_finite None = false
is_finite (Some x) = float_is_finite x

-- a number is within the range of doubles
abbrev pub is_in_range : Token → Bool
is_in_range token.begin_object = true
is_in_range token.end_object = true
is_in_range token.begin_array = true
is_in_range token.end_array = true
is_in_range (token.key s) = true
is_in_range (token.string s) = true
is_in_range (token.number s) = is_finite (parse_float binary64 s)
is_in_range (token.boolean b) = true
is_in_range token.null = true
is_in_range token.bad = true

-- how deep arrays and objects nest at most
abbrev pub most_nested : ℕ
most_nested = 127

-- one value and nothing behind it
abbrev pub lone_value : List Token → Option Json
lone_value ts = option_and_then (λ p. if_last p.0 p.1) (value most_nested ts)

-- the value that a text is; none where it is no JSON, nests too deep or has a number beyond the range of doubles
abbrev pub value_of_text : List ℕ → Option Json
value_of_text text = if list_all is_in_range (tokens text) then lone_value (tokens text) else None

abbrev pub on_value : Option Json → Result Document Fault
on_value None = Err (here Syntax)
on_value (Some j) = document j

-- the document that a text is
abbrev pub document_of_text : List ℕ → Result Document Fault
document_of_text text = on_value (value_of_text text)

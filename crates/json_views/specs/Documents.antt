-- JSON documents: objects of named members, arrays, and plain values.
use Rattle.std.specs.Prelude.{ℕ, List, [], ◌∷◌, ◌++◌, codes, decimal, map}
use Rattle.std.specs.List.{flat_map}
use Rattle.base64.specs.Engines.{standard}
use Rattle.base64.specs.GeneralPurpose.{encode_of}
use Rattle.hex.specs.Hex.{encode_lower}
use Rattle.json.specs.Token.{Token, key}
use Rattle.json.specs.Json.{Json, array, number, object, string, Items, no_items, item, Members, no_members, member}
use Rattle.json.specs.Tree.{json_tokens}
use Rattle.json.specs.Layout.{pretty}
use Rattle.teal_value.specs.declared.address.Address.{Address}
use Rattle.teal_value.specs.AddressText.{address_text}

-- ---- plain values

abbrev pub uint : ℕ → Json
uint n = number (decimal n)

abbrev pub text : List ℕ → Json
text s = string s

-- bytes in base64, by RFC 4648's standard alphabet, padded
abbrev pub base64 : List ℕ → Json
base64 bytes = string (encode_of standard bytes)

-- bytes in lower-case hexadecimal digits
abbrev pub digits : List ℕ → Json
digits bytes = string (encode_lower bytes)

abbrev pub address : Address → Json
address who = string (address_text who)

-- ---- objects and arrays

-- a name and its value
abbrev pub Member : Type 0
Member = List ℕ × Json

abbrev pub members_of : List Member → Members
members_of [] = no_members
members_of (m ∷ ms) = member m.0 m.1 (members_of ms)

abbrev pub object_of : List Member → Json
object_of ms = object (members_of ms)

abbrev pub items_of : List Json → Items
items_of [] = no_items
items_of (j ∷ js) = item j (items_of js)

-- the array of what each of the values is shown as
abbrev pub array_of : {A : Type 0} → (A → Json) → List A → Json
array_of shown xs = array (items_of (map shown xs))

-- the tokens of members, without the brackets of their object
abbrev pub member_tokens : List Member → List Token
member_tokens ms = flat_map (λ m. key m.0 ∷ json_tokens m.1) ms

-- ---- the text of a document

-- two spaces for each level, one member or item a line, and a line feed at the end
abbrev pub document_text : Json → List ℕ
document_text document = pretty (json_tokens document) ++ codes "\n"

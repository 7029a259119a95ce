-- The tokens of accounts, of which one may be current: its bracket and that of its items are not closed yet.
use Rattle.std.specs.Prelude.{ℕ, List, [], ◌∷◌, Option, Some, None, codes, if◌then◌else◌}
use Rattle.json.specs.Token.{Token, begin_array, begin_object, end_array, end_object, key, string}
use Rattle.teal_value.specs.declared.address.Address.{Address}
use Rattle.teal_value.specs.AddressText.{address_text}
use Rattle.teal_value.specs.SameValues.{are_same_bytes}

-- an account up to its items, which are the member of this name
abbrev pub opening_tokens : List ℕ → Address → List Token
opening_tokens name who = begin_object ∷ key (codes "address") ∷ string (address_text who) ∷ key name ∷ begin_array ∷ []

abbrev pub closing_tokens : Option Address → List Token
closing_tokens None = []
closing_tokens (Some _) = end_array ∷ end_object ∷ []

-- from the current account, if there is one, to this one
abbrev pub turning_tokens : List ℕ → Option Address → Address → List Token
turning_tokens name None who = opening_tokens name who
turning_tokens name (Some before) who = if are_same_bytes before.0 who.0 then [] else end_array ∷ end_object ∷ opening_tokens name who

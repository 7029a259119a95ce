-- Values as tokens.
use Rattle.std.specs.Prelude.{List}
use Rattle.std.specs.List.{flat_map}
use Rattle.json.specs.Token.{Token}
use Rattle.json.specs.Tree.{json_tokens}
use Rattle.teal_value.specs.declared.value.Value.{Value}
use Rattle.json_views.specs.States.{shown_value}

-- the tokens of values, without the brackets of their array
abbrev pub value_tokens : List Value → List Token
value_tokens values = flat_map (λ v. json_tokens (shown_value v)) values

-- States as JSON: their entries by rising key, each value with all of its members.
use Rattle.std.specs.Prelude.{ℕ, List, [], ◌∷◌, codes}
use Rattle.json.specs.Json.{Json}
use Rattle.teal_value.specs.declared.value.Value.{Value}
use Rattle.teal_value.specs.declared.value.Value.TheVariants.{Uint, Bytes}
use Rattle.avm_states.specs.Entries.{Entries}
use Rattle.json_views.specs.Documents.{array_of, base64, object_of, text, uint}

-- type 1 is a byte string, type 2 a uint
abbrev pub value_of_type : ℕ → Json → ℕ → Json
value_of_type kind bytes n = object_of ((codes "bytes", bytes) ∷ (codes "type", uint kind) ∷ (codes "uint", uint n) ∷ [])

abbrev pub shown_value : Value → Json
shown_value (Uint n) = value_of_type 2 (text []) n
shown_value (Bytes s) = value_of_type 1 (base64 s) 0

abbrev pub shown_entry : List ℕ × Value → Json
shown_entry e = object_of ((codes "key", base64 e.0) ∷ (codes "value", shown_value e.1) ∷ [])

abbrev pub shown_state : Entries → Json
shown_state state = array_of shown_entry state

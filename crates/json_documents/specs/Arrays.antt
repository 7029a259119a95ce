-- The elements of an array, one after another.
use Rattle.std.specs.Prelude.{ℕ, ◌+◌, List, Option, option_and_then, Result, Ok}
use Rattle.teal_value.specs.Answer.{◌>>=◌}
use Rattle.json.specs.Json.{Json, Items, no_items, item}
use Rattle.json.specs.Find.{as_array}
use Rattle.json_documents.specs.declared.document_fault.DocumentFault.TheVariants.{NotArray}
use Rattle.json_documents.specs.Steps.{at_index}
use Rattle.json_documents.specs.Faults.{Fault, in_step, or_else_fault}
use Rattle.json_documents.specs.Members.{member}

-- each element in turn is added to what was gathered before it, from an index on
unfoldable pub gathered : {A : Type 0} → (A → Json → Result A Fault) → ℕ → A → Items → Result A Fault
gathered one i so_far no_items = Ok so_far
gathered one i so_far (item j js) = in_step (at_index i) (one so_far j) >>= λ next. gathered one (i + 1) next js

abbrev pub elements : Json → Result Items Fault
elements j = or_else_fault (as_array j) NotArray

-- each element of an array
abbrev pub each : {A : Type 0} → (A → Json → Result A Fault) → A → Json → Result A Fault
each one start j = elements j >>= λ js. gathered one 0 start js

-- the elements of the array that is the member of a name
abbrev pub items_in : List ℕ → Json → Option Items
items_in name j = option_and_then as_array (member name j)

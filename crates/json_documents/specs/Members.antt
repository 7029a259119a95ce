-- The members of an object.
use Rattle.std.specs.Prelude.{ℕ, Bool, if◌then◌else◌, List, Option, Some, None, Result, Ok, Err}
use Rattle.std.specs.List.{list_any}
use Rattle.std.specs.Str.{bytes_eq}
use Rattle.std.specs.Ordering.{nat_cmp, is_lt}
use Rattle.std.specs.Cmp.Lexicographic.{slice_cmp}
use Rattle.json.specs.Json.{Json, Members, no_members, member as member_of}
use Rattle.json.specs.Find.{get, is_null, as_object}
use Rattle.json_documents.specs.declared.document_fault.DocumentFault.TheVariants.{Missing, NotObject, Unknown}
use Rattle.json_documents.specs.Steps.{at_name}
use Rattle.json_documents.specs.Faults.{Fault, here, in_step}

abbrev pub unless_null : Option Json → Option Json
unless_null None = None
unless_null (Some j) = if is_null j then None else Some j

-- the last member of the name; `null` counts as none
abbrev pub member : List ℕ → Json → Option Json
member name j = unless_null (get name j)

-- what the member of a name is read as, where it is there
abbrev pub needed_in : {A : Type 0} → List ℕ → (Json → Result A Fault) → Option Json → Result A Fault
needed_in name meaning None = in_step (at_name name) (Err (here Missing))
needed_in name meaning (Some j) = in_step (at_name name) (meaning j)

abbrev pub optional_in : {A : Type 0} → List ℕ → (Json → Result A Fault) → A → Option Json → Result A Fault
optional_in name meaning default None = Ok default
optional_in name meaning default (Some j) = in_step (at_name name) (meaning j)

-- a member that has to be there
abbrev pub required : {A : Type 0} → List ℕ → (Json → Result A Fault) → Json → Result A Fault
required name meaning j = needed_in name meaning (member name j)

-- a member, or the default where it is missing
abbrev pub optional : {A : Type 0} → List ℕ → (Json → Result A Fault) → A → Json → Result A Fault
optional name meaning default j = optional_in name meaning default (member name j)

-- ---- the names of a table

abbrev pub is_among : List (List ℕ) → List ℕ → Bool
is_among names name = list_any (bytes_eq name) names

abbrev pub is_below : List ℕ → List ℕ → Bool
is_below a b = is_lt (slice_cmp nat_cmp a b)

-- the lesser of a name and one that may be there
abbrev pub lesser : List ℕ → Option (List ℕ) → Option (List ℕ)
lesser name None = Some name
lesser name (Some other) = if is_below name other then Some name else Some other

-- the least name, by its bytes, that is not among these
unfoldable pub least_unknown : List (List ℕ) → Members → Option (List ℕ)
least_unknown names no_members = None
least_unknown names (member_of name j ms) = if is_among names name then least_unknown names ms else lesser name (least_unknown names ms)

abbrev pub unless_unknown : Option (List ℕ) → Result (Unit {0}) Fault
unless_unknown None = Ok tt
unless_unknown (Some name) = Err (here (Unknown name))

abbrev pub known_in : List (List ℕ) → Option Members → Result (Unit {0}) Fault
known_in names None = Err (here NotObject)
known_in names (Some ms) = unless_unknown (least_unknown names ms)

-- an object whose names are among these
abbrev pub reject_unknown : List (List ℕ) → Json → Result (Unit {0}) Fault
reject_unknown names j = known_in names (as_object j)

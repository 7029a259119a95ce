-- What stands for the application of a creation. `goal` lists the application that a creation is going to make in its dry-run requests,
-- under an id of its own (`defaultAppIdx` of go-algorand's libgoal). It is passed over, for no creation takes that id.
use Rattle.std.specs.Prelude.{ℕ, Bool, true, false, not, ◌==◌, ◌&&◌, ◌||◌, if◌then◌else◌, List, codes, is_none, Result, Ok}
use Rattle.std.specs.Option.{option_map_or}
use Rattle.std.specs.Str.{bytes_eq}
use Rattle.json.specs.Json.{Json, Items, no_items, item}
use Rattle.json.specs.Find.{as_str}
use Rattle.json_documents.specs.Arrays.{items_in}
use Rattle.json_documents.specs.Faults.{Fault}
use Rattle.json_documents.specs.Members.{member}
use Rattle.json_documents.specs.Plain.{uint_of}

abbrev pub placeholder : ℕ
placeholder = 1380011588

-- ---- values as they stand, of which nothing is refused

abbrev pub is_uint : ℕ → Json → Bool
is_uint n j = option_map_or (λ m. m == n) (uint_of j) false

abbrev pub is_text : List ℕ → Json → Bool
is_text s j = option_map_or (λ t. bytes_eq t s) (as_str j) false

-- the member of a name is there, and holds this
abbrev pub has : List ℕ → (Json → Bool) → Json → Bool
has name test j = option_map_or test (member name j) false

abbrev pub any_item : (Json → Bool) → Items → Bool
any_item test no_items = false
any_item test (item j js) = test j || any_item test js

-- ---- whether a document has placeholders

-- a call that makes an application
abbrev pub is_creation : Json → Bool
is_creation txn = has (codes "type") (is_text (codes "appl")) txn && option_map_or (is_uint 0) (member (codes "apid") txn) true

-- a transaction that names the id, which is that of an application as any other then
abbrev pub names_placeholder : Json → Bool
names_placeholder txn =
    has (codes "apid") (is_uint placeholder) txn || option_map_or (any_item (is_uint placeholder)) (items_in (codes "apfa") txn) false

-- transactions of which one is a creation, and none names the id
abbrev pub await_application : Items → Bool
await_application txns = any_item (has (codes "txn") is_creation) txns && not (any_item (has (codes "txn") names_placeholder) txns)

-- A document that gives the next id says which ids there are, and so has none.
abbrev pub has_placeholders : Json → Bool
has_placeholders j = is_none (member (codes "next-id") j) && option_map_or await_application (items_in (codes "txns") j) false

-- ---- what is passed over, in a document that has placeholders or not

-- an application, or a local state
abbrev pub is_placeholder : Bool → Json → Bool
is_placeholder there j = there && has (codes "id") (is_uint placeholder) j

abbrev pub is_program_of_application : Json → Bool
is_program_of_application j = is_text (codes "approv") j || is_text (codes "clearp") j

-- a source for such an application
abbrev pub is_source_of_placeholder : Bool → Json → Bool
is_source_of_placeholder there j =
    there && (has (codes "app-index") (is_uint placeholder) j && has (codes "field-name") is_program_of_application j)

-- a placeholder leaves what was gathered as it is
abbrev pub unless_placeholder : {A : Type 0} → Bool → (A → Json → Result A Fault) → A → Json → Result A Fault
unless_placeholder there one so_far j = if is_placeholder there j then Ok so_far else one so_far j

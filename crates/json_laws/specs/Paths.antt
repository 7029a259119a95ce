-- Where the path of a refused document leads, and what is wrong with the value there. The statements of the laws.
use Rattle.std.specs.Prelude.{◌≡◌, ◌≢◌, ◌⊎◌, ℕ, zero, suc, ◌<◌, ◌==◌, ◌&&◌, ◌||◌, nat_le, Bool, true, false, if◌then◌else◌, List, [], ◌∷◌, ◌++◌, length, codes, decimal, Option, Some, None, option_and_then, is_some, Result, Ok, Err}
use Rattle.std.specs.Str.{bytes_eq}
use Rattle.std.specs.List.{flat_map, list_all}
use Rattle.std.specs.Result.{result_ok}
use Rattle.base64.specs.Engines.{standard}
use Rattle.base64.specs.GeneralPurpose.{decode_of}
use Rattle.teal_value.specs.Answer.{◌>>=◌}
use Rattle.teal_value.specs.AddressText.{address_of}
use Rattle.teal_value.specs.Keys.{most_key_bytes}
use Rattle.teal_value.specs.declared.address_encoding.AddressFault.TheVariants as address_fault
use Rattle.teal_value.specs.declared.address.Address.{Address}
use Rattle.teal_check.specs.declared.fault.CheckFault.{CheckFault}
use Rattle.teal_check.specs.WellFormed.{checked}
use Rattle.teal_asm.specs.Program.{assembled}
use Rattle.avm_states.specs.declared.schema.Schema.{Schema}
use Rattle.avm_states.specs.Entries.{most_value_bytes}
use Rattle.avm_states.specs.Schemas.{most_global_entries, most_local_entries, no_entries}
use Rattle.avm_ledger.specs.LedgerReader.{Room, local_room, room_of_schema}
use Rattle.avm_ledger.specs.Ledgers.{Ledger, application_at}
use Rattle.avm_items.specs.declared.call_data.CallData.{CallData}
use Rattle.avm_block.specs.Blocks.{most_calls}
use Rattle.json.specs.Json.{Json, array, object, Items, no_items, item}
use Rattle.json.specs.Find.{as_array, as_bool, as_number, as_object, as_str, at, get_item, get_member}
use Rattle.json_documents.specs.declared.document_fault.DocumentFault.{DocumentFault}
use Rattle.json_documents.specs.declared.document_fault.DocumentFault.TheVariants as what
use Rattle.json_documents.specs.Steps.{Step, at_name, at_index, path_text, step_text}
use Rattle.json_documents.specs.Faults.{Fault, here}
use Rattle.json_documents.specs.Members.{reject_unknown, member, required, optional}
use Rattle.json_documents.specs.Arrays.{gathered}
use Rattle.json_documents.specs.Plain.{address, bytes, decimal_of, uint}
use Rattle.json_documents.specs.Accounts.{account, local}
use Rattle.json_documents.specs.Applications.{application}
use Rattle.json_documents.specs.Ids.{end_of_ids, id_below, next_id}
use Rattle.json_documents.specs.Schemas.{schema}
use Rattle.json_documents.specs.Sources.{Place, Sources, field_named, index_of, is_there, source_field}
use Rattle.json_documents.specs.States.{state, value as read_value}
use Rattle.json_documents.specs.Transactions.{transaction, transactions}
use Rattle.json_documents.specs.Documents.{all_sources, applications, bare_ledger, document, ledger}
use Rattle.json_documents.specs.Placeholders.{has_placeholders, unless_placeholder}
use Rattle.json_documents.specs.Tables.{account_names, application_names, document_names, key_value_names, local_names, params_names, signed_names, source_names, transaction_names, value_names}
use Rattle.json_documents.specs.Reading.{document_of_text, value_of_text}

-- ---- where a path leads

-- the last member of a name, unless it is `null`, or the element at an index
abbrev pub behind : Step → Json → Option Json
behind (at_name name) j = member name j
behind (at_index i) j = at i j

-- the value to which steps lead, of which the last comes first
abbrev pub value_at : List Step → Json → Option Json
value_at [] j = Some j
value_at (s ∷ ss) j = option_and_then (behind s) (value_at ss j)

abbrev pub IsObject : Json → Type 0
IsObject v = is_some (as_object v) ≡ true

-- an object that has no member, or `null`, where a step names one
abbrev pub Lacks : Step → Json → Type 0
Lacks (at_name name) v = IsObject v × (member name v ≡ None)
Lacks (at_index i) v = ⊥

-- the last step names a member that is missing in the object to which the others lead
abbrev pub NamesMissing : List Step → Json → Type 0
NamesMissing [] j = ⊥
NamesMissing (s ∷ ss) j = (v : Json) × (value_at ss j ≡ Some v) × Lacks s v

-- there is a value where the path leads, unless the fault is that none is there
abbrev pub LeadsFor : DocumentFault → List Step → Json → Type 0
LeadsFor what.Missing path j = NamesMissing path j
LeadsFor w path j = is_some (value_at path j) ≡ true

abbrev pub Leads : Json → Fault → Type 0
Leads j f = LeadsFor f.what f.path j

-- the path of a refused document leads to a value in it, or to a member that is missing there
abbrev pub PathsLead : Type 0
PathsLead = (j : Json) (f : Fault) → document j ≡ Err f → Leads j f

-- a text that is no JSON is refused without a step, any other as its value is
abbrev pub LeadsIn : Option Json → Fault → Type 0
LeadsIn None f = f ≡ here what.Syntax
LeadsIn (Some j) f = Leads j f

abbrev pub PathsOfTextsLead : Type 0
PathsOfTextsLead = (text : List ℕ) (f : Fault) → document_of_text text ≡ Err f → LeadsIn (value_of_text text) f

-- ---- a value by itself

-- a text of which this holds
abbrev pub IsText : Json → (List ℕ → Type 0) → Type 0
IsText v P = (s : List ℕ) × (as_str v ≡ Some s) × P s

-- a text that writes such bytes
abbrev pub IsBase64 : Json → (List ℕ → Type 0) → Type 0
IsBase64 v P = (s : List ℕ) × (bytes v ≡ Ok s) × P s

-- such a number
abbrev pub IsUint : Json → (ℕ → Type 0) → Type 0
IsUint v P = (n : ℕ) × (uint v ≡ Ok n) × P n

-- the last step names this member
abbrev pub Ends : List ℕ → List Step → Type 0
Ends name path = (above : List Step) × (path ≡ at_name name ∷ above)

-- the last step leads to an element of the array that is this member
abbrev pub EndsIn : List ℕ → List Step → Type 0
EndsIn name path = (i : ℕ) × (above : List Step) × (path ≡ at_index i ∷ (at_name name ∷ above))

-- the names that are known in the object that is a member of this name, or in those that are the elements of such an array
abbrev pub table_of : List ℕ → List (List ℕ)
table_of name =
    if bytes_eq name (codes "apps") then application_names
    else if bytes_eq name (codes "params") then params_names
    else if bytes_eq name (codes "global-state-schema") || bytes_eq name (codes "local-state-schema") then codes "num-byte-slice" ∷ codes "num-uint" ∷ []
    else if bytes_eq name (codes "global-state") || bytes_eq name (codes "key-value") then key_value_names
    else if bytes_eq name (codes "value") then value_names
    else if bytes_eq name (codes "accounts") then account_names
    else if bytes_eq name (codes "apps-local-state") then local_names
    else if bytes_eq name (codes "txns") then signed_names
    else if bytes_eq name (codes "txn") then transaction_names
    else if bytes_eq name (codes "apgs") || bytes_eq name (codes "apls") then codes "nbs" ∷ codes "nui" ∷ []
    else source_names

-- the names that are known in the object to which these steps lead
abbrev pub table : List Step → List (List ℕ)
table [] = document_names
table (at_name name ∷ above) = table_of name
table (at_index i ∷ above) = table above

-- ---- what the document says beside the value

-- the next id, where it is given
abbrev pub next_id_of : Json → Result (Option ℕ) Fault
next_id_of j = optional (codes "next-id") next_id None j

-- the programs of all sources
abbrev pub sources_of : Json → Result Sources Fault
sources_of j = all_sources (has_placeholders j) j

-- the ledger of the document's applications
abbrev pub applications_of : Json → Result Ledger Fault
applications_of j = do
  next ← next_id_of j
  sources ← sources_of j
  applications (has_placeholders j) next sources j

-- the ledger, with the local states
abbrev pub ledger_of : Json → Result Ledger Fault
ledger_of j = do
  next ← next_id_of j
  sources ← sources_of j
  ledger (has_placeholders j) next sources j

-- the calls, with the programs of sources
abbrev pub calls_of : Json → Result (List CallData) Fault
calls_of j = do
  sources ← sources_of j
  optional (codes "txns") (transactions sources) [] j

-- the first n items
abbrev pub first_items : ℕ → Items → Items
first_items zero js = no_items
first_items (suc n) no_items = no_items
first_items (suc n) (item j js) = item j (first_items n js)

-- what the elements give that stand in an array before the one to which the path leads
abbrev pub Before : {A : Type 0} → (A → Json → Result A Fault) → A → List Step → Json → A → Type 0
Before one start [] j x = ⊥
Before one start (at_name name ∷ above) j x = ⊥
Before one start (at_index i ∷ above) j x = (js : Items) × (value_at above j ≡ Some (array js)) × (gathered one 0 start (first_items i js) ≡ Ok x)

-- ---- what is wrong with the value there, in the document j

-- a source text whose program breaks this rule
abbrev pub EncodesRefused : CheckFault → List ℕ → Type 0
EncodesRefused f s = (code : List ℕ) × (assembled s ≡ Ok code) × (checked code ≡ Err f)

-- a number that is refused as the next id, or as an id below the end of the document's ids
abbrev pub IsRefusedId : Json → List Step → Json → Type 0
IsRefusedId j path v =
    (Ends (codes "next-id") path × (next_id v ≡ Err (here what.IdRange)))
    ⊎ (Ends (codes "id") path × ((next : Option ℕ) × (next_id_of j ≡ Ok next) × (id_below (end_of_ids next) v ≡ Err (here what.IdRange))))

-- a member of this name that is a schema, with members of these names, of more entries than this
abbrev pub IsLarge : List ℕ → List ℕ → List ℕ → ℕ → List Step → Json → Type 0
IsLarge name bytes_name uints_name most path v = Ends name path × (schema bytes_name uints_name most v ≡ Err (here what.SchemaSize))

-- such a schema of an application, or of a transaction: at most 64 entries for a global one, 16 for a local one
abbrev pub IsRefusedSchema : List Step → Json → Type 0
IsRefusedSchema path v =
    IsLarge (codes "global-state-schema") (codes "num-byte-slice") (codes "num-uint") most_global_entries path v
    ⊎ (IsLarge (codes "local-state-schema") (codes "num-byte-slice") (codes "num-uint") most_local_entries path v
    ⊎ (IsLarge (codes "apgs") (codes "nbs") (codes "nui") most_global_entries path v
    ⊎ IsLarge (codes "apls") (codes "nbs") (codes "nui") most_local_entries path v))

-- the room of an application's state, by the global schema beside it
abbrev pub IsGlobalRoom : Step → Json → Room → Type 0
IsGlobalRoom s o room =
    (s ≡ at_name (codes "global-state"))
    × ((g : Schema) × (optional (codes "global-state-schema") (schema (codes "num-byte-slice") (codes "num-uint") most_global_entries) no_entries o ≡ Ok g) × (room ≡ room_of_schema g))

-- the room of a local state, by the document's application of the id beside it
abbrev pub IsLocalRoom : Json → Step → Json → Room → Type 0
IsLocalRoom j s o room =
    (s ≡ at_name (codes "key-value"))
    × ((id : ℕ) × (l : Ledger) × (required (codes "id") uint o ≡ Ok id) × (applications_of j ≡ Ok l) × (room ≡ local_room (application_at l id)))

-- a state that is refused for its room
abbrev pub IsRefusedState : Json → List Step → Json → Type 0
IsRefusedState j [] v = ⊥
IsRefusedState j (s ∷ above) v =
    (o : Json) × (room : Room) × (value_at above j ≡ Some o) × (IsGlobalRoom s o room ⊎ IsLocalRoom j s o room) × (state room v ≡ Err (here what.Schema))

-- an application that differs from the one of its id in the ledger of those before it
abbrev pub IsSecondApplication : Json → List Step → Json → Type 0
IsSecondApplication j path v =
    EndsIn (codes "apps") path × ((next : Option ℕ) × (sources : Sources) × (l : Ledger) × (next_id_of j ≡ Ok next) × (sources_of j ≡ Ok sources)
    × Before (unless_placeholder (has_placeholders j) (application (end_of_ids next) sources)) (bare_ledger next) path j l
    × (application (end_of_ids next) sources l v ≡ Err (here what.Differs)))

-- a local state that differs from the one of its account and id in the ledger of what stands before it; first is the ledger
-- before the account
abbrev pub IsSecondLocalState : Json → List Step → Json → Type 0
IsSecondLocalState j (i ∷ (s ∷ above)) v =
    (s ≡ at_name (codes "apps-local-state")) × ((next : Option ℕ) × (apps : Ledger) × (first : Ledger) × (l : Ledger) × (o : Json) × (who : Address)
    × (next_id_of j ≡ Ok next) × (applications_of j ≡ Ok apps)
    × (value_at above j ≡ Some o) × (required (codes "address") address o ≡ Ok who)
    × Before (account (has_placeholders j) (end_of_ids next)) apps above j first
    × Before (unless_placeholder (has_placeholders j) (local (end_of_ids next) who)) first (i ∷ (s ∷ above)) j l
    × (local (end_of_ids next) who l v ≡ Err (here what.Differs)))
IsSecondLocalState j path v = ⊥

-- what a source is for
abbrev pub place : Json → Result Place Fault
place v = do
  app ← optional (codes "app-index") uint 0 v
  for ← required (codes "field-name") source_field v
  txn ← optional (codes "txn-index") uint 0 v
  Ok (for, index_of for app txn)

-- a source for an application or a transaction that is not in the document
abbrev pub LacksTarget : Json → List Step → Json → Type 0
LacksTarget j path v =
    EndsIn (codes "sources") path
    × ((p : Place) × (l : Ledger) × (calls : List CallData) × (place v ≡ Ok p) × (ledger_of j ≡ Ok l) × (calls_of j ≡ Ok calls) × (is_there l (length calls) p ≡ false))

-- a source for the same place as one before
abbrev pub IsSecondSource : Json → List Step → Json → Type 0
IsSecondSource j (at_index i ∷ above) v =
    Ends (codes "sources") above
    × ((p : Place) × (n : ℕ) × (u : Json) × (n < i) × (value_at (at_index n ∷ above) j ≡ Some u) × (place u ≡ Ok p) × (place v ≡ Ok p))
IsSecondSource j path v = ⊥

-- a key that an element before has too
abbrev pub IsSecondKey : Json → List Step → Json → Type 0
IsSecondKey j (s ∷ (at_index i ∷ above)) v =
    (s ≡ at_name (codes "key"))
    × ((k : List ℕ) × (n : ℕ) × (u : Json) × (n < i) × (value_at (at_name (codes "key") ∷ (at_index n ∷ above)) j ≡ Some u) × (bytes u ≡ Ok k) × (bytes v ≡ Ok k))
IsSecondKey j path v = ⊥

-- a group that a transaction before has too
abbrev pub IsSecondGroup : Json → List Step → Json → Type 0
IsSecondGroup j (s ∷ (t ∷ (at_index i ∷ above))) v =
    (s ≡ at_name (codes "grp")) × (t ≡ at_name (codes "txn"))
    × ((g : List ℕ) × (n : ℕ) × (u : Json) × (n < i) × (value_at (at_name (codes "grp") ∷ (at_name (codes "txn") ∷ (at_index n ∷ above))) j ≡ Some u) × (bytes u ≡ Ok g) × (bytes v ≡ Ok g))
IsSecondGroup j path v = ⊥

-- a transaction that is refused as a whole, by itself, with the programs of the document's sources
abbrev pub IsRefusedCall : Json → DocumentFault → List Step → Json → Type 0
IsRefusedCall j w (s ∷ (at_index i ∷ above)) v = (s ≡ at_name (codes "txn")) × ((sources : Sources) × (sources_of j ≡ Ok sources) × (transaction sources [] i v ≡ Err (here w)))
IsRefusedCall j w path v = ⊥

-- a program that breaks this rule, as bytes or as source text, or a transaction that is refused for one
abbrev pub HasRefusedProgram : Json → CheckFault → List Step → Json → Type 0
HasRefusedProgram j f path v =
    ((Ends (codes "approval-program") path ⊎ Ends (codes "clear-state-program") path) × IsBase64 v (λ code. checked code ≡ Err f))
    ⊎ ((Ends (codes "source") path × IsText v (EncodesRefused f)) ⊎ IsRefusedCall j (what.Program f) path v)

-- what a fault of a document says of the value to which its path leads
abbrev pub IsWrong : Json → DocumentFault → List Step → Json → Type 0
IsWrong j what.Syntax path v = ⊥
IsWrong j what.NotObject path v = as_object v ≡ None
IsWrong j what.NotArray path v = as_array v ≡ None
IsWrong j what.NotText path v = as_str v ≡ None
IsWrong j what.NotUint path v = option_and_then decimal_of (as_number v) ≡ None
IsWrong j what.NotBool path v = Ends (codes "deleted") path × (as_bool v ≡ None)
IsWrong j (what.Unknown name) path v = reject_unknown (table path) v ≡ Err (here (what.Unknown name))
IsWrong j what.Missing path v = ⊥
IsWrong j what.Deleted path v = Ends (codes "deleted") path × (as_bool v ≡ Some true)
IsWrong j what.BadBase64 path v = IsText v (λ s. result_ok (decode_of standard s) ≡ None)
IsWrong j what.BadAddress path v = IsText v (λ s. address_of s ≡ Err address_fault.BadText)
IsWrong j what.BadChecksum path v = IsText v (λ s. address_of s ≡ Err address_fault.BadChecksum)
IsWrong j what.IdRange path v = IsRefusedId j path v
IsWrong j what.SchemaSize path v = IsRefusedSchema path v ⊎ IsRefusedCall j what.SchemaSize path v
IsWrong j what.KeyLength path v = Ends (codes "key") path × IsBase64 v (λ s. most_key_bytes < length s)
IsWrong j what.TooLong path v = Ends (codes "bytes") path × IsBase64 v (λ s. most_value_bytes < length s)
IsWrong j what.ValueType path v = IsUint v (λ n. (n ≢ 1) × (n ≢ 2))
IsWrong j what.OtherKind path v = read_value v ≡ Err (here what.OtherKind)
IsWrong j what.Twice path v = IsSecondSource j path v ⊎ IsSecondKey j path v
IsWrong j what.Schema path v = IsRefusedState j path v
IsWrong j what.Differs path v = IsSecondApplication j path v ⊎ IsSecondLocalState j path v
IsWrong j (what.Program f) path v = HasRefusedProgram j f path v
IsWrong j (what.Source f) path v = IsText v (λ s. assembled s ≡ Err f)
IsWrong j what.FieldName path v = IsText v (λ s. field_named s ≡ Err (here what.FieldName))
IsWrong j what.NoTarget path v = LacksTarget j path v
IsWrong j what.TooMany path v = is_some (at most_calls v) ≡ true
IsWrong j what.TxnType path v = IsText v (λ s. s ≢ codes "appl")
IsWrong j what.GroupLength path v = Ends (codes "grp") path × IsBase64 v (λ s. length s ≢ 32)
IsWrong j what.Group path v = IsSecondGroup j path v
IsWrong j what.Completion path v = IsUint v (λ n. 5 < n)
IsWrong j what.LeaseLength path v = IsBase64 v (λ s. length s ≢ 32)
IsWrong j what.Accounts path v = IsRefusedCall j what.Accounts path v
IsWrong j what.Args path v = IsRefusedCall j what.Args path v
IsWrong j what.ArgBytes path v = IsRefusedCall j what.ArgBytes path v
IsWrong j what.Foreign path v = IsRefusedCall j what.Foreign path v
IsWrong j what.Note path v = IsRefusedCall j what.Note path v
IsWrong j what.ProgramsMissing path v = IsRefusedCall j what.ProgramsMissing path v
IsWrong j what.ProgramsGiven path v = IsRefusedCall j what.ProgramsGiven path v
IsWrong j what.ClearOnCreate path v = IsRefusedCall j what.ClearOnCreate path v

-- what is so of the value to which the path of a refused document leads
abbrev pub ValuesAreWrong : Type 0
ValuesAreWrong = (j : Json) (f : Fault) (v : Json) → document j ≡ Err f → value_at f.path j ≡ Some v → IsWrong j f.what f.path v

-- the same of a text that is JSON
abbrev pub ValuesOfTextsAreWrong : Type 0
ValuesOfTextsAreWrong =
    (text : List ℕ) (j : Json) (f : Fault) (v : Json) → value_of_text text ≡ Some j → document_of_text text ≡ Err f → value_at f.path j ≡ Some v → IsWrong j f.what f.path v

-- ---- paths as they are shown

-- small letters, digits and dashes, which a JSON pointer needs not escape
abbrev pub is_plain : ℕ → Bool
is_plain c = nat_le 97 c && nat_le c 122 || nat_le 48 c && nat_le c 57 || c == 45

-- the texts of the steps, the first one first
abbrev pub pointer_tokens : List Step → List (List ℕ)
pointer_tokens [] = []
pointer_tokens (s ∷ ss) = pointer_tokens ss ++ step_text s ∷ []

-- a JSON pointer of tokens that need no escape
abbrev pub pointer : List (List ℕ) → List ℕ
pointer ts = codes "#" ++ flat_map (λ t. codes "/" ++ t) ts

-- a token leads into an object to the last member of that name, and into an array to the element at the index that it writes
abbrev pub Enters : List ℕ → Json → Json → Type 0
Enters t (object ms) v = get_member t ms ≡ Some v
Enters t (array js) v = (i : ℕ) × (t ≡ decimal i) × (get_item i js ≡ Some v)
Enters t _ v = ⊥

-- the tokens lead from a value to another
abbrev pub Follow : List (List ℕ) → Json → Json → Type 0
Follow [] j v = j ≡ v
Follow (t ∷ ts) j v = (w : Json) × Enters t j w × Follow ts w v

abbrev pub PathsAreShown : Type 0
PathsAreShown = (path : List Step) → path_text path ≡ pointer (pointer_tokens path)

abbrev pub TokensArePlain : Type 0
TokensArePlain = (j : Json) (f : Fault) → document j ≡ Err f → list_all (list_all is_plain) (pointer_tokens f.path) ≡ true

-- the same of a text
abbrev pub TokensOfTextsArePlain : Type 0
TokensOfTextsArePlain = (text : List ℕ) (f : Fault) → document_of_text text ≡ Err f → list_all (list_all is_plain) (pointer_tokens f.path) ≡ true

abbrev pub PointersLead : Type 0
PointersLead = (path : List Step) (j v : Json) → value_at path j ≡ Some v → Follow (pointer_tokens path) j v

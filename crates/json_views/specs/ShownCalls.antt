-- Calls as JSON, in the canonical form of transactions: a member that is 0, empty or all zeros is left out, but for the sender
-- and the type.
use Rattle.std.specs.Prelude.{ℕ, ◌+◌, List, [], ◌∷◌, ◌++◌, Bool, ◌==◌, if◌then◌else◌, codes, length}
use Rattle.std.specs.List.{list_all}
use Rattle.json.specs.Json.{Json}
use Rattle.teal_value.specs.declared.address.Address.{Address}
use Rattle.avm_states.specs.declared.schema.Schema.{Schema}
use Rattle.avm_items.specs.declared.call_data.CallData.{CallData}
use Rattle.avm_items.specs.CallFields.{completion_number}
use Rattle.json_views.specs.Documents.{Member, address, array_of, base64, object_of, text, uint}

-- ---- members that may be left out

abbrev pub if_not : Bool → List ℕ → Json → List Member
if_not empty name value = if empty then [] else (name, value) ∷ []

abbrev pub are_zeros : List ℕ → Bool
are_zeros bytes = list_all (λ b. b == 0) bytes

abbrev pub uint_if_any : List ℕ → ℕ → List Member
uint_if_any name n = if_not (n == 0) name (uint n)

abbrev pub bytes_if_any : List ℕ → List ℕ → List Member
bytes_if_any name bytes = if_not (length bytes == 0) name (base64 bytes)

abbrev pub array_if_any : {A : Type 0} → List ℕ → (A → Json) → List A → List Member
array_if_any name shown xs = if_not (length xs == 0) name (array_of shown xs)

abbrev pub schema_members : Schema → List Member
schema_members s = uint_if_any (codes "nbs") s.bytes ++ uint_if_any (codes "nui") s.uints

abbrev pub schema_if_any : List ℕ → Schema → List Member
schema_if_any name s = if_not (s.bytes + s.uints == 0) name (object_of (schema_members s))

abbrev pub lease_if_any : List ℕ → List Member
lease_if_any lease = if_not (are_zeros lease) (codes "lx") (base64 lease)

abbrev pub authority_if_any : Address → List Member
authority_if_any who = if_not (are_zeros who.0) (codes "rekey") (address who)

-- ---- calls

-- arguments, what is done beside the run, the approval program that a creation or an update brings, accounts and applications
abbrev pub target_members : CallData → List Member
target_members c =
    array_if_any (codes "apaa") base64 c.arguments
    ++ (uint_if_any (codes "apan") (completion_number c.completion)
    ++ (bytes_if_any (codes "apap") c.approval
    ++ (array_if_any (codes "apat") address c.accounts
    ++ array_if_any (codes "apfa") uint c.foreign_applications)))

-- the application, and the schemas and the clear state program that a creation or an update brings
abbrev pub application_members : CallData → List Member
application_members c =
    schema_if_any (codes "apgs") c.global_schema
    ++ (uint_if_any (codes "apid") c.application
    ++ (schema_if_any (codes "apls") c.local_schema
    ++ bytes_if_any (codes "apsu") c.clear))

-- fee, rounds, lease, note and the sender's new authority
abbrev pub term_members : CallData → List Member
term_members c =
    uint_if_any (codes "fee") c.fee
    ++ (uint_if_any (codes "fv") c.first_valid
    ++ (uint_if_any (codes "lv") c.last_valid
    ++ (lease_if_any c.lease
    ++ (bytes_if_any (codes "note") c.note
    ++ authority_if_any c.rekey_to))))

-- the sender, and the type of a transaction that is an application call
abbrev pub sender_members : Address → List Member
sender_members sender = (codes "snd", address sender) ∷ (codes "type", text (codes "appl")) ∷ []

abbrev pub shown_call : CallData → Json
shown_call c = object_of (target_members c ++ (application_members c ++ (term_members c ++ sender_members c.sender)))

-- Groups of transactions. Each call is a group by itself, so no two transactions of a document are in one.
use Rattle.std.specs.Prelude.{ℕ, Bool, ◌==◌, if◌then◌else◌, List, length, Option, Some, None, Result, Ok, Err}
use Rattle.std.specs.List.{list_any}
use Rattle.std.specs.BTreeMap.{is_at}
use Rattle.std.specs.BTreeSet.{insert_key}
use Rattle.teal_value.specs.Answer.{◌>>=◌}
use Rattle.avm_states.specs.Entries.{byte_cmp}
use Rattle.json.specs.Json.{Json}
use Rattle.json_documents.specs.declared.document_fault.DocumentFault.TheVariants as what
use Rattle.json_documents.specs.Faults.{Fault, here}
use Rattle.json_documents.specs.Plain.{bytes}

-- the groups of transactions, by rising bytes
abbrev pub Groups : Type 0
Groups = List (List ℕ)

abbrev pub has_group : Groups → List ℕ → Bool
has_group groups s = list_any (is_at (byte_cmp s)) groups

-- the groups with that of a transaction, if it has one
abbrev pub with_group : Groups → Option (List ℕ) → Groups
with_group groups None = groups
with_group groups (Some s) = insert_key byte_cmp groups s

abbrev pub new_group : Groups → List ℕ → Result (Option (List ℕ)) Fault
new_group groups s = if has_group groups s then Err (here what.Group) else Ok (Some s)

abbrev pub whole_group : List ℕ → Result (List ℕ) Fault
whole_group s = if length s == 32 then Ok s else Err (here what.GroupLength)

-- a group that is none of these
abbrev pub group : Groups → Json → Result (Option (List ℕ)) Fault
group groups j = do
  s ← bytes j
  g ← whole_group s
  new_group groups g

-- States: arrays of keys with their values.
use Rattle.std.specs.Prelude.{ℕ, Bool, true, false, ◌==◌, ◌&&◌, nat_le, if◌then◌else◌, List, [], length, codes, is_some, Result, Ok, Err}
use Rattle.teal_value.specs.Answer.{◌>>=◌}
use Rattle.teal_value.specs.Keys.{most_key_bytes}
use Rattle.teal_value.specs.declared.value.Value.{Value}
use Rattle.teal_value.specs.declared.value.Value.TheVariants.{Uint, Bytes}
use Rattle.avm_states.specs.Entries.{Entries, most_value_bytes, value_of_key, with_entry}
use Rattle.avm_states.specs.Schemas.{counts_in, is_within}
use Rattle.avm_ledger.specs.LedgerReader.{Room}
use Rattle.json.specs.Json.{Json}
use Rattle.json_documents.specs.declared.document_fault.DocumentFault.TheVariants as what
use Rattle.json_documents.specs.Steps.{at_name}
use Rattle.json_documents.specs.Faults.{Fault, here, in_step}
use Rattle.json_documents.specs.Members.{reject_unknown, required, optional}
use Rattle.json_documents.specs.Arrays.{each}
use Rattle.json_documents.specs.Plain.{bytes, uint}
use Rattle.json_documents.specs.Tables.{key_value_names, value_names}

-- 1 stands for a byte string, 2 for a uint
abbrev pub kind_of : ℕ → Result Bool Fault
kind_of n = if n == 1 then Ok true else if n == 2 then Ok false else Err (here what.ValueType)

-- whether a value is a byte string
abbrev pub kind : Json → Result Bool Fault
kind j = uint j >>= kind_of

abbrev pub short_value : List ℕ → Result Value Fault
short_value s = if nat_le (length s) most_value_bytes then Ok (Bytes s) else in_step (at_name (codes "bytes")) (Err (here what.TooLong))

-- a value of a kind; the other kind's member is empty
abbrev pub value_of_kind : Bool → List ℕ → ℕ → Result Value Fault
value_of_kind true s n = if n == 0 then short_value s else Err (here what.OtherKind)
value_of_kind false s n = if length s == 0 then Ok (Uint n) else Err (here what.OtherKind)

abbrev pub value : Json → Result Value Fault
value j = do
  _ ← reject_unknown value_names j
  is_bytes ← required (codes "type") kind j
  s ← optional (codes "bytes") bytes [] j
  n ← optional (codes "uint") uint 0 j
  value_of_kind is_bytes s n

abbrev pub short_key : List ℕ → Result (List ℕ) Fault
short_key s = if nat_le (length s) most_key_bytes then Ok s else Err (here what.KeyLength)

abbrev pub key : Json → Result (List ℕ) Fault
key j = bytes j >>= short_key

-- an entry whose key is new
abbrev pub new_entry : Entries → List ℕ → Value → Result Entries Fault
new_entry entries k v =
    if is_some (value_of_key entries k) then in_step (at_name (codes "key")) (Err (here what.Twice)) else Ok (with_entry entries k v)

abbrev pub with_key_value : Entries → Json → Result Entries Fault
with_key_value entries j = do
  _ ← reject_unknown key_value_names j
  k ← required (codes "key") key j
  v ← required (codes "value") value j
  new_entry entries k v

-- entries for which there is room
abbrev pub within : Room → Entries → Result Entries Fault
within room entries =
    if nat_le (length entries) room.entries && is_within (counts_in entries) room.kinds then Ok entries else Err (here what.Schema)

-- a state for which there is room
unfoldable pub state : Room → Json → Result Entries Fault
state room j = each with_key_value [] j >>= within room

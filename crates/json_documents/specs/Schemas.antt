-- Schemas.
use Rattle.std.specs.Prelude.{ℕ, ◌+◌, nat_le, if◌then◌else◌, List, [], ◌∷◌, Result, Ok, Err}
use Rattle.teal_value.specs.Answer.{◌>>=◌}
use Rattle.avm_states.specs.declared.schema.Schema.{Schema}
use Rattle.json.specs.Json.{Json}
use Rattle.json_documents.specs.declared.document_fault.DocumentFault.TheVariants.{SchemaSize}
use Rattle.json_documents.specs.Faults.{Fault, here}
use Rattle.json_documents.specs.Members.{reject_unknown, optional}
use Rattle.json_documents.specs.Plain.{uint}

-- a schema of at most so many entries
abbrev pub limited : ℕ → ℕ → ℕ → Result Schema Fault
limited most bytes uints = if nat_le (bytes + uints) most then Ok (record { uints = uints; bytes = bytes }) else Err (here SchemaSize)

-- a schema whose members have these names
abbrev pub schema : List ℕ → List ℕ → ℕ → Json → Result Schema Fault
schema bytes_name uints_name most j = do
  _ ← reject_unknown (bytes_name ∷ uints_name ∷ []) j
  bytes ← optional bytes_name uint 0 j
  uints ← optional uints_name uint 0 j
  limited most bytes uints

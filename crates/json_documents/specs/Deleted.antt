-- What is listed as deleted: indexers list what is gone beside what is there (`deleted` of Algorand's indexer API).
use Rattle.std.specs.Prelude.{ℕ, Bool, if◌then◌else◌, List, codes, Result, Ok, Err}
use Rattle.teal_value.specs.Answer.{◌>>=◌}
use Rattle.json.specs.Json.{Json}
use Rattle.json_documents.specs.declared.document_fault.DocumentFault.TheVariants.{Deleted}
use Rattle.json_documents.specs.Faults.{Fault, here}
use Rattle.json_documents.specs.Members.{reject_unknown, optional}
use Rattle.json_documents.specs.Plain.{boolean}

abbrev pub only_false : Bool → Result (Unit {0}) Fault
only_false gone = if gone then Err (here Deleted) else Ok tt

abbrev pub not_deleted : Json → Result (Unit {0}) Fault
not_deleted j = boolean j >>= only_false

-- an object whose names are among these, and which is there still
abbrev pub still_known : List (List ℕ) → Json → Result (Unit {0}) Fault
still_known names j = reject_unknown names j >>= λ _. optional (codes "deleted") not_deleted tt j

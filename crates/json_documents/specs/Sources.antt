-- Programs as source text, which stand apart from the applications and the transactions that they are for.
use Rattle.std.specs.Prelude.{ℕ, ◌+◌, Bool, true, nat_lt, if◌then◌else◌, List, [], ◌∷◌, ◌++◌, codes, Option, Some, None, is_some, Result, Ok, Err}
use Rattle.std.specs.Option.{option_map_or}
use Rattle.std.specs.Ordering.{nat_cmp}
use Rattle.std.specs.Map.{lookup}
use Rattle.std.specs.Str.{bytes_eq}
use Rattle.std.specs.BTreeMap.{insert_entry, is_at}
use Rattle.teal_value.specs.Answer.{◌>>=◌}
use Rattle.avm_ledger.specs.Ledgers.{Ledger, application_at}
use Rattle.json.specs.Json.{Json}
use Rattle.json_documents.specs.declared.document_fault.DocumentFault.TheVariants as what
use Rattle.json_documents.specs.Steps.{at_name, at_index}
use Rattle.json_documents.specs.Faults.{Fault, here, in_step}
use Rattle.json_documents.specs.Members.{reject_unknown, required, optional}
use Rattle.json_documents.specs.Placeholders.{is_source_of_placeholder}
use Rattle.json_documents.specs.Plain.{text, uint}
use Rattle.json_documents.specs.declared.sources.SourceField.{SourceField}
use Rattle.json_documents.specs.declared.sources.SourceField.TheVariants as field
use Rattle.json_documents.specs.Programs.{program_of_source}
use Rattle.json_documents.specs.Tables.{source_names}

-- programs by rising id of their application, or index of their transaction
abbrev pub Programs : Type 0
Programs = List (ℕ × List ℕ)

-- what a source is for: one of two programs of an application, or of a transaction
abbrev pub Place : Type 0
Place = SourceField × ℕ

-- the places in the order of the document, none for what is passed over, and the programs for each field
pub record Sources : Type 0 where
  pub places : List (Option Place)
  pub approvals : Programs
  pub clears : Programs
  pub call_approvals : Programs
  pub call_clears : Programs

abbrev pub no_sources : Sources
no_sources = record { places = []; approvals = []; clears = []; call_approvals = []; call_clears = [] }

abbrev pub program_for : Programs → ℕ → Option (List ℕ)
program_for programs n = lookup (is_at (nat_cmp n)) programs

abbrev pub with_program : Programs → ℕ → List ℕ → Programs
with_program programs n code = insert_entry nat_cmp programs n code

abbrev pub program_at : Sources → SourceField → ℕ → Option (List ℕ)
program_at s field.Approval n = program_for s.approvals n
program_at s field.Clear n = program_for s.clears n
program_at s field.CallApproval n = program_for s.call_approvals n
program_at s field.CallClear n = program_for s.call_clears n

abbrev pub with_source_at : Sources → SourceField → ℕ → List ℕ → Sources
with_source_at s field.Approval n code = record s { places = s.places ++ Some (field.Approval, n) ∷ []; approvals = with_program s.approvals n code }
with_source_at s field.Clear n code = record s { places = s.places ++ Some (field.Clear, n) ∷ []; clears = with_program s.clears n code }
with_source_at s field.CallApproval n code = record s { places = s.places ++ Some (field.CallApproval, n) ∷ []; call_approvals = with_program s.call_approvals n code }
with_source_at s field.CallClear n code = record s { places = s.places ++ Some (field.CallClear, n) ∷ []; call_clears = with_program s.call_clears n code }

abbrev pub field_named : List ℕ → Result SourceField Fault
field_named name =
    if bytes_eq name (codes "approv") then Ok field.Approval
    else if bytes_eq name (codes "clearp") then Ok field.Clear
    else if bytes_eq name (codes "apap") then Ok field.CallApproval
    else if bytes_eq name (codes "apsu") then Ok field.CallClear
    else Err (here what.FieldName)

abbrev pub source_field : Json → Result SourceField Fault
source_field j = text j >>= field_named

-- an application by its id, a transaction by its index
abbrev pub index_of : SourceField → ℕ → ℕ → ℕ
index_of field.Approval app txn = app
index_of field.Clear app txn = app
index_of field.CallApproval app txn = txn
index_of field.CallClear app txn = txn

abbrev pub only_source : Sources → SourceField → ℕ → List ℕ → Result Sources Fault
only_source s for n source =
    if is_some (program_at s for n) then Err (here what.Twice)
    else (in_step (at_name (codes "source")) (program_of_source source) >>= λ code. Ok (with_source_at s for n code))

abbrev pub with_source : Sources → Json → Result Sources Fault
with_source s j = do
  _ ← reject_unknown source_names j
  app ← optional (codes "app-index") uint 0 j
  for ← required (codes "field-name") source_field j
  source ← required (codes "source") text j
  txn ← optional (codes "txn-index") uint 0 j
  only_source s for (index_of for app txn) source

-- what is passed over has no place
abbrev pub with_none : Sources → Sources
with_none s = record s { places = s.places ++ None ∷ [] }

-- a source of a document that has placeholders or not
abbrev pub source : Bool → Sources → Json → Result Sources Fault
source there s j = if is_source_of_placeholder there j then Ok (with_none s) else with_source s j

-- ---- their targets

-- whether a place is one of the ledger's applications or of so many calls
abbrev pub is_there : Ledger → ℕ → Place → Bool
is_there l calls (field.Approval, n) = is_some (application_at l n)
is_there l calls (field.Clear, n) = is_some (application_at l n)
is_there l calls (field.CallApproval, n) = nat_lt n calls
is_there l calls (field.CallClear, n) = nat_lt n calls

-- what has no place needs none
abbrev pub has_target : Ledger → ℕ → Option Place → Bool
has_target l calls p = option_map_or (is_there l calls) p true

-- the first source from an index on whose target is not in the document is refused
unfoldable pub targets_from : ℕ → Ledger → ℕ → List (Option Place) → Result (Unit {0}) Fault
targets_from i l calls [] = Ok tt
targets_from i l calls (p ∷ ps) = if has_target l calls p then targets_from (i + 1) l calls ps else in_step (at_index i) (Err (here what.NoTarget))

abbrev pub targets : Sources → Ledger → ℕ → Result (Unit {0}) Fault
targets s l calls = in_step (at_name (codes "sources")) (targets_from 0 l calls s.places)

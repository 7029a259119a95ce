-- Applications as JSON.
use Rattle.std.specs.Prelude.{ℕ, [], ◌∷◌, codes}
use Rattle.json.specs.Json.{Json}
use Rattle.avm_states.specs.declared.schema.Schema.{Schema}
use Rattle.avm_ledger.specs.declared.application.StoredApplication.{StoredApplication}
use Rattle.json_views.specs.Documents.{address, base64, object_of, uint}
use Rattle.json_views.specs.States.{shown_state}

abbrev pub shown_schema : Schema → Json
shown_schema s = object_of ((codes "num-byte-slice", uint s.bytes) ∷ (codes "num-uint", uint s.uints) ∷ [])

-- everything but the id
abbrev pub shown_params : StoredApplication → Json
shown_params app =
    object_of (
    (codes "approval-program", base64 app.row.approval)
    ∷ (codes "clear-state-program", base64 app.row.clear)
    ∷ (codes "creator", address app.row.creator)
    ∷ (codes "global-state", shown_state app.state)
    ∷ (codes "global-state-schema", shown_schema app.row.global_schema)
    ∷ (codes "local-state-schema", shown_schema app.row.local_schema)
    ∷ [])

abbrev pub shown_application : ℕ × StoredApplication → Json
shown_application e = object_of ((codes "id", uint e.0) ∷ (codes "params", shown_params e.1) ∷ [])

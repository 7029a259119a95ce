-- A ledger as a JSON document.
use Rattle.std.specs.Prelude.{[], ◌∷◌, codes, map}
use Rattle.json.specs.Json.{Json}
use Rattle.avm_ledger.specs.Ledgers.{Ledger}
use Rattle.avm_ledger.specs.Encodings.{ledger_digest}
use Rattle.json_views.specs.Documents.{array_of, digits, object_of, uint}
use Rattle.json_views.specs.Applications.{shown_application}
use Rattle.json_views.specs.ByAccount.{shown_by_account}
use Rattle.json_views.specs.Accounts.{local_of, locals_name, shown_local}

abbrev pub shown_accounts : Ledger → Json
shown_accounts l = shown_by_account locals_name shown_local (map local_of l.local_states)

abbrev pub shown_applications : Ledger → Json
shown_applications l = array_of shown_application l.applications

abbrev pub shown_ledger : Ledger → Json
shown_ledger l =
    object_of (
    (codes "accounts", shown_accounts l)
    ∷ (codes "apps", shown_applications l)
    ∷ (codes "digests", object_of ((codes "ledger", digits (ledger_digest l)) ∷ []))
    ∷ (codes "next-id", uint l.next_id)
    ∷ [])

-- A ledger is read back from how it is shown.
use Rattle.std.proofs.Common.{◌≡◌, ◌∙◌, false, [], None, Ok, Some, refl, ap}
use Rattle.std.specs.Prelude.{codes}
use Rattle.std.proofs.lemmas.Bool.{le-leb}
use Rattle.avm_ledger.specs.Ledgers.{Ledger}
use Rattle.avm_ledger.specs.LedgerRules.{KeepsRules}
use Rattle.json.specs.Json.{Json}
use Rattle.json_documents.specs.Arrays.{each}
use Rattle.json_documents.specs.Faults.{in_step}
use Rattle.json_documents.specs.Members.{least_unknown, member, optional_in}
use Rattle.json_documents.specs.Steps.{at_name}
use Rattle.json_documents.specs.Accounts.{account}
use Rattle.json_documents.specs.Applications.{application}
use Rattle.json_documents.specs.Documents.{document, front, ledger}
use Rattle.json_documents.specs.Ids.{next_id}
use Rattle.json_documents.specs.Sources.{no_sources, targets_from}
use Rattle.json_views.specs.Documents.{uint}
use Rattle.json_views.specs.ShownLedgers.{shown_accounts, shown_applications, shown_ledger}
use Rattle.json_laws.specs.OfBytes.{IsWholeLedgerOfBytes}
use Rattle.json_laws.specs.ReadBack.{EmptyDocumentsAreRead, default_header, shown_as}
use Rattle.json_laws.proofs.ApplicationsBack.{applications_back, with_applications}
use Rattle.json_laws.proofs.ArraysBack.{then, then_in}
use Rattle.json_laws.proofs.LocalStatesBack.{local_states_back}
use Rattle.json_laws.proofs.PlainBack.{uint_back}

-- the default header is that of a document without members
pub empty_document_read : EmptyDocumentsAreRead
unfolding least_unknown targets_from
empty_document_read = refl

module _ (l : Ledger) (rules : KeepsRules l) (of : IsWholeLedgerOfBytes l) where
  -- the next id of a ledger is read back
  pub next_back : next_id (uint l.next_id) ≡ Ok (Some l.next_id)
  next_back = then _ _ _ _ (uint_back l.next_id rules.small) (rw (le-leb 1 l.next_id rules.next_id) refl)

  -- from whatever document has its applications and its accounts
  pub ledger_back : (j : Json) → member (codes "apps") j ≡ Some (shown_applications l) → member (codes "accounts") j ≡ Some (shown_accounts l) → ledger false (Some l.next_id) no_sources j ≡ Ok l
  ledger_back j apps accounts =
      let fresh = with_applications l.next_id [] in
      let full = with_applications l.next_id l.applications in
      then _ _ _ _
      (ap (optional_in (codes "apps") (each (application l.next_id no_sources) fresh) fresh) apps
      ∙ ap (in_step (at_name (codes "apps"))) (applications_back l.next_id l.applications rules.small rules.rising_ids rules.applications of.applications))
      (ap (optional_in (codes "accounts") (each (account false l.next_id) full) full) accounts
      ∙ ap (in_step (at_name (codes "accounts"))) (local_states_back l.next_id l.applications rules.small l.local_states rules.rising_accounts rules.local_states of.local_states))

  front_back : front (shown_ledger l) ≡ Ok (record { header = default_header; next_id = Some l.next_id })
  front_back = then_in _ _ _ _ _ next_back refl

  -- a ledger is read back from how it is shown
  pub shown_ledger_back : document (shown_ledger l) ≡ Ok (shown_as l None)
  unfolding least_unknown targets_from
  shown_ledger_back = then _ _ _ _ front_back (then _ _ _ _ (ledger_back (shown_ledger l) refl refl) refl)

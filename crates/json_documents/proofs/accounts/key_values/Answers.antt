use Rattle.std.proofs.Common.{ap, ◌∙◌}
use Rattle.avm_ledger.specs.Ledgers.{application_at}
use Rattle.avm_ledger.specs.LedgerReader.{local_room}
use Rattle.json_documents.proofs.accounts.key_values.Goals as goal

pub returns : goal.returns
returns c =
    rw (c.local_form-within.ensures ∙ ap local_room c.application.ensures ∙ ap (λ id. local_room (application_at c.args.ledger.now id)) c.number.ensures)
    at c.optional_state.ensures

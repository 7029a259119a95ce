use Rattle.json_documents.proofs.applications.global_state.Goals as goal

pub returns : goal.returns
returns c = rw c.under-within.ensures at c.optional_state.ensures

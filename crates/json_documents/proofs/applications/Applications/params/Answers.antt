use Rattle.json_documents.proofs.applications.Applications.params.Goals as goal

pub returns : goal.returns
returns c = rw c.number.ensures at c.required.ensures

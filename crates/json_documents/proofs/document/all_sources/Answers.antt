use Rattle.json_documents.proofs.document.all_sources.Goals as goal

pub returns : goal.returns
returns c = rw c.new.ensures at c.optional_each.ensures

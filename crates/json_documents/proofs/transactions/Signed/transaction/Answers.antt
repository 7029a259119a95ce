use Rattle.json_documents.proofs.transactions.Signed.transaction.Goals as goal

pub returns : goal.returns
returns c = rw (c.groups.ensures, c.len.ensures) at c.required.ensures

-- What the laws say are lemmas.
use Rattle.json_laws.proofs.ExecutableDocuments.{accepted_documents_may_be_executed}
use Rattle.json_laws.proofs.AcceptedTexts.{accepted_texts_may_be_executed}
use Rattle.json_laws.proofs.accepted.accepted_documents_may_be_executed.Goals as goal

pub returns-clause-values : goal.returns-clause-values
returns-clause-values c = accepted_documents_may_be_executed

pub returns-clause-texts : goal.returns-clause-texts
returns-clause-texts c = accepted_texts_may_be_executed

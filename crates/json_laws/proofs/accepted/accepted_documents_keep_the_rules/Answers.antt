-- What the laws say are lemmas.
use Rattle.json_laws.proofs.AcceptedDocuments.{accepted_documents_keep_the_rules}
use Rattle.json_laws.proofs.AcceptedTexts.{accepted_texts_keep_the_rules}
use Rattle.json_laws.proofs.accepted.accepted_documents_keep_the_rules.Goals as goal

pub returns-clause-values : goal.returns-clause-values
returns-clause-values c = accepted_documents_keep_the_rules

pub returns-clause-texts : goal.returns-clause-texts
returns-clause-texts c = accepted_texts_keep_the_rules

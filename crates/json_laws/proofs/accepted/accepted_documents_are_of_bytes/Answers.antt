-- What the laws say are lemmas.
use Rattle.json_laws.proofs.DocumentsOfBytes.{accepted_documents_are_of_bytes}
use Rattle.json_laws.proofs.AcceptedTexts.{accepted_texts_are_of_bytes}
use Rattle.json_laws.proofs.accepted.accepted_documents_are_of_bytes.Goals as goal

pub returns-clause-values : goal.returns-clause-values
returns-clause-values c = accepted_documents_are_of_bytes

pub returns-clause-texts : goal.returns-clause-texts
returns-clause-texts c = accepted_texts_are_of_bytes

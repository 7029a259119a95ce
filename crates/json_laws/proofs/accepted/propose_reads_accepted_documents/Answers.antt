-- What the laws say are lemmas.
use Rattle.json_laws.proofs.ProposedDocuments.{propose_answers_texts, propose_reads_documents, propose_reads_replies, propose_reads_texts}
use Rattle.json_laws.proofs.accepted.propose_reads_accepted_documents.Goals as goal

pub returns-clause-values : goal.returns-clause-values
returns-clause-values c = propose_reads_documents

pub returns-clause-texts : goal.returns-clause-texts
returns-clause-texts c = propose_reads_texts

pub returns-clause-replies : goal.returns-clause-replies
returns-clause-replies c = propose_reads_replies

pub returns-clause-answers : goal.returns-clause-answers
returns-clause-answers c = propose_answers_texts

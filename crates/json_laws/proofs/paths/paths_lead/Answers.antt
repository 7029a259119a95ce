use Rattle.json_laws.proofs.PathDocuments.{paths_lead, paths_of_texts_lead}
use Rattle.json_laws.proofs.paths.paths_lead.Goals as goal

pub returns-clause-document : goal.returns-clause-document
returns-clause-document c = paths_lead

pub returns-clause-text : goal.returns-clause-text
returns-clause-text c = paths_of_texts_lead

use Rattle.json_laws.proofs.PathDocuments.{values_are_wrong, values_of_texts_are_wrong}
use Rattle.json_laws.proofs.paths.values_are_wrong.Goals as goal

pub returns-clause-document : goal.returns-clause-document
returns-clause-document c = values_are_wrong

pub returns-clause-text : goal.returns-clause-text
returns-clause-text c = values_of_texts_are_wrong

use Rattle.json_laws.proofs.PathPointers.{paths_are_shown, pointers_lead, tokens_are_plain, tokens_of_texts_are_plain}
use Rattle.json_laws.proofs.paths.pointers_lead.Goals as goal

pub returns-clause-shown : goal.returns-clause-shown
returns-clause-shown c = paths_are_shown

pub returns-clause-plain : goal.returns-clause-plain
returns-clause-plain c = tokens_are_plain

pub returns-clause-plain_of_text : goal.returns-clause-plain_of_text
returns-clause-plain_of_text c = tokens_of_texts_are_plain

pub returns-clause-lead : goal.returns-clause-lead
returns-clause-lead c = pointers_lead

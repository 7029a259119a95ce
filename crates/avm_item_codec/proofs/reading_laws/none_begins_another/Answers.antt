use Rattle.avm_item_codec.proofs.ItemsBack.{no_item_begins, no_value_begins}
use Rattle.avm_item_codec.proofs.reading_laws.none_begins_another.Goals as goal

pub returns-clause-item : goal.returns-clause-item
returns-clause-item c = no_item_begins

pub returns-clause-value : goal.returns-clause-value
returns-clause-value c = no_value_begins

use Rattle.avm_item_codec.proofs.ItemsBack.{item_back, item_value_back, list_back, map_back}
use Rattle.avm_item_codec.proofs.reading_laws.reads_back.Goals as goal

pub returns-clause-item : goal.returns-clause-item
returns-clause-item c = item_back

pub returns-clause-value : goal.returns-clause-value
returns-clause-value c = item_value_back

pub returns-clause-list : goal.returns-clause-list
returns-clause-list c = list_back

pub returns-clause-map : goal.returns-clause-map
returns-clause-map c = map_back

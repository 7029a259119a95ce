use Rattle.avm_item_codec.proofs.ItemsEncoded.{item_encodes, value_encodes, list_read}
use Rattle.avm_item_codec.proofs.reading_laws.encodes_back.Goals as goal

pub returns-clause-item : goal.returns-clause-item
returns-clause-item c = item_encodes

pub returns-clause-value : goal.returns-clause-value
returns-clause-value c = value_encodes

pub returns-clause-list : goal.returns-clause-list
returns-clause-list c = list_read

use Rattle.avm_item_codec.proofs.LedgerValues.{has_values}
use Rattle.avm_item_codec.proofs.reading_laws.ledgers_have_values.Goals as goal

pub returns : goal.returns
returns c = λ l x keeps is. has_values l keeps x is

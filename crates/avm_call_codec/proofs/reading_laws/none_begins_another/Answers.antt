use Rattle.avm_call_codec.proofs.CallBack.{none_begins}
use Rattle.avm_call_codec.proofs.reading_laws.none_begins_another.Goals as goal

pub returns : goal.returns
returns c = none_begins

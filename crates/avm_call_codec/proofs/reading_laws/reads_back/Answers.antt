use Rattle.avm_call_codec.proofs.CallBack.{call_back, call_back_alone, call_back_from}
use Rattle.avm_call_codec.proofs.reading_laws.reads_back.Goals as goal

pub returns-clause-front : goal.returns-clause-front
returns-clause-front c = call_back

pub returns-clause-alone : goal.returns-clause-alone
returns-clause-alone c = call_back_alone

pub returns-clause-at_a_place : goal.returns-clause-at_a_place
returns-clause-at_a_place c = call_back_from

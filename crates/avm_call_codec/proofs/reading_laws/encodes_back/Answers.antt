use Rattle.avm_call_codec.proofs.CallEncoded.{front_encodes, call_encodes, place_encodes}
use Rattle.avm_call_codec.proofs.reading_laws.encodes_back.Goals as goal

pub returns-clause-front : goal.returns-clause-front
returns-clause-front c = front_encodes

pub returns-clause-alone : goal.returns-clause-alone
returns-clause-alone c = call_encodes

pub returns-clause-at_a_place : goal.returns-clause-at_a_place
returns-clause-at_a_place c = place_encodes

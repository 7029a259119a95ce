use Rattle.avm_rule_laws.proofs.SoundReading.{empty_sound, ledger_sound}
use Rattle.avm_rule_laws.proofs.rule_laws.ledgers_begin_sound.Goals as goal

pub returns-clause-empty : goal.returns-clause-empty
returns-clause-empty c = empty_sound

pub returns-clause-read : goal.returns-clause-read
returns-clause-read c = ledger_sound

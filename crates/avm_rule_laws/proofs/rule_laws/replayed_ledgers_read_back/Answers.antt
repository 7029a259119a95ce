use Rattle.avm_call.specs.Replay.{replayed}
use Rattle.avm_ledger.proofs.LedgerBack.{ledger_back_alone}
use Rattle.avm_rule_laws.proofs.KeptRules.{replays_keep_the_rules}
use Rattle.avm_rule_laws.proofs.rule_laws.replayed_ledgers_read_back.Goals as goal

pub returns : goal.returns
returns c = λ l header calls sound may countable. ledger_back_alone (replayed l header calls) (replays_keep_the_rules l header calls sound may).rules countable

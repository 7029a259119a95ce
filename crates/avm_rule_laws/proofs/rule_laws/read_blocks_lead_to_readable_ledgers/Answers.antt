use Rattle.avm_rule_laws.proofs.ReadBlocks.{read_blocks_lead_to_readable_ledgers}
use Rattle.avm_rule_laws.proofs.rule_laws.read_blocks_lead_to_readable_ledgers.Goals as goal

pub returns : goal.returns
returns c = read_blocks_lead_to_readable_ledgers

use Rattle.std.proofs.Common.{ap}
use Rattle.avm_node.proofs.NodeAnswers.{no_digits}
use Rattle.avm_node.proofs.propose_command.ProposeReply.without_block.Goals as goal

pub returns : goal.returns
returns c = ap (λ t. record { text = t; status = c.args.reply.status }) (no_digits c.new.result.items c.args.reply.text.items c.new.ensures.items)

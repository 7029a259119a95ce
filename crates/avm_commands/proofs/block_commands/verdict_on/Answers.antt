use Rattle.avm_commands.proofs.Verdicts.{judged_digest}
use Rattle.avm_commands.proofs.block_commands.verdict_on.Goals as goal

pub verdict_reply-reply-requires : goal.verdict_reply-reply-requires
verdict_reply-reply-requires g c = record { after = rw c.after.ensures (judged_digest c.args.base c.args.block.now c.in_ok-verdict.verdict c.in_ok-verdict.ensures) }

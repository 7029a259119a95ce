use Rattle.std.proofs.Common.{string_bytes}
use Rattle.avm_input.specs.Shown.{reply_shown}
use Rattle.json_views.specs.TraceReplies.{trace_too_long}
use Rattle.json_views.specs.Traces.{FindsBlock}
use Rattle.json_views.proofs.FoundReplies.{found_is_told}
use Rattle.json_views.proofs.trace_replies.block_reply.Goals as goal

pub returns : goal.returns
returns g c =
    found_is_told string_bytes reply_shown (FindsBlock (c.args.base, c.args.block.now)) trace_too_long c.block_trace-found.result c.found_reply.result c.block_trace-found.ensures.found c.block_trace-found.ensures.refused c.found_reply.ensures.text c.found_reply.ensures.refused

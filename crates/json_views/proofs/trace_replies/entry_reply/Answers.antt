use Rattle.std.proofs.Common.{string_bytes}
use Rattle.avm_input.specs.Shown.{reply_shown}
use Rattle.json_views.specs.TraceReplies.{trace_too_long}
use Rattle.json_views.specs.Traces.{FindsEntry}
use Rattle.json_views.proofs.FoundReplies.{found_is_told}
use Rattle.json_views.proofs.trace_replies.entry_reply.Goals as goal

pub returns : goal.returns
returns g c =
    found_is_told string_bytes reply_shown (FindsEntry (c.args.base.now, c.args.block.now) c.args.number) trace_too_long c.entry_trace-found.result c.found_reply.result c.entry_trace-found.ensures.found c.entry_trace-found.ensures.refused c.found_reply.ensures.text
    c.found_reply.ensures.refused

use Rattle.std.proofs.Common.{◌≡◌, string_bytes, arith}
use Rattle.std.proofs.lemmas.Result.{IfOk-weaker}
use Rattle.avm_input.specs.Replies.{succeeded}
use Rattle.avm_input.specs.Shown.{draft_shown, reply_shown}
use Rattle.json_views.specs.Runs.{FindsRun, run_too_long}
use Rattle.json_views.proofs.FoundReplies.{found_is_told, run_is_told}
use Rattle.json_views.proofs.run.run_reply.Goals as goal

pub returns-in-Ok : goal.returns-in-Ok
returns-in-Ok g c =
    let status : c.in_ok-lines.lines.status ≡ succeeded = search (arith, c.if-lines-ne-DONE.false) in
    IfOk-weaker c.found_reply.result _ _
    (λ reply found. run_is_told c.args.input.now (reply_shown c.in_ok-lines.lines) (reply_shown reply) (draft_shown c.in-Ok.draft) c.in_ok-lines.ensures status c.in-Ok.ensures.exact found)
    (found_is_told string_bytes reply_shown (FindsRun (draft_shown c.in-Ok.draft)) run_too_long c.run_text-found.result c.found_reply.result c.run_text-found.ensures.found c.run_text-found.ensures.refused c.found_reply.ensures.text c.found_reply.ensures.refused)

use Rattle.json_documents.proofs.ReplyTexts.{lines_reply-not_utf8, lines_reply-utf8}
use Rattle.json_documents.proofs.replies.lines_reply.Goals as goal

pub returns-in-Err : goal.returns-in-Err
returns-in-Err c = rw (lines_reply-not_utf8 c.args.input.now c.in-Err.ensures.cases.0) c.input_refusal.ensures

pub returns-in-Ok : goal.returns-in-Ok
returns-in-Ok c = rw (lines_reply-utf8 c.args.input.now c.in-Ok.text.now c.in-Ok.ensures.cases.1 c.in-Ok.ensures.cases.0) c.text_reply.ensures

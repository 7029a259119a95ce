use Rattle.avm_bytes.proofs.Texts.{assembled_answer-not_utf8, assembled_answer-utf8}
use Rattle.avm_bytes.proofs.programs.assembled_answer.Goals as goal

pub returns-in-Ok : goal.returns-in-Ok
returns-in-Ok c =
    rw (assembled_answer-utf8 c.args.text.now c.in-Ok.text.now c.in-Ok.ensures.cases.1 c.in-Ok.ensures.cases.0) c.assembly_answer.ensures

pub returns-in-Err : goal.returns-in-Err
returns-in-Err c = rw (assembled_answer-not_utf8 c.args.text.now c.in-Err.ensures.cases.0) c.refusal.ensures
